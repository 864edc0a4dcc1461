use Rattle.std.proofs.Common.{◌<◌, length, set, ap, ◌∙◌, rules}
use Rattle.key_holders.specs.declared.rows.HeldRow.{HeldRow}
use Rattle.key_holders.proofs.Ending.{ended_next}
use Rattle.key_holders.proofs.holder_rows.HolderRows.end.Goals as goal

pub loop-place-preserved : goal.loop-place-preserved
loop-place-preserved c =
    let within : c.loop-place.place < length c.self.inside.0.items = search rules in
    ap (λ (h : HeldRow). set c.loop-place.self-inside.0.items c.loop-place.place h) c.ended_row.ensures
    ∙ ended_next c.args.name.now c.self.inside.0.items c.loop-place.self-inside.0.items c.loop-place.place c.index.result.now within c.loop-place.invariant c.index.ensures
