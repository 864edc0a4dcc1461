use Rattle.std.proofs.Common.{Some, sym, ap, ◌∙◌}
use Rattle.run_journal.specs.Safe.{up_of}
use Rattle.packet_history.proofs.Own.{used, sourced_by}
use Rattle.packet_history.proofs.sources.is_sourced.Goals as goal

pub returns-in-HandedUp : goal.returns-in-HandedUp
returns-in-HandedUp c = λ r once.
    sourced_by c.args.entry.now c.args.peer_entries.now (used c.in-HandedUp.key c.in-HandedUp.number c.as_slice.result.now) c.use_place-place.result c.uses_at.result
    (ap up_of c.in-HandedUp.is ∙ ap (λ o. Some (used c.in-HandedUp.key c.in-HandedUp.number o)) (sym c.as_slice.ensures)) (c.use_place-place.ensures _ r) once c.uses_at.ensures
