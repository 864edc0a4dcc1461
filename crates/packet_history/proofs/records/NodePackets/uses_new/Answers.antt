use Rattle.std.proofs.Common.{sym, ap, ◌∙◌}
use Rattle.std.specs.Prelude.{is_some}
use Rattle.packet_history.proofs.Own.{uses_new}
use Rattle.packet_history.proofs.records.NodePackets.uses_new.Goals as goal

pub returns-in-Some : goal.returns-in-Some
returns-in-Some c = λ own r.
    uses_new c.args.act.now own c.in-Some.packet c.has.result (sym c.use_packet.ensures ∙ c.in-Some.is)
    (c.has.ensures ∙ ap (λ o. is_some o) (r.used c.in-Some.packet))
