use Rattle.std.proofs.Common.{sym, ap, ◌∙◌}
use Rattle.std.specs.Prelude.{is_some}
use Rattle.packet_history.proofs.Own.{installs_new}
use Rattle.packet_history.proofs.records.NodePackets.installs_new.Goals as goal

pub returns-in-Some : goal.returns-in-Some
returns-in-Some c = λ own r.
    installs_new c.args.act.now own c.in-Some.packet c.has.result (sym c.install_packet.ensures ∙ c.in-Some.is)
    (c.has.ensures ∙ ap (λ o. is_some o) (r.installed c.in-Some.packet))
