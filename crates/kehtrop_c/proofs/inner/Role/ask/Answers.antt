use Rattle.std.proofs.Common.{sym, ap, ◌∙◌}
use Rattle.std.specs.Prelude.{Option}
use Rattle.domain_base.specs.declared.names.Node.{Node}
use Rattle.node_base.specs.Events.{event_of}
use Rattle.kehtrop_c.specs.Crossing.{asked, event_with}
use Rattle.kehtrop_c.specs.Going.{network, node_of}
use Rattle.kehtrop_c.proofs.Gone.{answered, unanswered}
use Rattle.kehtrop_c.proofs.inner.Role.ask.Goals as goal

pub returns-in-Some : goal.returns-in-Some
returns-in-Some c =
    let r = c.args.self.now in let what = c.args.what in let address = c.args.address.now in let tid = c.args.tid in let octets = c.args.octets.now in
    answered r c.event.new.self (asked (network r) (node_of r) what address tid octets) (event_of c.in-Some.event) c.event.result
    (ap (λ (p : Option Node). event_with what address p tid octets) (sym c.peer_of-peer.ensures) ∙ sym c.in-Some.ensures) c.event.ensures

pub returns-in-None : goal.returns-in-None
returns-in-None c =
    let r = c.args.self.now in let what = c.args.what in let address = c.args.address.now in let tid = c.args.tid in let octets = c.args.octets.now in
    unanswered r (asked (network r) (node_of r) what address tid octets)
    (ap (λ (p : Option Node). event_with what address p tid octets) (sym c.peer_of-peer.ensures) ∙ sym c.in-None.ensures)
