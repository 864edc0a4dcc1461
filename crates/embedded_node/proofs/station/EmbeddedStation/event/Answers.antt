use Rattle.node_base.specs.Events.{event_of}
use Rattle.embedded_node.proofs.Standing.{station_after}
use Rattle.embedded_node.proofs.station.EmbeddedStation.event.Goals as goal

-- it is the first station of the network after the event
pub invariant_of-self : goal.invariant_of-self
invariant_of-self c =
    let s = c.self.inside in
    station_after s.domain c.follow.new.domain s.node c.step.new.station s.out.acts c.step.new.out.acts (event_of c.args.event.now) c.follow.ensures c.step.ensures.number c.self.invariant
