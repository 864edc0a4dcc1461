use Rattle.std.proofs.Common.{ℕ, refl, sym, subst}
use Rattle.domain_rules.specs.Rows.{NodeEvent}
use Rattle.node_base.specs.Changing.{IsStill}
use Rattle.node_base.specs.Events.{event_of}
use Rattle.domain_world.specs.Working.{Turned}
use Rattle.domain_world.proofs.by_ap.act_once.Goals as goal

pub returns-clause-at : goal.returns-clause-at
returns-clause-at c = refl

pub returns-clause-turned : goal.returns-clause-turned
returns-clause-turned c =
    let d = c.args.round.domain.now in
    let seen = c.args.holders.now.pass.knows.seen in
    let ends = c.turn.new.holders.pass.knows.seen in
    subst (λ (e : NodeEvent). Turned d c.args.number e c.args.node.now c.turn.new.ap seen ends c.turn.new.out.acts) c.node_event-event.ensures
    (subst (λ (n : ℕ). Turned d n (event_of c.node_event-event.result) c.args.node.now c.turn.new.ap seen ends c.turn.new.out.acts) c.requires.number c.in_ok-turn.ensures.turned)

pub turn-requires-clause-still : goal.turn-requires-clause-still
turn-requires-clause-still c = subst IsStill (sym c.node_event-event.ensures) c.requires.still
