use Rattle.std.proofs.Common.{◌≡◌, ℕ, Option, refl, sym, ap, subst, ◌∙◌}
use Rattle.domain_base.specs.declared.names.Node.TheVariants.{Ap, Sta}
use Rattle.domain_base.specs.declared.names.Peer.TheVariants.{One}
use Rattle.run_journal.specs.declared.acts.Why.TheVariants.{NoKey}
use Rattle.run_journal.specs.declared.acts.Outcome.TheVariants.{Idle as IdleBy}
use Rattle.domain_rules.specs.Rows.{Send}
use Rattle.station_node.specs.declared.session.Session.{Session}
use Rattle.station_node.specs.State.{State, HavePlaces}
use Rattle.station_node.specs.Parts.{peer_of_session, IsElsewhere}
use Rattle.station_node.specs.Steps.{Takes, turn}
use Rattle.station_node.specs.contracts.station.StationNode.{the_view}
use Rattle.station_node.proofs.Handed.{held_state}
use Rattle.station_node.proofs.Placed.{held_place, no_session_there, other_session}
use Rattle.station_node.proofs.Taken.{takes_by}
use Rattle.station_node.proofs.Protected.{takes-sent, not_sent, other_receiver, takes_named}
use Rattle.station_node.proofs.station.StationNode.send.Goals.{in-Some, in_default, in_default-via-in-Some+else-ap-with, in_default-via-in_default}
use Rattle.station_node.proofs.station.StationNode.send.Goals as goal

-- the station as it was, for one with that session
abbrev as_was : (c : goal.Joined-self) → Option Session → State
as_was c o = the_view (record { number = c.self.inside.number; drawn = c.self.inside.drawn; attempt = c.self.inside.attempt; session = o; memories = c.self.inside.memories; r0kh_id = c.self.inside.r0kh_id; derived = c.self.inside.derived })

pub returns : goal.returns
returns c =
    let d = c.args.here.domain.now in
    let s = the_view c.self.inside in
    let event = Send c.args.to c.args.tid c.args.payload.now in
    let waited = c.args.out.now.acts in
    elim c.match-self.branch [
      | in-Some w ↦ (let z = w.in-Some.field-0 in
          takes_named d event s c.args.self.now (the_view c.match-self.self-inside) (held_state s z.ap z.supplicant w.send.new.self s.memories) waited c.match-self.out.acts w.send.new.out.acts c.match-self.result w.send.result c.self.view_is
          (ap the_view w.self-inside-is) (ap (λ o. o.acts) w.out-is) w.result-is
          (takes-sent d s c.args.here.node c.args.to c.args.tid c.args.payload.now z w.send.new.self waited w.send.new.out.acts w.send.result w.in-Some.is
          (c.receiver_number-with.ensures ∙ ap (λ (q : ℕ). One (Ap q)) (sym w.if-ap-with.true)) (c.requires.node ∙ ap (λ (t : State). Sta t.number) (sym c.self.view_is))
          w.send.ensures.acts w.send.ensures.outcome w.send.ensures.used w.send.ensures.same w.send.ensures.kept))
      | in_default w ↦ (
          let nothing : the_view w.in_default.self-inside ≡ c.args.self.now → IsElsewhere (peer_of_session c.self.inside.session) c.receiver_number-with.result
          → Takes d event (turn c.args.self.now (the_view c.match-self.self-inside) waited c.match-self.out.acts) c.match-self.result =
          λ same other. takes_named d event c.args.self.now c.args.self.now (the_view c.match-self.self-inside) (the_view c.match-self.self-inside) waited c.match-self.out.acts w.idle.new.out.acts c.match-self.result w.idle.result refl refl (ap (λ o. o.acts) w.out-is) w.result-is
          (takes_by d event (turn c.args.self.now (the_view c.match-self.self-inside) waited w.idle.new.out.acts) w.idle.result (IdleBy NoKey) _ w.idle.ensures.outcome w.idle.ensures.acts w.idle.ensures.kept (ap the_view w.self-inside-is ∙ same)
          (λ is. not_sent d c.args.self.now (the_view c.match-self.self-inside) c.args.to c.args.tid c.args.payload.now waited waited w.idle.new.out.acts (ap the_view w.self-inside-is ∙ same) c.requires.receiver
          (other_receiver (peer_of_session c.args.self.now.session) c.args.to c.receiver_number-with.result c.receiver_number-with.ensures (subst (λ (t : State). IsElsewhere (peer_of_session t.session) c.receiver_number-with.result) c.self.view_is other))
          refl is)) in
          elim w.in_default.branch [
            | in_default-via-in-Some+else-ap-with v ↦ nothing (ap the_view v.self-inside-is ∙ ap (as_was c) (sym v.in-Some.is) ∙ c.self.view_is) (other_session c.self.inside.session v.in-Some.field-0 c.receiver_number-with.result v.in-Some.is v.if-ap-with.false)
            | in_default-via-in_default v ↦ nothing (ap the_view v.self-inside-is ∙ c.self.view_is) (no_session_there c.self.inside.session c.receiver_number-with.result v.in_default.is)
          ])
    ]

-- the places that such a station has
abbrev places : State → Type 0
places y = HavePlaces y.attempt y.session y.memories

pub invariant_of-self : goal.invariant_of-self
invariant_of-self c =
    let with_session = λ (x : Option Session). HavePlaces c.self.inside.attempt x c.self.inside.memories in
    elim c.match-self.branch [
      | in-Some w ↦ subst places (sym (ap the_view w.self-inside-is))
          (record { tried = c.self.invariant.tried; held = held_place c.self.inside.session w.in-Some.field-0 c.self.inside.memories w.in-Some.is c.self.invariant.held })
      | in_default w ↦ subst places (sym (ap the_view w.self-inside-is)) (elim w.in_default.branch [
        | in_default-via-in-Some+else-ap-with v ↦ subst places (sym (ap the_view v.self-inside-is)) (subst with_session v.in-Some.is c.self.invariant)
        | in_default-via-in_default v ↦ subst places (sym (ap the_view v.self-inside-is)) c.self.invariant
      ])
    ]
