use Rattle.std.proofs.Common.{◌≡◌, Option, sym, ap, subst, ◌∙◌, ℕ, true}
use Rattle.run_journal.specs.declared.domain.Domain.{Domain}
use Rattle.domain_rules.specs.Rows.{Take}
use Rattle.frame_intake.specs.Views.{sealed_fields}
use Rattle.station_node.specs.declared.session.Session.{Session}
use Rattle.station_node.specs.State.{State, HavePlaces, is_there, set_memory}
use Rattle.station_node.specs.Parts.{peer_of_session, IsElsewhere}
use Rattle.station_node.specs.Steps.{Takes, turn, IsDataFrom}
use Rattle.station_node.specs.contracts.station.StationNode.{the_view}
use Rattle.station_node.proofs.Handed.{held_state}
use Rattle.station_node.proofs.Placed.{held_place, held_places, no_session_there, other_session}
use Rattle.station_node.proofs.Protected.{takes-pairwise, takes-group, refused-no_session}
use Rattle.station_node.proofs.station.StationNode.take_data.Goals.{in_default-via-in-Some+else-with-ap, in_default-via-in_default}
use Rattle.station_node.proofs.station.StationNode.take_data.Goals as goal

pub of-kept-requires : goal.of-kept-requires
of-kept-requires c = subst (λ (q : ℕ). is_there c.self.inside.memories q ≡ true) c.if-with-ap.true (held_place c.self.inside.session c.in-Some.field-0 c.self.inside.memories c.in-Some.is c.self.invariant.held)

pub invariant_of-self-then-with-ap : goal.invariant_of-self-then-with-ap
invariant_of-self-then-with-ap c = record { tried = c.self.invariant.tried; held = held_place c.self.inside.session c.in-Some.field-0 c.self.inside.memories c.in-Some.is c.self.invariant.held }

pub invariant_of-self : goal.invariant_of-self
invariant_of-self c =
    held_places c.self.inside.attempt c.self.inside.session c.in-Some.field-0 _ _ c.self.inside.memories c.args.ap c.take_group.new.memory c.in-Some.is c.self.invariant

pub invariant_of-self-else-with-ap : goal.invariant_of-self-else-with-ap
invariant_of-self-else-with-ap c = subst (λ (x : Option Session). HavePlaces c.self.inside.attempt x c.self.inside.memories) c.in-Some.is c.self.invariant

pub returns-then-is_group : goal.returns-then-is_group
returns-then-is_group c = λ d low m.
    let s = the_view c.self.inside in
    let z = c.in-Some.field-0 in
    let f = sealed_fields c.args.frame.now in
    subst (λ (y : State). Takes d (Take c.args.octets.now) (turn y (held_state s z.ap z.supplicant z.key (set_memory s.memories c.args.ap c.take_group.new.memory)) c.args.out.now.acts c.take_group.new.out.acts) c.take_group.result) c.self.view_is
    (takes-group d s c.args.ap c.args.octets.now f z c.of-kept.result.now c.take_group.new.memory c.args.out.now.acts c.take_group.new.out.acts c.take_group.result
    (record { is = c.in-Some.is; here = c.if-with-ap.true; place = c.self.invariant.held; value = c.of-kept.ensures.value })
    (subst (λ (y : State). IsDataFrom d y.number c.args.ap c.args.octets.now f) (sym c.self.view_is) m) c.requires.whole (sym c.is_group.ensures ∙ c.if-is_group.true)
    c.take_group.ensures.taken c.take_group.ensures.same c.take_group.ensures.kept)

pub returns-else-is_group : goal.returns-else-is_group
returns-else-is_group c = λ d low m.
    let s = the_view c.self.inside in
    let z = c.in-Some.field-0 in
    let f = sealed_fields c.args.frame.now in
    subst (λ (y : State). Takes d (Take c.args.octets.now) (turn y (held_state s z.ap z.supplicant c.take.new.self s.memories) c.args.out.now.acts c.take.new.out.acts) c.take.result) c.self.view_is
    (takes-pairwise d s c.args.ap c.args.octets.now f z c.take.new.self c.args.out.now.acts c.take.new.out.acts c.take.result c.in-Some.is c.if-with-ap.true
    (subst (λ (y : State). IsDataFrom d y.number c.args.ap c.args.octets.now f) (sym c.self.view_is) m) c.requires.whole (sym c.is_group.ensures ∙ c.if-is_group.false)
    c.take.ensures.taken c.take.ensures.same c.take.ensures.kept)

-- the station as it was, for one with that session
abbrev as_was : (c : goal.After-refuse) → Option Session → State
as_was c o = the_view (record { number = c.self.inside.number; drawn = c.self.inside.drawn; attempt = c.self.inside.attempt; session = o; memories = c.self.inside.memories; r0kh_id = c.self.inside.r0kh_id; derived = c.self.inside.derived })

nowhere : (c : goal.After-refuse) → c.in_default.self ≡ c.args.self.now → IsElsewhere (peer_of_session c.self.inside.session) c.args.ap → (d : Domain) → IsDataFrom d c.args.self.now.number c.args.ap c.args.octets.now (sealed_fields c.args.frame.now)
    → Takes d (Take c.args.octets.now) (turn c.args.self.now c.in_default.self c.args.out.now.acts c.refuse.new.out.acts) c.refuse.result
nowhere c same held d m =
    refused-no_session d c.args.self.now c.in_default.self c.args.ap c.args.octets.now (sealed_fields c.args.frame.now) c.args.out.now.acts c.refuse.new.out.acts c.refuse.result same m
    (subst (λ (t : State). IsElsewhere (peer_of_session t.session) c.args.ap) c.self.view_is held) c.refuse.ensures.outcome c.refuse.ensures.acts c.refuse.ensures.kept

pub returns-in_default : goal.returns-in_default
returns-in_default c = λ d low m. elim c.in_default.branch [
  | in_default-via-in-Some+else-with-ap w ↦ nowhere c (w.self-is ∙ ap (as_was c) (sym w.in-Some.is) ∙ c.self.view_is) (other_session c.self.inside.session w.in-Some.field-0 c.args.ap w.in-Some.is w.if-with-ap.false) d m
  | in_default-via-in_default w ↦ nowhere c (w.self-is ∙ c.self.view_is) (no_session_there c.self.inside.session c.args.ap w.in_default.is) d m
]
