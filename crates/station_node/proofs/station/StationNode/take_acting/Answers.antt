use Rattle.std.proofs.Common.{◌≡◌, ◌∙◌, true, false, sym, ap, subst}
use Rattle.domain_rules.specs.Rows.{Take}
use Rattle.frame_intake.specs.Views.{action_fields}
use Rattle.station_node.specs.State.{State, set_memory}
use Rattle.station_node.specs.Parts.{is_with}
use Rattle.station_node.specs.Steps.{Takes, turn, IsActionFrom}
use Rattle.station_node.specs.contracts.station.StationNode.{the_view}
use Rattle.station_node.proofs.Announced.{kept_state, takes-action_nowhere, takes-action}
use Rattle.station_node.proofs.Placed.{kept_places, with_place}
use Rattle.station_node.proofs.station.StationNode.take_acting.Goals as goal

pub of-kept-requires : goal.of-kept-requires
of-kept-requires c = with_place c.self.inside.session c.args.ap c.self.inside.memories (sym c.is_with.ensures ∙ c.if-not-is_with.false) c.self.invariant.held

pub invariant_of-self : goal.invariant_of-self
invariant_of-self c = kept_places c.self.inside.attempt c.self.inside.session c.self.inside.memories c.args.ap c.take_integrity.new.memory c.self.invariant

pub returns-then-not-is_with : goal.returns-then-not-is_with
returns-then-not-is_with c = λ d low m.
    takes-action_nowhere d c.args.self.now c.args.ap c.args.octets.now (action_fields c.args.frame.now) c.args.out.now.acts c.refuse.new.out.acts c.refuse.result
    (ap (λ (s : State). is_with s.session c.args.ap) (sym c.self.view_is) ∙ sym c.is_with.ensures ∙ c.if-not-is_with.true) m c.requires.whole c.refuse.ensures.outcome c.refuse.ensures.acts c.refuse.ensures.kept

pub returns : goal.returns
returns c = λ d low m.
    let s = the_view c.self.inside in
    let f = action_fields c.args.frame.now in
    subst (λ (y : State). Takes d (Take c.args.octets.now) (turn y (kept_state s (set_memory s.memories c.args.ap c.take_integrity.new.memory)) c.args.out.now.acts c.take_integrity.new.out.acts) c.take_integrity.result) c.self.view_is
    (takes-action d s c.args.ap c.args.octets.now f c.of-kept.result.now c.take_integrity.new.memory c.args.out.now.acts c.take_integrity.new.out.acts c.take_integrity.result (sym c.is_with.ensures ∙ c.if-not-is_with.false) c.self.invariant.held
    c.of-kept.ensures.value (subst (λ (y : State). IsActionFrom d y.number c.args.ap c.args.octets.now f) (sym c.self.view_is) m) c.requires.whole c.take_integrity.ensures.taken c.take_integrity.ensures.same c.take_integrity.ensures.kept)
