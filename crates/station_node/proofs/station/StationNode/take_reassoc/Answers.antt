use Rattle.std.proofs.Common.{◌≡◌, ◌<◌, length, Option, refl, sym, ap, subst, ◌∙◌, ℕ, true}
use Rattle.domain_base.specs.declared.names.Node.{Node}
use Rattle.domain_base.specs.declared.names.Node.TheVariants.{Ap, Sta}
use Rattle.rsn_elements.specs.Fields.{element_fields}
use Rattle.run_journal.specs.Events.{IsListed, IsPeerOf}
use Rattle.domain_rules.specs.Rows.{Take}
use Rattle.frame_intake.specs.Views.{management_fields}
use Rattle.ft_exchange.specs.Comes.{IsManagementFrom}
use Rattle.ft_exchange.specs.Exchange.{both}
use Rattle.station_node.specs.declared.attempt.Attempt.{Attempt}
use Rattle.station_node.specs.declared.moving.Way.{Way}
use Rattle.station_node.specs.State.{State, HavePlaces, is_there, set_memory}
use Rattle.station_node.specs.Moved.{IsArrived, move}
use Rattle.station_node.specs.Parts.{IsNotMoving}
use Rattle.station_node.specs.Steps.{IsTaken, Takes, turn}
use Rattle.station_node.specs.contracts.station.StationNode.{the_view}
use Rattle.station_node.proofs.Arriving.{moving_state}
use Rattle.station_node.proofs.Placed.{moving_place, moving_places, arrived_places, takes_nothing}
use Rattle.station_node.proofs.Roamed.{left-moving}
use Rattle.station_node.proofs.Reached.{none_moving, other_moving, not_moving, refused-reassoc, with_session, handed-moving, handed-arrived}
use Rattle.station_node.proofs.station.StationNode.take_reassoc.Goals.{in_default-via-in-Some+else-with-ap, in_default-via-in_default}
use Rattle.station_node.proofs.station.StationNode.take_reassoc.Goals as goal

pub arrive-requires-clause-listed : goal.arrive-requires-clause-listed
arrive-requires-clause-listed c = subst (λ (n : Node). IsListed c.args.here.domain.now n) (sym c.requires.node) c.requires.listed

pub arrive-requires-clause-peer : goal.arrive-requires-clause-peer
arrive-requires-clause-peer c = subst (λ (n : Node). IsPeerOf c.args.here.domain.now n (Ap c.args.ap)) (sym c.requires.node) c.requires.ap

pub transferred-session-requires-clause-ap : goal.transferred-session-requires-clause-ap
transferred-session-requires-clause-ap c = c.requires.ap

pub transferred-session-requires-clause-form : goal.transferred-session-requires-clause-form
transferred-session-requires-clause-form c = c.requires.form

pub of-kept-requires : goal.of-kept-requires
of-kept-requires c = subst (λ (q : ℕ). is_there c.self.inside.memories q ≡ true) c.if-with-ap.true (moving_place c.self.inside.attempt c.in-Some.field-0 c.in-Moving.originator c.self.inside.memories c.in-Some.is c.in-Moving.is c.self.invariant.tried)

pub invariant_of-self-in_default-association : goal.invariant_of-self-in_default-association
invariant_of-self-in_default-association c = subst (λ (o : Option Attempt). HavePlaces o c.self.inside.session c.self.inside.memories) c.in-Some.is c.self.invariant

pub returns-in_err-came-in-Moving : goal.returns-in_err-came-in-Moving
returns-in_err-came-in-Moving c =
    let s = the_view c.self.inside in
    let same = c.in_err-came-in-Moving.ensures.same in
    takes_nothing c.args.here.domain.now (Take c.args.managed.now.octets.now) (turn c.args.self.now (moving_state s c.in-Some.field-0.ap c.arrive.new.originator (set_memory s.memories c.args.ap c.arrive.new.memory)) c.args.out.now.acts c.arrive.new.out.acts) c.from_residual.result c.from_residual.ensures.0
    (left-moving s c.in-Some.field-0 c.args.ap c.in-Moving.originator c.arrive.new.originator c.of-kept.result.now c.arrive.new.memory c.in-Some.is c.in-Moving.is same.0 same.1 c.of-kept.ensures.value ∙ c.self.view_is)
    c.in_err-came-in-Moving.ensures.kept

pub invariant_of-self : goal.invariant_of-self
invariant_of-self c =
    moving_places c.self.inside.attempt c.self.inside.session c.in-Some.field-0 c.in-Moving.originator c.arrive.new.originator c.self.inside.memories c.args.ap c.arrive.new.memory c.in-Some.is c.in-Moving.is c.self.invariant

pub transferred-session-requires-clause-sta : goal.transferred-session-requires-clause-sta
transferred-session-requires-clause-sta c = subst (λ (t : State). t.number < length c.args.here.domain.now.stas) (sym c.self.view_is) c.requires.listed

pub invariant_of-self-in-Some-installed : goal.invariant_of-self-in-Some-installed
invariant_of-self-in-Some-installed c =
    arrived_places c.self.inside.attempt c.self.inside.session c.in-Some.field-0 c.in-Moving.originator c.transferred-session.result c.args.ap c.self.inside.memories c.args.ap c.arrive.new.memory c.in-Some.is c.in-Moving.is c.if-with-ap.true c.transferred-session.ensures.ap c.self.invariant

pub invariant_of-self-in_default-installed : goal.invariant_of-self-in_default-installed
invariant_of-self-in_default-installed c =
    moving_places c.self.inside.attempt c.self.inside.session c.in-Some.field-0 c.in-Moving.originator c.arrive.new.originator c.self.inside.memories c.args.ap c.arrive.new.memory c.in-Some.is c.in-Moving.is c.self.invariant

pub returns-in-Some-installed : goal.returns-in-Some-installed
returns-in-Some-installed c =
    let d = c.args.here.domain.now in
    let s = the_view c.self.inside in
    let m = c.args.managed.now in
    let waited = c.args.out.now.acts in
    let waits = c.arrive.new.out.acts in
    let came = c.in_ok-came-in-Moving.came in
    let had = c.of-kept.result.now in
    let way : Way = record { ap = c.args.ap; r0kh_id = c.as_slice-r0kh_id.result; left = c.peer-left.result } in
    let t = move (both c.in-Moving.originator had) (both c.arrive.new.originator c.arrive.new.memory) waited waits in
    let node_is : c.args.here.node ≡ Sta s.number = c.requires.node ∙ ap (λ (y : State). Sta y.number) (sym c.self.view_is) in
    subst (λ (y : State). IsTaken d (Take m.octets.now) (turn y (with_session s c.transferred-session.result (set_memory s.memories c.args.ap c.arrive.new.memory)) waited waits) came.outcome) c.self.view_is
    (handed-arrived d s c.in-Some.field-0 c.args.ap way m c.in-Moving.originator c.arrive.new.originator c.transferred-session.result c.in-Some-installed.key had c.arrive.new.memory waited waits came c.in-Some.is c.if-with-ap.true c.in-Moving.is
    (record { place = c.self.invariant.tried; value = c.of-kept.ensures.value })
    (record {
      from = subst (λ (y : State). IsManagementFrom d (Sta y.number) (Ap c.args.ap) m.octets.now (management_fields m.frame) (element_fields m.elements)) (sym c.self.view_is) c.requires.managed;
      ap_is = refl;
      id_is = c.as_slice-r0kh_id.ensures;
      left_is = c.peer-left.ensures;
    })
    c.requires.kind (subst (λ (n : Node). IsArrived d n way m t came) node_is c.in_ok-came-in-Moving.ensures.arrived) c.in-Some-installed.is c.transferred-session.ensures.ap c.transferred-session.ensures.begun c.transferred-session.ensures.key)

pub returns-in_default-installed : goal.returns-in_default-installed
returns-in_default-installed c =
    let d = c.args.here.domain.now in
    let s = the_view c.self.inside in
    let m = c.args.managed.now in
    let waited = c.args.out.now.acts in
    let waits = c.arrive.new.out.acts in
    let came = c.in_ok-came-in-Moving.came in
    let had = c.of-kept.result.now in
    let way : Way = record { ap = c.args.ap; r0kh_id = c.as_slice-r0kh_id.result; left = c.peer-left.result } in
    let t = move (both c.in-Moving.originator had) (both c.arrive.new.originator c.arrive.new.memory) waited waits in
    let node_is : c.args.here.node ≡ Sta s.number = c.requires.node ∙ ap (λ (y : State). Sta y.number) (sym c.self.view_is) in
    subst (λ (y : State). IsTaken d (Take m.octets.now) (turn y (moving_state s c.in-Some.field-0.ap c.arrive.new.originator (set_memory s.memories c.args.ap c.arrive.new.memory)) waited waits) came.outcome) c.self.view_is
    (handed-moving d s c.in-Some.field-0 c.args.ap way m c.in-Moving.originator c.arrive.new.originator had c.arrive.new.memory waited waits came c.in-Some.is c.if-with-ap.true c.in-Moving.is
    (record { place = c.self.invariant.tried; value = c.of-kept.ensures.value })
    (record {
      from = subst (λ (y : State). IsManagementFrom d (Sta y.number) (Ap c.args.ap) m.octets.now (management_fields m.frame) (element_fields m.elements)) (sym c.self.view_is) c.requires.managed;
      ap_is = refl;
      id_is = c.as_slice-r0kh_id.ensures;
      left_is = c.peer-left.ensures;
    })
    c.requires.kind (subst (λ (n : Node). IsArrived d n way m t came) node_is c.in_ok-came-in-Moving.ensures.arrived) c.in_default-installed.is)

pub returns-in_default-association : goal.returns-in_default-association
returns-in_default-association c =
    let same = ap (λ (o : Option Attempt). the_view (record { number = c.self.inside.number; drawn = c.self.inside.drawn; attempt = o; session = c.self.inside.session; memories = c.self.inside.memories; r0kh_id = c.self.inside.r0kh_id; derived = c.self.inside.derived })) (sym c.in-Some.is) ∙ c.self.view_is in
    refused-reassoc c.args.here.domain.now c.args.self.now _ c.args.ap c.args.managed.now c.args.out.now.acts c.refuse.new.out.acts c.refuse.result same c.requires.managed c.requires.kind
    (subst (λ (t : State). IsNotMoving t.attempt c.args.ap) c.self.view_is (not_moving c.self.inside.attempt c.in-Some.field-0 c.args.ap c.in-Some.is c.in_default-association.not-Moving))
    c.refuse.ensures.outcome c.refuse.ensures.acts c.refuse.ensures.kept

-- the station as it was, for one with that attempt
abbrev as_was : (c : goal.After-refuse-in_default) → Option Attempt → State
as_was c o = the_view (record { number = c.self.inside.number; drawn = c.self.inside.drawn; attempt = o; session = c.self.inside.session; memories = c.self.inside.memories; r0kh_id = c.self.inside.r0kh_id; derived = c.self.inside.derived })

nowhere : (c : goal.After-refuse-in_default) → c.in_default.self ≡ c.args.self.now → IsNotMoving c.self.inside.attempt c.args.ap
    → Takes c.args.here.domain.now (Take c.args.managed.now.octets.now) (turn c.args.self.now c.in_default.self c.args.out.now.acts c.refuse-in_default.new.out.acts) c.refuse-in_default.result
nowhere c same other =
    refused-reassoc c.args.here.domain.now c.args.self.now c.in_default.self c.args.ap c.args.managed.now c.args.out.now.acts c.refuse-in_default.new.out.acts c.refuse-in_default.result same c.requires.managed c.requires.kind
    (subst (λ (t : State). IsNotMoving t.attempt c.args.ap) c.self.view_is other) c.refuse-in_default.ensures.outcome c.refuse-in_default.ensures.acts c.refuse-in_default.ensures.kept

pub returns-in_default : goal.returns-in_default
returns-in_default c = elim c.in_default.branch [
  | in_default-via-in-Some+else-with-ap w ↦ nowhere c (w.self-is ∙ ap (as_was c) (sym w.in-Some.is) ∙ c.self.view_is) (other_moving c.self.inside.attempt w.in-Some.field-0 c.args.ap w.in-Some.is w.if-with-ap.false)
  | in_default-via-in_default w ↦ nowhere c (w.self-is ∙ c.self.view_is) (none_moving c.self.inside.attempt c.args.ap w.in_default.is)
]

pub invariant_of-self-else-with-ap : goal.invariant_of-self-else-with-ap
invariant_of-self-else-with-ap c = subst (λ (o : Option Attempt). HavePlaces o c.self.inside.session c.self.inside.memories) c.in-Some.is c.self.invariant
