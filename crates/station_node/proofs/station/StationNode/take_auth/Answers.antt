use Rattle.std.proofs.Common.{◌≡◌, Option, refl, sym, ap, subst, ◌∙◌}
use Rattle.std.specs.Prelude.{IfOk}
use Rattle.domain_base.specs.declared.names.Node.{Node}
use Rattle.domain_base.specs.declared.names.Node.TheVariants.{Ap, Sta}
use Rattle.rsn_elements.specs.Fields.{element_fields}
use Rattle.run_journal.specs.Events.{IsListed, IsPeerOf}
use Rattle.domain_rules.specs.Rows.{Take}
use Rattle.frame_intake.specs.Views.{management_fields}
use Rattle.ft_exchange.specs.Comes.{IsManagementFrom}
use Rattle.ft_exchange.specs.Exchange.{both}
use Rattle.station_node.specs.declared.attempt.Attempt.{Attempt}
use Rattle.station_node.specs.declared.moving.Way.{Way}
use Rattle.station_node.specs.State.{State, HavePlaces}
use Rattle.station_node.specs.Moved.{IsAnswered, move}
use Rattle.station_node.specs.Parts.{IsNotMoving}
use Rattle.station_node.specs.Steps.{Takes, turn}
use Rattle.station_node.specs.contracts.station.StationNode.{the_view}
use Rattle.station_node.proofs.Arriving.{moving_state}
use Rattle.station_node.proofs.Placed.{moving_place}
use Rattle.station_node.proofs.Protected.{takes_named}
use Rattle.station_node.proofs.Reached.{none_moving, other_moving, not_moving, refused-auth, takes-answered}
use Rattle.station_node.proofs.station.StationNode.take_auth.Goals.{in-Some+in-Moving, in-Some+in_default-association, in_default, in_default-via-in-Some+else-with-ap, in_default-via-in_default}
use Rattle.station_node.proofs.station.StationNode.take_auth.Goals as goal

pub answer-requires-clause-listed : goal.answer-requires-clause-listed
answer-requires-clause-listed c = subst (λ (n : Node). IsListed c.args.here.domain.now n) (sym c.requires.node) c.requires.listed

pub answer-requires-clause-peer : goal.answer-requires-clause-peer
answer-requires-clause-peer c = subst (λ (n : Node). IsPeerOf c.args.here.domain.now n (Ap c.args.ap)) (sym c.requires.node) c.requires.ap

-- the station as it was, for one with that attempt
abbrev as_was : (c : goal.Joined-self) → Option Attempt → State
as_was c o = the_view (record { number = c.self.inside.number; drawn = c.self.inside.drawn; attempt = o; session = c.self.inside.session; memories = c.self.inside.memories; r0kh_id = c.self.inside.r0kh_id; derived = c.self.inside.derived })

pub returns : goal.returns
returns c =
    let d = c.args.here.domain.now in
    let s = the_view c.self.inside in
    let m = c.args.managed.now in
    let event = Take m.octets.now in
    let waited = c.args.out.now.acts in
    let now = the_view c.match-self.self-inside in
    let node_is : c.args.here.node ≡ Sta s.number = c.requires.node ∙ ap (λ (t : State). Sta t.number) (sym c.self.view_is) in
    let elsewhere : IsNotMoving c.self.inside.attempt c.args.ap → IsNotMoving c.args.self.now.attempt c.args.ap = λ other. subst (λ (t : State). IsNotMoving t.attempt c.args.ap) c.self.view_is other in
    elim c.match-self.branch [
      | in-Some+in-Moving w ↦ (
          let a = w.in-Some.field-0 in
          let way : Way = record { ap = c.args.ap; r0kh_id = w.as_slice-r0kh_id.result; left = w.peer-left.result } in
          let old = w.in-Moving.originator in
          let new = w.answer.new.originator in
          takes_named d event s c.args.self.now now (moving_state s a.ap new s.memories) waited c.match-self.out.acts w.answer.new.out.acts c.match-self.result w.answer.result c.self.view_is
          (ap the_view w.self-inside-is) (ap (λ o. o.acts) w.out-is) w.result-is
          (takes-answered d s a c.args.ap way m old new waited w.answer.new.out.acts w.answer.result w.in-Some.is w.if-with-ap.true w.in-Moving.is
          (record {
            from = subst (λ (t : State). IsManagementFrom d (Sta t.number) (Ap c.args.ap) m.octets.now (management_fields m.frame) (element_fields m.elements)) (sym c.self.view_is) c.requires.managed;
            ap_is = refl;
            id_is = w.as_slice-r0kh_id.ensures;
            left_is = w.peer-left.ensures;
          })
          c.requires.kind
          (subst (λ (n : Node). IfOk w.answer.result (λ outcome. (ks : _) → IsAnswered d n way m (move (both old ks) (both new ks) waited w.answer.new.out.acts) outcome)) node_is w.answer.ensures.answered)
          w.answer.ensures.same w.answer.ensures.kept))
      | in-Some+in_default-association w ↦ takes_named d event c.args.self.now c.args.self.now now now waited c.match-self.out.acts w.refuse.new.out.acts c.match-self.result w.refuse.result refl refl (ap (λ o. o.acts) w.out-is) w.result-is
          (refused-auth d c.args.self.now now c.args.ap m waited w.refuse.new.out.acts w.refuse.result (ap the_view w.self-inside-is ∙ ap (as_was c) (sym w.in-Some.is) ∙ c.self.view_is) c.requires.managed c.requires.kind
          (elsewhere (not_moving c.self.inside.attempt w.in-Some.field-0 c.args.ap w.in-Some.is w.in_default-association.not-Moving)) w.refuse.ensures.outcome w.refuse.ensures.acts w.refuse.ensures.kept)
      | in_default w ↦ (
          let nothing : the_view w.in_default.self-inside ≡ c.args.self.now → IsNotMoving c.self.inside.attempt c.args.ap → Takes d event (turn c.args.self.now now waited c.match-self.out.acts) c.match-self.result =
          λ same other. takes_named d event c.args.self.now c.args.self.now now now waited c.match-self.out.acts w.refuse-in_default.new.out.acts c.match-self.result w.refuse-in_default.result refl refl (ap (λ o. o.acts) w.out-is) w.result-is
          (refused-auth d c.args.self.now now c.args.ap m waited w.refuse-in_default.new.out.acts w.refuse-in_default.result (ap the_view w.self-inside-is ∙ same) c.requires.managed c.requires.kind
          (elsewhere other) w.refuse-in_default.ensures.outcome w.refuse-in_default.ensures.acts w.refuse-in_default.ensures.kept) in
          elim w.in_default.branch [
            | in_default-via-in-Some+else-with-ap v ↦ nothing (ap the_view v.self-inside-is ∙ ap (as_was c) (sym v.in-Some.is) ∙ c.self.view_is) (other_moving c.self.inside.attempt v.in-Some.field-0 c.args.ap v.in-Some.is v.if-with-ap.false)
            | in_default-via-in_default v ↦ nothing (ap the_view v.self-inside-is ∙ c.self.view_is) (none_moving c.self.inside.attempt c.args.ap v.in_default.is)
          ])
    ]

-- the places that such a station has
abbrev places : State → Type 0
places y = HavePlaces y.attempt y.session y.memories

pub invariant_of-self : goal.invariant_of-self
invariant_of-self c =
    let with_attempt = λ (o : Option Attempt). HavePlaces o c.self.inside.session c.self.inside.memories in
    elim c.match-self.branch [
      | in-Some+in-Moving w ↦ subst places (sym (ap the_view w.self-inside-is))
          (record { tried = moving_place c.self.inside.attempt w.in-Some.field-0 w.in-Moving.originator c.self.inside.memories w.in-Some.is w.in-Moving.is c.self.invariant.tried; held = c.self.invariant.held })
      | in-Some+in_default-association w ↦ subst places (sym (ap the_view w.self-inside-is)) (subst with_attempt w.in-Some.is c.self.invariant)
      | in_default w ↦ subst places (sym (ap the_view w.self-inside-is)) (elim w.in_default.branch [
        | in_default-via-in-Some+else-with-ap v ↦ subst places (sym (ap the_view v.self-inside-is)) (subst with_attempt v.in-Some.is c.self.invariant)
        | in_default-via-in_default v ↦ subst places (sym (ap the_view v.self-inside-is)) c.self.invariant
      ])
    ]
