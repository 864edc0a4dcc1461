use Rattle.std.proofs.Common.{refl, sym, ap, subst, ◌∙◌}
use Rattle.rsn_elements.specs.Fields.{element_fields}
use Rattle.run_journal.specs.declared.acts.Outcome.TheVariants.{Refused}
use Rattle.run_journal.specs.declared.acts.Reason.TheVariants as reason
use Rattle.domain_rules.specs.Rows.{Take}
use Rattle.frame_intake.specs.Views.{management_fields}
use Rattle.station_node.specs.Responses.{outcome_by}
use Rattle.station_node.specs.State.{State}
use Rattle.station_node.specs.Parts.{IsNotRequested}
use Rattle.station_node.specs.Steps.{turn}
use Rattle.station_node.proofs.Taken.{takes_by, taken-response_unawaited, taken-response_fault}
use Rattle.station_node.proofs.station.StationNode.take_response.Goals as goal

pub returns-in_default : goal.returns-in_default
returns-in_default c =
    let d = c.args.here.domain.now in
    let m = c.args.managed.now in
    takes_by d (Take m.octets.now) (turn c.args.self.now c.args.self.now c.args.out.now.acts c.refuse.new.out.acts) c.refuse.result (Refused reason.Unawaited) _ c.refuse.ensures.outcome c.refuse.ensures.acts c.refuse.ensures.kept refl
    (λ is. taken-response_unawaited d c.args.self.now c.args.ap m.octets.now (management_fields m.frame) (element_fields m.elements) c.args.out.now.acts c.refuse.new.out.acts c.requires.managed c.requires.kind
    (subst (λ (t : State). IsNotRequested t.attempt c.args.ap) c.self.view_is c.in_default.ensures) is)

pub returns-in-Some-response_fault : goal.returns-in-Some-response_fault
returns-in-Some-response_fault c =
    let d = c.args.here.domain.now in
    let m = c.args.managed.now in
    let why = c.in-Some-response_fault.why in
    takes_by d (Take m.octets.now) (turn c.args.self.now c.args.self.now c.args.out.now.acts c.refuse-in-Some-response_fault.new.out.acts) c.refuse-in-Some-response_fault.result (Refused why) _ c.refuse-in-Some-response_fault.ensures.outcome c.refuse-in-Some-response_fault.ensures.acts c.refuse-in-Some-response_fault.ensures.kept refl
    (λ is. taken-response_fault d c.args.self.now c.args.ap _ m.octets.now (management_fields m.frame) (element_fields m.elements) why c.args.out.now.acts c.refuse-in-Some-response_fault.new.out.acts c.requires.managed c.requires.kind
    (ap (λ (t : State). t.attempt) (sym c.self.view_is) ∙ c.in-Some.ensures) (ap outcome_by (sym c.in-Some-response_fault.is) ∙ c.response_fault.ensures) is)

pub associate-requires-clause-requested : goal.associate-requires-clause-requested
associate-requires-clause-requested c = ap (λ (t : State). t.attempt) (sym c.self.view_is) ∙ c.in-Some.ensures

pub associate-requires-clause-accepts : goal.associate-requires-clause-accepts
associate-requires-clause-accepts c = ap outcome_by (sym c.in_default-response_fault.is) ∙ c.response_fault.ensures
