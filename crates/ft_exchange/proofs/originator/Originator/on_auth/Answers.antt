use Rattle.std.proofs.Common.{◌∙◌, Option, refl, sym, ap, subst}
use Rattle.std.specs.Prelude.{option_map}
use Rattle.rsn_elements.specs.declared.transition.Fte.{Fte}
use Rattle.rsn_elements.specs.Fields.{fte_fields, element_fields}
use Rattle.run_journal.specs.declared.acts.Outcome.{Outcome}
use Rattle.ft_exchange.specs.Judged.{wanted}
use Rattle.ft_exchange.specs.OriginatorSteps.{IsAuthTaken}
use Rattle.ft_exchange.specs.State.{OriginatorState}
use Rattle.ft_exchange.proofs.Sending.{reason_is}
use Rattle.ft_exchange.proofs.StationAuths.{auth_unawaited, auth_fault, auth_no_fte}
use Rattle.ft_exchange.proofs.StationGoesOn.{auth_accepted}
use Rattle.ft_exchange.proofs.originator.Originator.on_auth.Goals as goal

pub returns-in_default : goal.returns-in_default
returns-in_default c =
    auth_unawaited c.args.status (element_fields c.args.elements.now) c.args.self.now c.empty.result c.empty.ensures (λ is. c.in_default.not-Asked (ap (λ (x : OriginatorState). x.stage) c.self.view_is ∙ is))

pub returns-in-Some : goal.returns-in-Some
returns-in-Some c =
    auth_fault c.args.status (element_fields c.args.elements.now) c.args.self.now c.in-Some.why c.empty.result c.empty.ensures (ap (λ (x : OriginatorState). x.stage) (sym c.self.view_is) ∙ c.in-Asked.is)
    (reason_is c.args.self.now (wanted c.expects-expected.result) c.r0_name.result c.self.inside.snonce c.args.self.now.r0 c.args.status (element_fields c.args.elements.now) c.auth_response_fault.result c.auth_response_fault.ensures c.expects-expected.ensures c.r0_name.ensures
    refl (ap (λ (x : OriginatorState). x.snonce) c.self.view_is) ∙ c.in-Some.is)

pub returns-in-Some-fte : goal.returns-in-Some-fte
returns-in-Some-fte c =
    subst (λ (o : Outcome). IsAuthTaken c.args.status (element_fields c.args.elements.now) c.args.self.now c.go_on.new.self o c.go_on.new.reply) (sym c.go_on.ensures.outcome)
    (auth_accepted c.args.status (element_fields c.args.elements.now) c.args.self.now c.go_on.new.self (fte_fields c.in-Some-fte.fte) c.go_on.new.reply (ap (λ (x : OriginatorState). x.stage) (sym c.self.view_is) ∙ c.in-Asked.is)
    (ap (λ (o : Option Fte). option_map fte_fields o) c.in-Some-fte.is)
    (reason_is c.args.self.now (wanted c.expects-expected.result) c.r0_name.result c.self.inside.snonce c.args.self.now.r0 c.args.status (element_fields c.args.elements.now) c.auth_response_fault.result c.auth_response_fault.ensures c.expects-expected.ensures c.r0_name.ensures
    refl (ap (λ (x : OriginatorState). x.snonce) c.self.view_is) ∙ c.in_default-auth_response_fault.is)
    c.go_on.ensures.goes)

pub returns-in-None : goal.returns-in-None
returns-in-None c =
    absurd (auth_no_fte _ c.args.self.now.snonce c.args.status (element_fields c.args.elements.now)
    (reason_is c.args.self.now (wanted c.expects-expected.result) c.r0_name.result c.self.inside.snonce c.args.self.now.r0 c.args.status (element_fields c.args.elements.now) c.auth_response_fault.result c.auth_response_fault.ensures c.expects-expected.ensures c.r0_name.ensures
    refl (ap (λ (x : OriginatorState). x.snonce) c.self.view_is) ∙ c.in_default-auth_response_fault.is)
    (ap (λ (o : Option Fte). option_map fte_fields o) c.in-None.is))
