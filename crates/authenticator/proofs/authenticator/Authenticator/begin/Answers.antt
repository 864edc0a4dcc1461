use Rattle.std.proofs.Common.{false, refl, sym, ap, subst, ◌∙◌}
use Rattle.std.specs.Prelude.{is_some}
use Rattle.domain_base.specs.declared.names.Node.{Node}
use Rattle.domain_base.specs.declared.names.Node.TheVariants.{Ap, Sta}
use Rattle.authenticator.specs.declared.authenticator.ApStart.{ApStart}
use Rattle.authenticator.specs.declared.authenticator.ApStart.TheVariants.{Connect, Ft}
use Rattle.authenticator.specs.Starts.{first_acts}
use Rattle.authenticator.specs.Begins.{StandsAtFirst}
use Rattle.authenticator.specs.Groups.{transferred}
use Rattle.authenticator.specs.Judged.{begun}
use Rattle.authenticator.specs.State.{State}
use Rattle.authenticator.proofs.Beginning.{association_of, begins, transfers}
use Rattle.authenticator.specs.Kinds.{kinds, kinds_at_first}
use Rattle.authenticator.specs.Beside.{attempt_at_first}
use Rattle.authenticator.proofs.authenticator.Authenticator.begin.Goals as goal

pub returns-in-Connect-clause-sends : goal.returns-in-Connect-clause-sends
returns-in-Connect-clause-sends c =
    let d = c.args.domain.now in
    let n : Node = Ap c.args.ap in
    let p : Node = Sta c.args.sta in
    c.with_attempt.ensures.sends d n p c.between-ends.ensures.ends ∙ sym (ap (λ (z : ApStart). first_acts d n p z) c.in-Connect.is)

pub returns-in-Connect-clause-stands : goal.returns-in-Connect-clause-stands
returns-in-Connect-clause-stands c =
    let d = c.args.domain.now in
    let n : Node = Ap c.args.ap in
    let p : Node = Sta c.args.sta in
    let anonce = c.in-Connect.anonce in
    let rsne = c.in-Connect.rsne in
    subst (λ (z : ApStart). StandsAtFirst d n p z c.with_attempt.result) (sym c.in-Connect.is)
    (subst (λ (s : State). StandsAtFirst d n p (Connect anonce rsne) s) (sym c.with_attempt.ensures.value)
    (λ h session at held. begins d n p c.between-ends.result c.of-base.result anonce.now rsne.now (begun (association_of c.of-base.result rsne.now) false 1 anonce.now) session c.between-ends.ensures.ends c.of-base.ensures.base c.with_attempt.ensures.addresses refl h at held))

pub returns-in-Ft-clause-stands : goal.returns-in-Ft-clause-stands
returns-in-Ft-clause-stands c =
    let d = c.args.domain.now in
    let n : Node = Ap c.args.ap in
    let p : Node = Sta c.args.sta in
    let ptk = c.in-Ft.ptk in
    subst (λ (z : ApStart). StandsAtFirst d n p z c.after_transition.result) (sym c.in-Ft.is)
    (subst (λ (s : State). StandsAtFirst d n p (Ft ptk) s) (sym c.after_transition.ensures)
    (λ h at. transfers d n p c.between-ends.result ptk.now (transferred ptk.now) c.between-ends.ensures.ends refl h at))

pub returns-in-Connect-clause-attempt : goal.returns-in-Connect-clause-attempt
returns-in-Connect-clause-attempt c = ap (λ (s : State). is_some s.attempt) c.with_attempt.ensures.value ∙ sym (ap attempt_at_first c.in-Connect.is)

pub returns-in-Ft-clause-attempt : goal.returns-in-Ft-clause-attempt
returns-in-Ft-clause-attempt c = ap (λ (s : State). is_some s.attempt) c.after_transition.ensures ∙ sym (ap attempt_at_first c.in-Ft.is)

pub returns-in-Connect-clause-kinds : goal.returns-in-Connect-clause-kinds
returns-in-Connect-clause-kinds c = ap kinds c.with_attempt.ensures.value ∙ sym (ap kinds_at_first c.in-Connect.is)

pub returns-in-Ft-clause-kinds : goal.returns-in-Ft-clause-kinds
returns-in-Ft-clause-kinds c = ap kinds c.after_transition.ensures ∙ sym (ap kinds_at_first c.in-Ft.is)
