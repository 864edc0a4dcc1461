-- Each way in which a station takes an authentication response.
use Rattle.std.proofs.Common.{◌≡◌, ◌∙◌, ℕ, Bool, true, false, List, Option, Some, None, refl, ap}
use Rattle.std.specs.Prelude.{◌==◌, not}
use Rattle.key_hierarchy.specs.FastTransition.{pmk_r0_name}
use Rattle.rsn_elements.specs.Transition.{FteFields}
use Rattle.rsn_elements.specs.Elements.{ElementFields}
use Rattle.run_journal.specs.declared.acts.Reason.{Reason}
use Rattle.run_journal.specs.declared.acts.Reason.TheVariants as reason
use Rattle.run_journal.specs.declared.acts.Outcome.TheVariants.{Refused}
use Rattle.run_journal.specs.declared.reply.Reply.{Reply}
use Rattle.run_journal.specs.Replies.{IsEmpty}
use Rattle.domain_rules.specs.FastTransition.{names_both, is_named}
use Rattle.ft_exchange.specs.Elements.{elements_status}
use Rattle.ft_exchange.specs.Judged.{Wanted, status_first, unless, outcome_by, response_reason, has_other_nonce, auth_response_reason}
use Rattle.ft_exchange.specs.State.{OriginatorState}
use Rattle.ft_exchange.specs.Exchange.{wanted_by, IsQuiet}
use Rattle.ft_exchange.specs.OriginatorSteps.{IsAuthTaken}
use Rattle.ft_exchange.specs.declared.originator.Stage.TheVariants as stage
use Rattle.ft_exchange.proofs.StationRows.{auth_refused}
use Rattle.ft_exchange.proofs.StationVerdicts.{resp_reason, resp_unawaited}

pub quiet_empty : (r : Reply) → IsEmpty r → IsQuiet None r
quiet_empty r e = record { len = e.len; sealed = e.sealed; verified = e.verified; derived = e.derived; installed = e.installed; gtk = e.gtk; igtk = e.igtk; looked = e.looked }

pub auth_unawaited : (status : ℕ) (e : ElementFields) (s : OriginatorState) (r : Reply) → IsEmpty r → (s.stage ≡ stage.Asked → ⊥) → IsAuthTaken status e s s (Refused reason.Unawaited) r
auth_unawaited status e s r empty other = auth_refused status e s reason.Unawaited r (quiet_empty r empty) (λ d sta a h b st has. resp_unawaited d sta a s h b e st other)

pub auth_fault : (status : ℕ) (e : ElementFields) (s : OriginatorState) (why : Reason) (r : Reply) → IsEmpty r → s.stage ≡ stage.Asked
    → auth_response_reason (wanted_by s (pmk_r0_name s.r0)) s.snonce status e ≡ Some why → IsAuthTaken status e s s (Refused why) r
auth_fault status e s why r empty at is = auth_refused status e s why r (quiet_empty r empty)
    (λ d sta a h b st has. resp_reason d sta a s h b e st at ∙ ap (λ (x : ℕ). outcome_by (auth_response_reason (wanted_by s (pmk_r0_name s.r0)) s.snonce x e)) has ∙ ap outcome_by is)

-- a response that is accepted has an FTE
pub auth_no_fte : (x : Wanted) (snonce : List ℕ) (status : ℕ) (e : ElementFields) → auth_response_reason x snonce status e ≡ None → e.fte ≡ None → ⊥
auth_no_fte x snonce status e accepts none = by_status (status == 0) accepts
  where
    by_names : (b : Bool) (why : Option Reason) → b ≡ false → unless b (reason.Status 55) why ≡ None → ⊥
    by_names true why is accepts = cc
    by_names false why is accepts = cc

    no_names : (o : Option FteFields) → o ≡ None → names_both x.r1kh_id x.r0kh_id o ≡ false
    no_names None is = refl
    no_names (Some f) is = absurd cc

    by_elements : (c : Option ℕ) → status_first c (unless (names_both x.r1kh_id x.r0kh_id e.fte) (reason.Status 55) (unless (is_named x.name e) reason.Name None)) ≡ None → ⊥
    by_elements (Some code) accepts = cc
    by_elements None accepts = by_names (names_both x.r1kh_id x.r0kh_id e.fte) (unless (is_named x.name e) reason.Name None) (no_names e.fte none) accepts

    by_nonce : (b : Bool) → unless b reason.Nonce (response_reason x e) ≡ None → ⊥
    by_nonce true accepts = by_elements (elements_status x.mfp x.mdid e) accepts
    by_nonce false accepts = cc

    by_status : (b : Bool) → unless b (reason.Status status) (unless (not (has_other_nonce snonce e.fte)) reason.Nonce (response_reason x e)) ≡ None → ⊥
    by_status true accepts = by_nonce (not (has_other_nonce snonce e.fte)) accepts
    by_status false accepts = cc
