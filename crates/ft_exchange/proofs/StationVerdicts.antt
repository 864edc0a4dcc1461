-- What a station's frames are judged as, by the originator that stands for its history.
use Rattle.std.proofs.Common.{◌≡◌, ◌∙◌, ℕ, Bool, true, false, Option, Some, None, List, [], refl, sym, ap, subst}
use Rattle.std.specs.Prelude.{not, ◌==◌, ◌||◌, if◌then◌else◌, bytes_eq, unwrap_or}
use Rattle.domain_base.specs.declared.names.Akm.TheVariants.{FtPsk}
use Rattle.domain_base.specs.declared.names.Mac.{Mac}
use Rattle.domain_base.specs.declared.names.Node.TheVariants.{Ap, Sta}
use Rattle.key_hierarchy.specs.FastTransition.{pmk_r0_name}
use Rattle.rsn_elements.specs.Transition.{FteFields}
use Rattle.rsn_elements.specs.Elements.{ElementFields}
use Rattle.run_journal.specs.declared.domain.Domain.{Domain}
use Rattle.run_journal.specs.declared.acts.Kind.TheVariants as kind
use Rattle.run_journal.specs.declared.acts.Reason.{Reason}
use Rattle.run_journal.specs.declared.acts.Reason.TheVariants as reason
use Rattle.run_journal.specs.declared.acts.Outcome.{Outcome}
use Rattle.run_journal.specs.declared.acts.Outcome.TheVariants.{Accepted, Refused}
use Rattle.run_journal.specs.declared.acts.Act.{Act}
use Rattle.run_journal.specs.Holders.{last_r0kh_id}
use Rattle.domain_rules.specs.Network.{address, root_at}
use Rattle.domain_rules.specs.Reading.{Management}
use Rattle.domain_rules.specs.Suites.{without_status}
use Rattle.domain_rules.specs.Asking.{in_attempt, is_by_roam, has_heard, own}
use Rattle.domain_rules.specs.FastTransition.{root_name, names_both, is_named, named, or_status}
use Rattle.domain_rules.specs.TransitionKeys.{own_nonce_in, ft_resp_fields, ft_resp_verdict}
use Rattle.ft_exchange.specs.Elements.{elements_status}
use Rattle.ft_exchange.specs.Judged.{Wanted, unless, outcome_by, response_reason, has_other_nonce, auth_response_reason}
use Rattle.ft_exchange.specs.State.{OriginatorState}
use Rattle.ft_exchange.specs.Stands.{OriginatorStands, HasStage, IsUnderWay}
use Rattle.ft_exchange.specs.Exchange.{wanted_by}
use Rattle.ft_exchange.specs.declared.originator.Stage.{Stage}
use Rattle.ft_exchange.specs.declared.originator.Stage.TheVariants as stage
use Rattle.ft_exchange.proofs.Outcomes.{out_unless, out_status, if_not, elements_are}

-- ---- authentication response

-- the name that the station asks for
pub named_is : (d : Domain) (sta a : ℕ) (s : OriginatorState) (h : List Act) → OriginatorStands d (Sta sta) (Ap a) s h
    → root_name d (root_at d (Sta sta) (last_r0kh_id h)) (Sta sta) ≡ pmk_r0_name s.r0
named_is d sta a s h st = rw (st.suite, st.r0kh_id, st.r0) refl

-- two tests in a row
two_tests : (b c : Bool) (x y : Reason) → (if b then (if c then Accepted else Refused y) else Refused x) ≡ outcome_by (unless b x (unless c y None))
two_tests true true x y = refl
two_tests true false x y = refl
two_tests false c x y = refl

fields_reason : (d : Domain) (x : Wanted) (e : ElementFields) → d.akm ≡ FtPsk → x.mdid ≡ d.mdid
    → without_status (elements_status x.mfp x.mdid e) (or_status 55 (names_both x.r1kh_id x.r0kh_id e.fte) (named x.name e Accepted)) ≡ outcome_by (response_reason x e)
fields_reason d x e suite mdid =
    ap (λ (o : Outcome). without_status (elements_status x.mfp x.mdid e) o) (two_tests (names_both x.r1kh_id x.r0kh_id e.fte) (is_named x.name e) (reason.Status 55) reason.Name)
    ∙ sym (out_status (elements_status x.mfp x.mdid e) (unless (names_both x.r1kh_id x.r0kh_id e.fte) (reason.Status 55) (unless (is_named x.name e) reason.Name None)))

resp_fields : (d : Domain) (sta a : ℕ) (s : OriginatorState) (h : List Act) (e : ElementFields) → OriginatorStands d (Sta sta) (Ap a) s h
    → ft_resp_fields d (Sta sta) h (Ap a) e ≡ outcome_by (response_reason (wanted_by s (pmk_r0_name s.r0)) e)
resp_fields d sta a s h e st =
    elements_are d s.mfp s.mdid e (or_status 55 (names_both (address d (Ap a)) (last_r0kh_id h) e.fte) (named (root_name d (root_at d (Sta sta) (last_r0kh_id h)) (Sta sta)) e Accepted)) st.suite st.mfp_is st.mdid
    ∙ ap (λ (w : List ℕ). without_status (elements_status s.mfp s.mdid e) (or_status 55 (names_both (address d (Ap a)) (last_r0kh_id h) e.fte) (named w e Accepted))) (named_is d sta a s h st)
    ∙ ap (λ (w : List ℕ). without_status (elements_status s.mfp s.mdid e) (or_status 55 (names_both (address d (Ap a)) w e.fte) (named (pmk_r0_name s.r0) e Accepted))) st.r0kh_id
    ∙ ap (λ (m : Mac). without_status (elements_status s.mfp s.mdid e) (or_status 55 (names_both m.0 s.r0kh_id e.fte) (named (pmk_r0_name s.r0) e Accepted))) (sym st.peer)
    ∙ fields_reason d (wanted_by s (pmk_r0_name s.r0)) e st.suite st.mdid

-- by the nonce
nonce_reason : (snonce : List ℕ) (f : Option FteFields) (o : Outcome) → own_nonce_in snonce f o ≡ (if not (has_other_nonce snonce f) then o else Refused reason.Nonce)
nonce_reason snonce None o = refl
nonce_reason snonce (Some f) o = by (bytes_eq f.snonce snonce)
  where
    by : (b : Bool) → (if b then o else Refused reason.Nonce) ≡ (if not (not b) then o else Refused reason.Nonce)
    by true = refl
    by false = refl

pub resp_reason : (d : Domain) (sta a : ℕ) (s : OriginatorState) (h : List Act) (b : Management) (e : ElementFields) → OriginatorStands d (Sta sta) (Ap a) s h → s.stage ≡ stage.Asked
    → ft_resp_verdict d (Sta sta) h (Ap a) b e ≡ outcome_by (auth_response_reason (wanted_by s (pmk_r0_name s.r0)) s.snonce b.status e)
resp_reason d sta a s h b e st at =
    let u : IsUnderWay d (Sta sta) (Ap a) s None h = subst (λ (x : Stage). HasStage d (Sta sta) (Ap a) s x h) at st.stage_is in
    let right : Option Reason = response_reason (wanted_by s (pmk_r0_name s.r0)) e in
    let judges : Bool → List ℕ → Outcome = λ c v. (
    if c then Refused reason.Unawaited else if not (b.status == 0) then Refused (reason.Status b.status) else own_nonce_in v e.fte (ft_resp_fields d (Sta sta) h (Ap a) e))
    in
    ap (λ (o : Option (List Act)). in_attempt o (λ part. judges (not (is_by_roam part) || has_heard (Ap a) kind.FtResp part) (own part))) u.is
    ∙ ap (λ (c : Bool). judges (not c || has_heard (Ap a) kind.FtResp u.part) (own u.part)) u.begun
    ∙ ap (λ (c : Bool). judges c (own u.part)) u.hears
    ∙ ap (λ (v : Option (List ℕ)). judges false (unwrap_or v [])) u.nonce
    ∙ if_not (b.status == 0) (Refused (reason.Status b.status)) (own_nonce_in s.snonce e.fte (ft_resp_fields d (Sta sta) h (Ap a) e))
    ∙ ap (λ (o : Outcome). if b.status == 0 then o else Refused (reason.Status b.status))
    (nonce_reason s.snonce e.fte (ft_resp_fields d (Sta sta) h (Ap a) e)
    ∙ ap (λ (o : Outcome). if not (has_other_nonce s.snonce e.fte) then o else Refused reason.Nonce) (resp_fields d sta a s h e st)
    ∙ sym (out_unless (not (has_other_nonce s.snonce e.fte)) reason.Nonce right))
    ∙ sym (out_unless (b.status == 0) (reason.Status b.status) (unless (not (has_other_nonce s.snonce e.fte)) reason.Nonce right))

-- it is unawaited otherwise
pub resp_unawaited : (d : Domain) (sta a : ℕ) (s : OriginatorState) (h : List Act) (b : Management) (e : ElementFields) → OriginatorStands d (Sta sta) (Ap a) s h → (s.stage ≡ stage.Asked → ⊥)
    → ft_resp_verdict d (Sta sta) h (Ap a) b e ≡ Refused reason.Unawaited
resp_unawaited d sta a s h b e st other = by s.stage refl st.stage_is
  where
    by : (x : Stage) → s.stage ≡ x → HasStage d (Sta sta) (Ap a) s x h → ft_resp_verdict d (Sta sta) h (Ap a) b e ≡ Refused reason.Unawaited
    by stage.Asked is u = absurd (other is)
    by (stage.Keyed t) is u = rw (u.is, u.begun, u.hears) refl
    by stage.Done is none = rw none refl
