-- What comes of the frames of a fast transition over the air (IEEE Std 802.11-2020, 13.5.2, 13.7.1, 13.8, profile).
use Rattle.std.specs.Prelude.{ℕ, Bool, true, false, cond, not, ◌&&◌, ◌||◌, ◌==◌, nat_lt, List, Option, Some, None, is_some, option_and_then, bytes_eq, if◌then◌else◌}
use Rattle.domain_base.specs.declared.names.Akm.{Akm}
use Rattle.domain_base.specs.declared.names.Akm.TheVariants.{FtPsk}
use Rattle.domain_base.specs.declared.names.Node.{Node}
use Rattle.key_hierarchy.specs.declared.answers.PullAnswer.{PullAnswer}
use Rattle.key_hierarchy.specs.declared.answers.PullAnswer.TheVariants as pull
use Rattle.key_hierarchy.specs.declared.fast_transition.PmkR1.{PmkR1}
use Rattle.rsn_elements.specs.Transition.{FteFields}
use Rattle.rsn_elements.specs.Elements.{ElementFields}
use Rattle.run_journal.specs.declared.domain.Domain.{Domain}
use Rattle.run_journal.specs.Events.{protects}
use Rattle.run_journal.specs.declared.acts.Kind.TheVariants as kind
use Rattle.run_journal.specs.declared.acts.Reason.TheVariants as reason
use Rattle.run_journal.specs.declared.acts.Outcome.{Outcome}
use Rattle.run_journal.specs.declared.acts.Outcome.TheVariants.{Accepted, Answered, Refused}
use Rattle.run_journal.specs.declared.acts.Seal.{Seal}
use Rattle.run_journal.specs.declared.acts.Act.{Act}
use Rattle.run_journal.specs.Acts.{Derivation}
use Rattle.run_journal.specs.Questions.{attempt, derivation}
use Rattle.run_journal.specs.Holders.{Look, look, found_in, before_finished, last_r0kh_id}
use Rattle.domain_rules.specs.Network.{address, holder_of, root_at, draw_end}
use Rattle.domain_rules.specs.Reading.{Management}
use Rattle.domain_rules.specs.Facts.{is_same, IsUnwrapped}
use Rattle.domain_rules.specs.Asking.{is_by_roam, has_heard, own, in_attempt}
use Rattle.domain_rules.specs.Suites.{rsne_status, without_status}
use Rattle.domain_rules.specs.StationKeys.{taken_in}
use Rattle.domain_rules.specs.FastTransition.{r1_name, root_name, request_number, response_number, mic_input, fte_seal, fte_verified, mde_status, fte_status, or_status, names_both, counts_three, names_in, named, single, to_unwrap, igtk_to_unwrap, gtk_in, is_wrapped_gtk, has_igtk}

-- ---- what an access point has of a fast transition

-- its key, the PMKR0Name that the station asked for, and PMKR1Name as the key holder gave it: by HeldRight that of the
-- PMKR0Name asked for, of this access point and of the station (13.5.2, profile)
pub record Transition : Type 0 where
  pub key : Derivation
  pub asked : List ℕ
  pub r1_name : List ℕ

-- a fast transition, by its key, the look for it, and what that found (13.5.2, profile)
abbrev pub made_by : Option Derivation → Option Look → Option PmkR1 → Option Transition
made_by (Some x) (Some l) (Some k) = Some (record { key = x; asked = l.name; r1_name = k.name })
made_by _ _ _ = None

-- the fast transition of a part of the history, by the key derived last in it and the look of the attempt (13.5.2,
-- profile)
abbrev pub made_of : Node → List Act → List Act → Option Transition
made_of p h part = made_by (derivation p part) (look p h) (option_and_then (λ (l : Look). found_in l.answer) (look p h))

-- the fast transition of the attempt, where it began by one (13.5.2, profile)
abbrev pub transition_in : Node → List Act → Option (List Act) → Option Transition
transition_in p h None = None
transition_in p h (Some part) = cond (is_by_roam part) (made_of p h part) None

-- of the attempt with p, where it began by fast transition (13.5.2, profile)
abbrev pub transition : Node → List Act → Option Transition
transition p h = transition_in p h (attempt p h)

-- of the session with p, where it began so: as it was before its final message (13.5.2, profile)
abbrev pub session_transition : Node → List Act → Option Transition
session_transition p h = option_and_then (λ (before : List Act). transition p before) (before_finished p h)

-- ---- authentication request, at an access point

-- what a request asks for: the station's nonce, an R0KH-ID, and PMKIDs (13.8.2, profile)
pub record Asked : Type 0 where
  pub snonce : List ℕ
  pub r0kh_id : List ℕ
  pub names : Option (List ℕ)

-- what a request asks for, where it has an FTE with an R0KH-ID (13.8.2, profile)
abbrev pub asked_by : Option FteFields → Option (List ℕ) → Option (List ℕ) → Option Asked
asked_by (Some f) (Some id) names = Some (record { snonce = f.snonce; r0kh_id = id; names = names })
asked_by f id names = None

-- what an authentication request asks for, where it has all (13.8.2, profile)
abbrev pub asked : ElementFields → Option Asked
asked e = asked_by e.fte (option_and_then (λ (f : FteFields). f.r0kh_id) e.fte) (names_in e)

-- it repeats the request of the attempt: the same nonce, R0KH-ID and name (13.8.2, profile)
abbrev pub repeats : Asked → Option Transition → Bool
repeats a None = false
repeats a (Some y) = bytes_eq a.snonce y.key.inputs.snonce && bytes_eq a.r0kh_id y.key.inputs.r0kh_id && is_same a.names (Some y.asked)

-- the request, as far as the frame and the history decide (13.8.2, profile)
abbrev pub asked_verdict : Domain → Asked → Bool → Outcome
asked_verdict d a again =
    if again then Answered
    else if not (is_some (holder_of d a.r0kh_id)) then Refused reason.NoHolder
    else if is_some (single a.names) then Accepted
    else Refused reason.Name

-- the request refused with status 55 where it asks for nothing, else judged (13.8.2, profile)
abbrev pub ft_req_asked : Domain → Option Asked → Option Transition → Outcome
ft_req_asked d None y = Refused (reason.Status fte_status)
ft_req_asked d (Some a) y = asked_verdict d a (repeats a y)

-- an authentication request: RSNE, MDE and FTE, with suite 4 alone (13.8.2, profile)
abbrev pub ft_req_verdict_by : Akm → Domain → Option Transition → ElementFields → Outcome
ft_req_verdict_by FtPsk d y e = without_status (rsne_status d e.rsne) (without_status (mde_status d e.mde) (ft_req_asked d (asked e) y))
ft_req_verdict_by _ d y e = Refused reason.Unawaited

-- an authentication request at an access point, as far as the frame and the history decide (13.8.2, profile)
abbrev pub ft_req_verdict : Domain → List Act → Node → ElementFields → Outcome
ft_req_verdict d h p e = ft_req_verdict_by d.akm d (transition p h) e

-- what a key holder answers where it is asked for a PMK-R1 and gives that one, or none (13.8.2, profile)
abbrev pub given : Option PmkR1 → PullAnswer
given None = pull.Absent
given (Some k) = pull.Found k

-- the rest of it, at an access point that has drawn so often, by what the key holder gave (13.8.2, profile)
abbrev pub pulled_verdict : ℕ → Option PmkR1 → Outcome
pulled_verdict drawn None = Refused reason.Name
pulled_verdict drawn (Some k) = if nat_lt drawn draw_end then Accepted else Refused reason.Spent

-- nothing more is tried where a request repeats that of the attempt (13.8.2, profile)
abbrev pub ft_req_pulled : ℕ → Option Asked → Option Transition → Option PmkR1 → Outcome
ft_req_pulled drawn None y pulled = Accepted
ft_req_pulled drawn (Some a) y pulled = cond (repeats a y) Accepted (pulled_verdict drawn pulled)

-- the rest of an authentication request, by what the key holder gave (13.8.2, profile)
abbrev pub ft_req_further : ℕ → List Act → Node → ElementFields → Option PmkR1 → Outcome
ft_req_further drawn h p e pulled = ft_req_pulled drawn (asked e) (transition p h) pulled

-- ---- authentication response, at a station

-- R0KH-ID and PMKR0Name are those of the station (13.8.3, profile)
abbrev pub ft_resp_fields : Domain → Node → List Act → Node → ElementFields → Outcome
ft_resp_fields d n h p e =
    without_status (rsne_status d e.rsne)
    (without_status (mde_status d e.mde)
    (or_status fte_status (names_both (address d p) (last_r0kh_id h) e.fte)
    (named (root_name d (root_at d n (last_r0kh_id h)) n) e Accepted)))

-- refused where the FTE, if there is one, has another nonce than the attempt (13.8.3, profile)
abbrev pub own_nonce_in : List ℕ → Option FteFields → Outcome → Outcome
own_nonce_in snonce None then_ = then_
own_nonce_in snonce (Some f) then_ = if bytes_eq f.snonce snonce then then_ else Refused reason.Nonce

-- it is awaited in an attempt by fast transition in which none was accepted. A status other than 0 is all that is told
-- of it (13.8.3, profile)
abbrev pub ft_resp_verdict : Domain → Node → List Act → Node → Management → ElementFields → Outcome
ft_resp_verdict d n h p b e =
    in_attempt (attempt p h) (λ part. (
    if not (is_by_roam part) || has_heard p kind.FtResp part then Refused reason.Unawaited
    else if not (b.status == 0) then Refused (reason.Status b.status)
    else own_nonce_in (own part) e.fte (ft_resp_fields d n h p e)))

-- ---- reassociation request, at an access point

-- both nonces are those of the key (13.8.4, profile)
abbrev pub has_nonces : FteFields → Derivation → Bool
has_nonces f x = bytes_eq f.anonce x.inputs.anonce && bytes_eq f.snonce x.inputs.snonce

-- by what a request is judged: the attempt, or the session that came of one (13.8.4, profile)
pub record Judged : Type 0 where
  pub by_ : Transition
  pub is_session : Bool

-- the first of the two whose nonces the FTE has (13.8.4, profile)
abbrev pub judged_session : FteFields → Option Transition → Option Judged
judged_session f None = None
judged_session f (Some y) = cond (has_nonces f y.key) (Some (record { by_ = y; is_session = true })) None

-- the attempt by fast transition where it has the nonces of the FTE, else the session (13.8.4, profile)
abbrev pub judged_attempt : FteFields → Option Transition → Option Transition → Option Judged
judged_attempt f None session = judged_session f session
judged_attempt f (Some y) session = cond (has_nonces f y.key) (Some (record { by_ = y; is_session = false })) (judged_session f session)

-- nothing judges a request without an FTE (13.8.4, profile)
abbrev pub judged_by : Option FteFields → Option Transition → Option Transition → Option Judged
judged_by None attempt_ session = None
judged_by (Some f) attempt_ session = judged_attempt f attempt_ session

-- what a reassociation request is judged by: the attempt by fast transition, else the session that came of one,
-- whichever nonces the FTE has (13.8.4, profile)
abbrev pub judged : Node → List Act → ElementFields → Option Judged
judged p h e = judged_by e.fte (transition p h) (session_transition p h)

-- what its MIC covers, where all of it is there (13.8.4, profile)
abbrev pub re_req_covered : Domain → Node → Node → ElementFields → Option (List ℕ)
re_req_covered d n p e = mic_input (address d p) (address d n) request_number e

-- as far as the MIC. Without an FTE neither nonces nor MIC are tried (13.8.4, profile)
abbrev pub re_req_mic : Domain → Node → Node → ElementFields → Option Judged → Outcome
re_req_mic d n p e None = cond (is_some e.fte) (Refused reason.Nonce) Accepted
re_req_mic d n p e (Some y) = fte_verified y.by_.key.ptk.kck e.fte (re_req_covered d n p e) (taken_in y.is_session)

-- it is awaited where there is an attempt by fast transition, or a session that came of one (13.8.4, profile)
abbrev pub re_req_verdict : Domain → Node → List Act → Node → ElementFields → Outcome
re_req_verdict d n h p e =
    if is_some (transition p h) || is_some (session_transition p h) then re_req_mic d n p e (judged p h e) else Refused reason.Unawaited

-- which elements of a reassociation request are to fit, and PMKR1Name (13.8.4, profile)
abbrev pub re_req_names : Domain → Node → ElementFields → Option Judged → Outcome
re_req_names d n e None = Refused (reason.Status fte_status)
re_req_names d n e (Some y) =
    or_status fte_status (counts_three e.fte && names_both (address d n) y.by_.key.inputs.r0kh_id e.fte) (named y.by_.r1_name e Accepted)

-- a reassociation request after its MIC: RSNE, MDE, FTE, and PMKR1Name (13.8.4, profile)
abbrev pub re_req_further : Domain → Node → List Act → Node → ElementFields → Outcome
re_req_further d n h p e = without_status (rsne_status d e.rsne) (without_status (mde_status d e.mde) (re_req_names d n e (judged p h e)))

-- what the MIC of a reassociation request covers, where all that it covers is there (13.8.4)
abbrev pub re_req_sealed : Option Judged → Option FteFields → Option (List ℕ) → Option Seal
re_req_sealed (Some y) (Some f) (Some input) = Some (fte_seal y.by_.key.ptk.kck input)
re_req_sealed y f input = None

-- what its MIC covers, under the key by which it is judged (13.8.4)
abbrev pub re_req_seal : Domain → Node → List Act → Node → ElementFields → Option Seal
re_req_seal d n h p e = re_req_sealed (judged p h e) e.fte (re_req_covered d n p e)

-- ---- reassociation response, at a station

-- the key derived last in an attempt by fast transition in which the authentication response was accepted (13.8.5,
-- profile)
abbrev pub re_resp_keying_in : Node → Option (List Act) → Option Derivation
re_resp_keying_in p None = None
re_resp_keying_in p (Some part) = cond (is_by_roam part) (cond (has_heard p kind.FtResp part) (derivation p part) None) None

-- the key by which a reassociation response is judged (13.8.5, profile)
abbrev pub re_resp_keying : Node → List Act → Option Derivation
re_resp_keying p h = re_resp_keying_in p (attempt p h)

-- what the MIC of a reassociation response covers (13.8.5, profile)
abbrev pub re_resp_covered : Domain → Node → Node → ElementFields → Option (List ℕ)
re_resp_covered d n p e = mic_input (address d n) (address d p) response_number e

-- the nonces and the MIC of a reassociation response (13.8.5, profile)
abbrev pub re_resp_mic : Domain → Node → Node → ElementFields → Derivation → Option FteFields → Outcome
re_resp_mic d n p e x None = Accepted
re_resp_mic d n p e x (Some f) =
    if has_nonces f x then fte_verified x.ptk.kck e.fte (re_resp_covered d n p e) Accepted else Refused reason.Nonce

-- as far as the MIC. With a status other than 0, and without an FTE, neither nonces nor MIC are tried (13.8.5, profile)
abbrev pub re_resp_verdict_by : Domain → Node → Node → Management → ElementFields → Option Derivation → Outcome
re_resp_verdict_by d n p b e None = Refused reason.Unawaited
re_resp_verdict_by d n p b e (Some x) = if b.status == 0 then re_resp_mic d n p e x e.fte else Accepted

-- a reassociation response at a station, as far as the frame and the history decide (13.8.5, profile)
abbrev pub re_resp_verdict : Domain → Node → List Act → Node → Management → ElementFields → Outcome
re_resp_verdict d n h p b e = re_resp_verdict_by d n p b e (re_resp_keying p h)

-- refused where the wrapped key, which is there, has no plain text (13.8.5, profile)
abbrev pub unwraps : Option (List ℕ) → Option (List ℕ) → Outcome → Outcome
unwraps (Some octets) None then_ = Refused reason.Wrap
unwraps octets plain then_ = then_

-- which elements of a reassociation response are to fit, and PMKR1Name (13.8.5, profile)
abbrev pub re_resp_names : Domain → Node → Node → ElementFields → Option Derivation → Outcome
re_resp_names d n p e None = Refused reason.Unawaited
re_resp_names d n p e (Some x) =
    without_status (rsne_status d e.rsne)
    (without_status (mde_status d e.mde)
    (or_status fte_status (counts_three e.fte && names_both (address d p) x.inputs.r0kh_id e.fte && is_wrapped_gtk (gtk_in e.fte) && has_igtk (protects d) e.fte)
    (named (r1_name x.inputs) e Accepted)))

-- the wrapped keys, the status, the elements, and PMKR1Name (13.8.5, profile)
abbrev pub re_resp_further : Domain → Node → List Act → Node → Management → ElementFields → Option (List ℕ) → Option (List ℕ) → Outcome
re_resp_further d n h p b e unwrapped unwrapped_igtk =
    unwraps (to_unwrap e.fte) unwrapped
    (unwraps (igtk_to_unwrap (protects d) e.fte) unwrapped_igtk
    (if b.status == 0 then re_resp_names d n p e (re_resp_keying p h) else Refused (reason.Status b.status)))

-- what the MIC of a reassociation response covers, where all that it covers is there (13.8.5)
abbrev pub re_resp_sealed : Option Derivation → Option FteFields → Option (List ℕ) → Option Seal
re_resp_sealed (Some x) (Some f) (Some input) = Some (fte_seal x.ptk.kck input)
re_resp_sealed x f input = None

-- what is sealed in a reassociation response with status 0, under the key by which it is judged (13.8.5)
abbrev pub re_resp_seal : Domain → Node → List Act → Node → Management → ElementFields → Option Seal
re_resp_seal d n h p b e = cond (b.status == 0) (re_resp_sealed (re_resp_keying p h) e.fte (re_resp_covered d n p e)) None

-- what is known of a wrapped key, where there is one (13.8.5, profile)
abbrev pub KnowsGtk : Option Derivation → Option (List ℕ) → Option (List ℕ) → Type 0
KnowsGtk (Some x) (Some octets) unwrapped = IsUnwrapped x.ptk.kek octets unwrapped
KnowsGtk x octets unwrapped = Unit {0}
