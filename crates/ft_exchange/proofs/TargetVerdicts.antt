-- What an access point's frames are judged as, by the target that stands for its history.
use Rattle.std.proofs.Common.{◌≡◌, ◌∙◌, ℕ, Bool, true, false, cond, List, Option, Some, None, refl, sym, ap, subst}
use Rattle.std.specs.Prelude.{◌&&◌, ◌||◌, is_some, if◌then◌else◌}
use Rattle.domain_base.specs.declared.names.Akm.{Akm}
use Rattle.domain_base.specs.declared.names.Akm.TheVariants.{Psk, PskSha256, FtPsk}
use Rattle.domain_base.specs.declared.names.Node.{Node}
use Rattle.domain_base.specs.declared.names.Node.TheVariants.{Ap}
use Rattle.rsn_elements.specs.Transition.{FteFields}
use Rattle.rsn_elements.specs.Elements.{ElementFields}
use Rattle.run_journal.specs.declared.domain.Domain.{Domain}
use Rattle.run_journal.specs.Events.{protects}
use Rattle.run_journal.specs.declared.acts.Reason.{Reason}
use Rattle.run_journal.specs.declared.acts.Reason.TheVariants as reason
use Rattle.run_journal.specs.declared.acts.Outcome.{Outcome}
use Rattle.run_journal.specs.declared.acts.Outcome.TheVariants.{Accepted, Refused}
use Rattle.run_journal.specs.declared.acts.Act.{Act}
use Rattle.run_journal.specs.declared.reply.Keyed.{Keyed}
use Rattle.domain_rules.specs.Network.{mac}
use Rattle.domain_rules.specs.Suites.{rsne_status, without_status}
use Rattle.domain_rules.specs.StationKeys.{taken_in}
use Rattle.domain_base.specs.declared.names.Mac.{Mac}
use Rattle.domain_rules.specs.FastTransition.{mde_status, counts_three, names_both, named, or_status, fte_verified}
use Rattle.domain_rules.specs.TransitionKeys.{Transition, transition, session_transition, Asked, asked, repeats, asked_verdict, ft_req_asked, ft_req_verdict_by, ft_req_verdict, Judged, judged, re_req_covered, re_req_mic, re_req_verdict, re_req_names, re_req_further, re_req_sealed, re_req_seal}
use Rattle.ft_exchange.specs.Elements.{elements_status}
use Rattle.ft_exchange.specs.Asking.{is_pending_repeated}
use Rattle.ft_exchange.specs.Judged.{Wanted, status_first, unless, outcome_by, request_reason, reassociation_reason}
use Rattle.ft_exchange.specs.State.{TargetState}
use Rattle.ft_exchange.specs.Stands.{IsPending, IsHeldOrPending, PendingStands}
use Rattle.ft_exchange.specs.Exchange.{wanted_at, request_between, request_tried}
use Rattle.ft_exchange.specs.TargetSteps.{judged_by, IsChosen}
use Rattle.ft_exchange.specs.Told.{taken_seal}
use Rattle.ft_exchange.specs.Tried.{input_of, has_nonces_of, tried_mic, is_with_by, is_with, tried, tried_reason, verified_key}
use Rattle.ft_exchange.specs.declared.mic.Tried.TheVariants.{OtherNonces}
use Rattle.ft_exchange.proofs.Outcomes.{elements_are}
use Rattle.ft_exchange.proofs.StationFrames.{root_is}
use Rattle.ft_exchange.proofs.StationInstalls.{names_by}
use Rattle.ft_exchange.proofs.Trying.{out_or, tried_out, noted_by, tried_noted}

-- ---- authentication request

pub other_suite : (akm : Akm) (d : Domain) (y : Option Transition) (e : ElementFields) → (akm ≡ FtPsk → ⊥) → ft_req_verdict_by akm d y e ≡ Refused reason.Unawaited
other_suite Psk d y e other = refl
other_suite PskSha256 d y e other = refl
other_suite FtPsk d y e other = absurd (other refl)

pub repeats_is : (d : Domain) (a : ℕ) (p : Node) (o : Option TargetState) (h : List Act) (x : Asked) → d.akm ≡ FtPsk → PendingStands d (Ap a) p o h → repeats x (transition p h) ≡ is_pending_repeated x o
repeats_is d a p None h x suite none = rw none refl
repeats_is d a p (Some s) h x suite st =
    let i : IsPending d (Ap a) p s h = subst (λ (b : Bool). IsHeldOrPending b d (Ap a) p s h) st.0 st.1.holds in
    rw (i.is, root_is d p s.r0kh_id suite) refl

-- refused by its elements, or judged by what it asks for
abbrev pub judged_as : Domain → Option Transition → Option Reason → Option Asked → Outcome
judged_as d y (Some why) a = Refused why
judged_as d y None None = Refused (reason.Status 55)
judged_as d y None (Some a) = asked_verdict d a (repeats a y)

by_asked : (d : Domain) (y : Option Transition) (c : Option ℕ) (a : Option Asked)
    → without_status c (ft_req_asked d a y) ≡ judged_as d y (status_first c (unless (is_some a) (reason.Status 55) None)) a
by_asked d y (Some code) a = refl
by_asked d y None None = refl
by_asked d y None (Some a) = refl

pub req_verdict : (d : Domain) (h : List Act) (p : Node) (e : ElementFields) → d.akm ≡ FtPsk → ft_req_verdict d h p e ≡ judged_as d (transition p h) (request_reason (protects d) d.mdid e) (asked e)
req_verdict d h p e suite =
    ap (λ (akm : Akm). ft_req_verdict_by akm d (transition p h) e) suite
    ∙ elements_are d (protects d) d.mdid e (ft_req_asked d (asked e) (transition p h)) suite refl refl
    ∙ by_asked d (transition p h) (elements_status (protects d) d.mdid e) (asked e)

pub req_refused : (d : Domain) (h : List Act) (p : Node) (e : ElementFields) (why : Reason) → d.akm ≡ FtPsk → request_reason (protects d) d.mdid e ≡ Some why → ft_req_verdict d h p e ≡ Refused why
req_refused d h p e why suite is = req_verdict d h p e suite ∙ ap (λ (x : Option Reason). judged_as d (transition p h) x (asked e)) is

pub req_asked : (d : Domain) (h : List Act) (p : Node) (e : ElementFields) (x : Asked) (b : Bool) → d.akm ≡ FtPsk → request_reason (protects d) d.mdid e ≡ None → asked e ≡ Some x → repeats x (transition p h) ≡ b
    → ft_req_verdict d h p e ≡ asked_verdict d x b
req_asked d h p e x b suite right asks is =
    req_verdict d h p e suite ∙ ap (λ (w : Option Reason). judged_as d (transition p h) w (asked e)) right
    ∙ ap (λ (w : Option Asked). judged_as d (transition p h) None w) asks ∙ ap (λ (w : Bool). asked_verdict d x w) is

-- ---- reassociation request

pub covered_is : (d : Domain) (n p : Node) (s : TargetState) (e : ElementFields) → s.place.own ≡ mac d n → s.place.peer ≡ mac d p → input_of (request_between s) e ≡ re_req_covered d n p e
covered_is d n p s e own peer = rw (own, peer) refl

-- there is such an attempt, or such a session
awaited_by : (d : Domain) (n p : Node) (s : TargetState) (b : Bool) (h : List Act) → IsHeldOrPending b d n p s h → (is_some (transition p h) || is_some (session_transition p h)) ≡ true
awaited_by d n p s false h i = rw i.is refl
awaited_by d n p s true h i = by (is_some (transition p h)) (ap (λ (o : Option Transition). is_some o) i.is)
  where
    by : (b : Bool) → is_some (session_transition p h) ≡ true → (b || is_some (session_transition p h)) ≡ true
    by true is = refl
    by false is = is

mic_by : (d : Domain) (a : ℕ) (p : Node) (s : TargetState) (e : ElementFields) (o : Option FteFields) → e.fte ≡ o
    → re_req_mic d (Ap a) p e (judged_by d (Ap a) p s (is_with_by o s.key)) ≡ out_or (cond (is_with_by o s.key) (taken_in s.is_installed) Accepted) (tried_reason (tried s.key o (re_req_covered d (Ap a) p e)))
mic_by d a p s e None has = ap (λ (o : Option FteFields). cond (is_some o) (Refused reason.Nonce) Accepted) has
mic_by d a p s e (Some f) has = by (has_nonces_of f s.key) refl
  where
    c : Option (List ℕ)
    c = re_req_covered d (Ap a) p e

    by : (b : Bool) → has_nonces_of f s.key ≡ b
        → re_req_mic d (Ap a) p e (judged_by d (Ap a) p s (has_nonces_of f s.key)) ≡ out_or (cond (has_nonces_of f s.key) (taken_in s.is_installed) Accepted) (tried_reason (tried s.key (Some f) c))
    by true is =
        ap (λ (b : Bool). re_req_mic d (Ap a) p e (judged_by d (Ap a) p s b)) is
        ∙ ap (λ (o : Option FteFields). fte_verified s.key.ptk.kck o c (taken_in s.is_installed)) has
        ∙ sym (ap (λ (b : Bool). if b then fte_verified s.key.ptk.kck (Some f) c (taken_in s.is_installed) else Refused reason.Nonce) is)
        ∙ sym (tried_out s.key f c (taken_in s.is_installed))
        ∙ ap (λ (b : Bool). out_or (cond b (taken_in s.is_installed) Accepted) (tried_reason (tried s.key (Some f) c))) (sym is)
    by false is =
        ap (λ (b : Bool). re_req_mic d (Ap a) p e (judged_by d (Ap a) p s b)) is
        ∙ ap (λ (o : Option FteFields). cond (is_some o) (Refused reason.Nonce) Accepted) has
        ∙ sym (ap (λ (b : Bool). out_or (cond (has_nonces_of f s.key) (taken_in s.is_installed) Accepted) (tried_reason (if b then tried_mic s.key.ptk.kck f c else OtherNonces))) is)

pub reassoc_first : (d : Domain) (a : ℕ) (p : Node) (s : TargetState) (e : ElementFields) (h : List Act) → IsChosen d (Ap a) p s e h
    → re_req_verdict d (Ap a) h p e ≡ out_or (cond (is_with e s.key) (taken_in s.is_installed) Accepted) (tried_reason (request_tried s e))
reassoc_first d a p s e h c =
    ap (λ (b : Bool). if b then re_req_mic d (Ap a) p e (judged p h e) else Refused reason.Unawaited) (awaited_by d (Ap a) p s s.is_installed h c.stands.holds)
    ∙ ap (λ (y : Option Judged). re_req_mic d (Ap a) p e y) c.by_this
    ∙ mic_by d a p s e e.fte refl
    ∙ sym (ap (λ (z : Option (List ℕ)). out_or (cond (is_with e s.key) (taken_in s.is_installed) Accepted) (tried_reason (tried s.key e.fte z)))
    (covered_is d (Ap a) p s e c.stands.place.own c.stands.place.peer))

-- ---- behind the MIC

abbrev pub further_by : Domain → Node → ElementFields → Option Judged → Outcome
further_by d n e y = without_status (rsne_status d e.rsne) (without_status (mde_status d e.mde) (re_req_names d n e y))

and_true : (b c : Bool) → (b && c) ≡ (b && c && true)
and_true true true = refl
and_true true false = refl
and_true false c = refl

with_names : (d : Domain) (a : ℕ) (p : Node) (s : TargetState) (e : ElementFields) → d.akm ≡ FtPsk → s.place.mfp ≡ protects d → s.place.own ≡ mac d (Ap a) → s.place.mdid ≡ d.mdid
    → further_by d (Ap a) e (judged_by d (Ap a) p s true) ≡ outcome_by (reassociation_reason (wanted_at s) e true)
with_names d a p s e suite mfp own mdid =
    let x : Wanted = wanted_at s in
    let names : Bool → Outcome = λ b. or_status 55 b (named s.name e Accepted) in
    let here : re_req_names d (Ap a) e (judged_by d (Ap a) p s true) ≡ names (counts_three e.fte && names_both x.r1kh_id x.r0kh_id e.fte && true) =
    rw (root_is d p s.r0kh_id suite)
    (ap (λ (m : Mac). or_status 55 (counts_three e.fte && names_both m.0 s.r0kh_id e.fte) (named s.name e Accepted)) (sym own)
    ∙ ap names (and_true (counts_three e.fte) (names_both x.r1kh_id x.r0kh_id e.fte)))
    in
    elements_are d s.place.mfp s.place.mdid e (re_req_names d (Ap a) e (judged_by d (Ap a) p s true)) suite mfp mdid
    ∙ ap (λ (o : Outcome). without_status (elements_status s.place.mfp s.place.mdid e) o) here
    ∙ names_by x e true

no_fte : (x : Wanted) (e : ElementFields) → e.fte ≡ None → without_status (elements_status x.mfp x.mdid e) (Refused (reason.Status 55)) ≡ outcome_by (reassociation_reason x e true)
no_fte x e none =
    ap (λ (o : Option FteFields). without_status (elements_status x.mfp x.mdid e) (or_status 55 (counts_three o && names_both x.r1kh_id x.r0kh_id o && true) (named x.name e Accepted))) (sym none)
    ∙ names_by x e true

without_names : (d : Domain) (a : ℕ) (p : Node) (s : TargetState) (e : ElementFields) → d.akm ≡ FtPsk → s.place.mfp ≡ protects d → s.place.mdid ≡ d.mdid → e.fte ≡ None
    → further_by d (Ap a) e (judged_by d (Ap a) p s false) ≡ outcome_by (reassociation_reason (wanted_at s) e true)
without_names d a p s e suite mfp mdid none =
    elements_are d s.place.mfp s.place.mdid e (Refused (reason.Status 55)) suite mfp mdid ∙ no_fte (wanted_at s) e none

-- where the nonces refuse nothing
pub right_by : (y : Keyed) (o : Option FteFields) (c : Option (List ℕ)) → tried_reason (tried y o c) ≡ None → is_with_by o y ≡ false → o ≡ None
right_by y None c right other = refl
right_by y (Some f) c right other = absurd (by (has_nonces_of f y) other right)
  where
    by : (b : Bool) → b ≡ false → tried_reason (if b then tried_mic y.ptk.kck f c else OtherNonces) ≡ None → ⊥
    by true is right = cc
    by false is right = cc

pub reassoc_behind : (d : Domain) (a : ℕ) (p : Node) (s : TargetState) (e : ElementFields) (h : List Act) → IsChosen d (Ap a) p s e h → tried_reason (request_tried s e) ≡ None
    → re_req_further d (Ap a) h p e ≡ outcome_by (reassociation_reason (wanted_at s) e true)
reassoc_behind d a p s e h c right = ap (λ (y : Option Judged). further_by d (Ap a) e y) c.by_this ∙ by (is_with e s.key) refl
  where
    by : (b : Bool) → is_with e s.key ≡ b → further_by d (Ap a) e (judged_by d (Ap a) p s (is_with e s.key)) ≡ outcome_by (reassociation_reason (wanted_at s) e true)
    by true is = ap (λ (b : Bool). further_by d (Ap a) e (judged_by d (Ap a) p s b)) is ∙ with_names d a p s e c.stands.suite c.stands.place.mfp_is c.stands.place.own c.stands.place.mdid
    by false is =
        ap (λ (b : Bool). further_by d (Ap a) e (judged_by d (Ap a) p s b)) is
        ∙ without_names d a p s e c.stands.suite c.stands.place.mfp_is c.stands.place.mdid (right_by s.key e.fte (input_of (request_between s) e) right is)

-- its seal
some_none : (f : FteFields) → Some f ≡ None → ⊥
some_none f is = cc

sealed_is : (d : Domain) (a : ℕ) (p : Node) (s : TargetState) (b : Bool) (f : Option FteFields) (c : Option (List ℕ)) → (b ≡ false → f ≡ None) → re_req_sealed (judged_by d (Ap a) p s b) f c ≡ noted_by s.key.ptk.kck f c
sealed_is d a p s true None c none = refl
sealed_is d a p s true (Some f) None none = refl
sealed_is d a p s true (Some f) (Some input) none = refl
sealed_is d a p s false None c none = refl
sealed_is d a p s false (Some f) c none = absurd (some_none f (none refl))

pub reassoc_seal : (d : Domain) (a : ℕ) (p : Node) (s : TargetState) (e : ElementFields) (h : List Act) → IsChosen d (Ap a) p s e h → tried_reason (request_tried s e) ≡ None
    → taken_seal (re_req_covered d (Ap a) p e) (verified_key s.key (request_tried s e)) ≡ re_req_seal d (Ap a) h p e
reassoc_seal d a p s e h c right =
    let input : Option (List ℕ) = input_of (request_between s) e in
    let same : input ≡ re_req_covered d (Ap a) p e = covered_is d (Ap a) p s e c.stands.place.own c.stands.place.peer in
    ap (λ (z : Option (List ℕ)). taken_seal z (verified_key s.key (request_tried s e))) (sym same)
    ∙ tried_noted s.key e.fte input right
    ∙ ap (λ (z : Option (List ℕ)). noted_by s.key.ptk.kck e.fte z) same
    ∙ sym (sealed_is d a p s (is_with e s.key) e.fte (re_req_covered d (Ap a) p e) (right_by s.key e.fte input right))
    ∙ ap (λ (y : Option Judged). re_req_sealed y e.fte (re_req_covered d (Ap a) p e)) (sym c.by_this)
