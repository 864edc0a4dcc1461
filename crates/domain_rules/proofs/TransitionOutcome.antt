-- What comes of the frames of a fast transition is decided, and what is taken of them is awaited.
use Rattle.std.proofs.Common.{◌≡◌, ◌⊎◌, ℕ, Bool, true, false, cond, List, Option, Some, None, is_some, refl, ap, subst, ◌∙◌, inl, inr}
use Rattle.std.specs.Prelude.{not, nat_lt, ◌||◌, ◌&&◌, ◌==◌, bytes_eq, if◌then◌else◌}
use Rattle.domain_base.specs.declared.names.Akm.{Akm}
use Rattle.domain_base.specs.declared.names.Akm.TheVariants.{Psk, PskSha256, FtPsk}
use Rattle.domain_base.specs.declared.names.Node.{Node}
use Rattle.key_hierarchy.specs.declared.fast_transition.PmkR1.{PmkR1}
use Rattle.mac_prf.specs.Cmac.{cmac}
use Rattle.rsn_elements.specs.Transition.{FteFields}
use Rattle.rsn_elements.specs.Elements.{ElementFields}
use Rattle.run_journal.specs.declared.domain.Domain.{Domain}
use Rattle.run_journal.specs.Events.{protects}
use Rattle.run_journal.specs.declared.acts.Kind.TheVariants as kind
use Rattle.run_journal.specs.declared.acts.Reason.{Reason}
use Rattle.run_journal.specs.declared.acts.Reason.TheVariants as reason
use Rattle.run_journal.specs.declared.acts.Outcome.{Outcome}
use Rattle.run_journal.specs.declared.acts.Outcome.TheVariants.{Accepted, Answered, Ignored, Refused}
use Rattle.run_journal.specs.declared.acts.Act.{Act}
use Rattle.run_journal.specs.Acts.{Derivation}
use Rattle.run_journal.specs.Questions.{attempt}
use Rattle.run_journal.specs.Holders.{last_r0kh_id}
use Rattle.domain_rules.specs.Network.{address, holder_of, root_at, draw_end}
use Rattle.domain_rules.specs.Reading.{Management}
use Rattle.domain_rules.specs.Asking.{is_by_roam, has_heard, own}
use Rattle.domain_rules.specs.Suites.{rsne_status, without_status}
use Rattle.domain_rules.specs.StationKeys.{taken_in}
use Rattle.domain_rules.specs.FastTransition.{root_name, fte_verified, mde_status, fte_status, names_both, counts_three, is_named, named, single, to_unwrap, igtk_to_unwrap, gtk_in, is_wrapped_gtk, has_igtk, r1_name}
use Rattle.domain_rules.specs.TransitionKeys.{Transition, transition_in, transition, session_transition, Asked, asked, repeats, asked_verdict, ft_req_asked, ft_req_verdict_by, ft_req_verdict, pulled_verdict, ft_req_pulled, ft_req_further, ft_resp_fields, own_nonce_in, ft_resp_verdict, has_nonces, Judged, judged, re_req_covered, re_req_mic, re_req_verdict, re_req_names, re_req_further, re_resp_keying, re_resp_covered, re_resp_mic, re_resp_verdict_by, re_resp_verdict, unwraps, re_resp_names, re_resp_further}
use Rattle.domain_rules.proofs.Deciding.{Decided, Took_in, Repeated, decided_if, refused, decided_attempt, decided_status, IsTaken, never, taken_passed, taken_attempt, taken_status, answered_behind, answered_passed, answered_status, answered_attempt}

-- ---- each is decided

decided_mic : (kck : List ℕ) (f : Option FteFields) (input : Option (List ℕ)) (a : Outcome) → Decided a → Decided (fte_verified kck f input a)
decided_mic kck (Some f) (Some input) a x = decided_if (bytes_eq f.mic (cmac kck input)) _ _ x (refused reason.Mic)
decided_mic kck (Some f) None a x = x
decided_mic kck None (Some input) a x = x
decided_mic kck None None a x = x

decided_session : (b : Bool) → Decided (taken_in b)
decided_session false = Took_in refl
decided_session true = Repeated refl

decided_named : (name : List ℕ) (e : ElementFields) → Decided (named name e Accepted)
decided_named name e = decided_if (is_named name e) _ _ (Took_in refl) (refused reason.Name)

decided_asked : (d : Domain) (a : Asked) (b : Bool) → Decided (asked_verdict d a b)
decided_asked d a b =
    decided_if b _ _ (Repeated refl)
    (decided_if (not (is_some (holder_of d a.r0kh_id))) _ _ (refused reason.NoHolder) (decided_if (is_some (single a.names)) _ _ (Took_in refl) (refused reason.Name)))

decided_request : (d : Domain) (a : Option Asked) (y : Option Transition) → Decided (ft_req_asked d a y)
decided_request d None y = refused (reason.Status fte_status)
decided_request d (Some a) y = decided_asked d a (repeats a y)

decided_ft_req_by : (akm : Akm) (d : Domain) (y : Option Transition) (e : ElementFields) → Decided (ft_req_verdict_by akm d y e)
decided_ft_req_by FtPsk d y e = decided_status (rsne_status d e.rsne) _ (decided_status (mde_status d e.mde) _ (decided_request d (asked e) y))
decided_ft_req_by Psk d y e = refused reason.Unawaited
decided_ft_req_by PskSha256 d y e = refused reason.Unawaited

pub decided_ft_req : (d : Domain) (h : List Act) (p : Node) (e : ElementFields) → Decided (ft_req_verdict d h p e)
decided_ft_req d h p e = decided_ft_req_by d.akm d (transition p h) e

decided_pulled : (drawn : ℕ) (k : Option PmkR1) → Decided (pulled_verdict drawn k)
decided_pulled drawn None = refused reason.Name
decided_pulled drawn (Some k) = decided_if (nat_lt drawn draw_end) _ _ (Took_in refl) (refused reason.Spent)

decided_repeat : (b : Bool) (o : Outcome) → Decided o → Decided (cond b Accepted o)
decided_repeat true o x = Took_in refl
decided_repeat false o x = x

decided_given : (drawn : ℕ) (a : Option Asked) (y : Option Transition) (k : Option PmkR1) → Decided (ft_req_pulled drawn a y k)
decided_given drawn None y k = Took_in refl
decided_given drawn (Some a) y k = decided_repeat (repeats a y) _ (decided_pulled drawn k)

pub decided_ft_req_further : (drawn : ℕ) (h : List Act) (p : Node) (e : ElementFields) (k : Option PmkR1) → Decided (ft_req_further drawn h p e k)
decided_ft_req_further drawn h p e k = decided_given drawn (asked e) (transition p h) k

decided_ft_fields : (d : Domain) (n : Node) (h : List Act) (p : Node) (e : ElementFields) → Decided (ft_resp_fields d n h p e)
decided_ft_fields d n h p e =
    decided_status (rsne_status d e.rsne) _ (decided_status (mde_status d e.mde) _
    (decided_if (names_both (address d p) (last_r0kh_id h) e.fte) _ _ (decided_named (root_name d (root_at d n (last_r0kh_id h)) n) e) (refused (reason.Status fte_status))))

decided_own : (snonce : List ℕ) (f : Option FteFields) (a : Outcome) → Decided a → Decided (own_nonce_in snonce f a)
decided_own snonce None a x = x
decided_own snonce (Some f) a x = decided_if (bytes_eq f.snonce snonce) _ _ x (refused reason.Nonce)

pub decided_ft_resp : (d : Domain) (n : Node) (h : List Act) (p : Node) (b : Management) (e : ElementFields) → Decided (ft_resp_verdict d n h p b e)
decided_ft_resp d n h p b e =
    decided_attempt (attempt p h) _ (λ part. decided_if (not (is_by_roam part) || has_heard p kind.FtResp part) _ _ (refused reason.Unawaited)
    (decided_if (not (b.status == 0)) _ _ (refused (reason.Status b.status)) (decided_own (own part) e.fte _ (decided_ft_fields d n h p e))))

decided_nonces : (b : Bool) → Decided (cond b (Refused reason.Nonce) Accepted)
decided_nonces true = refused reason.Nonce
decided_nonces false = Took_in refl

decided_judged : (d : Domain) (n p : Node) (e : ElementFields) (o : Option Judged) → Decided (re_req_mic d n p e o)
decided_judged d n p e None = decided_nonces (is_some e.fte)
decided_judged d n p e (Some y) = decided_mic y.by_.key.ptk.kck e.fte (re_req_covered d n p e) _ (decided_session y.is_session)

pub decided_re_req : (d : Domain) (n : Node) (h : List Act) (p : Node) (e : ElementFields) → Decided (re_req_verdict d n h p e)
decided_re_req d n h p e = decided_if (is_some (transition p h) || is_some (session_transition p h)) _ _ (decided_judged d n p e (judged p h e)) (refused reason.Unawaited)

decided_names : (d : Domain) (n : Node) (e : ElementFields) (o : Option Judged) → Decided (re_req_names d n e o)
decided_names d n e None = refused (reason.Status fte_status)
decided_names d n e (Some y) =
    decided_if (counts_three e.fte && names_both (address d n) y.by_.key.inputs.r0kh_id e.fte) _ _ (decided_named y.by_.r1_name e) (refused (reason.Status fte_status))

pub decided_re_req_further : (d : Domain) (n : Node) (h : List Act) (p : Node) (e : ElementFields) → Decided (re_req_further d n h p e)
decided_re_req_further d n h p e = decided_status (rsne_status d e.rsne) _ (decided_status (mde_status d e.mde) _ (decided_names d n e (judged p h e)))

decided_resp_mic : (d : Domain) (n p : Node) (e : ElementFields) (x : Derivation) (f : Option FteFields) → Decided (re_resp_mic d n p e x f)
decided_resp_mic d n p e x None = Took_in refl
decided_resp_mic d n p e x (Some f) =
    decided_if (has_nonces f x) _ _ (decided_mic x.ptk.kck e.fte (re_resp_covered d n p e) _ (Took_in refl)) (refused reason.Nonce)

decided_resp_by : (d : Domain) (n p : Node) (b : Management) (e : ElementFields) (o : Option Derivation) → Decided (re_resp_verdict_by d n p b e o)
decided_resp_by d n p b e None = refused reason.Unawaited
decided_resp_by d n p b e (Some x) = decided_if (b.status == 0) _ _ (decided_resp_mic d n p e x e.fte) (Took_in refl)

pub decided_re_resp : (d : Domain) (n : Node) (h : List Act) (p : Node) (b : Management) (e : ElementFields) → Decided (re_resp_verdict d n h p b e)
decided_re_resp d n h p b e = decided_resp_by d n p b e (re_resp_keying p h)

decided_unwraps : (octets plain : Option (List ℕ)) (a : Outcome) → Decided a → Decided (unwraps octets plain a)
decided_unwraps (Some octets) None a x = refused reason.Wrap
decided_unwraps (Some octets) (Some plain) a x = x
decided_unwraps None plain a x = x

decided_resp_names : (d : Domain) (n p : Node) (e : ElementFields) (o : Option Derivation) → Decided (re_resp_names d n p e o)
decided_resp_names d n p e None = refused reason.Unawaited
decided_resp_names d n p e (Some x) =
    decided_status (rsne_status d e.rsne) _ (decided_status (mde_status d e.mde) _
    (decided_if (counts_three e.fte && names_both (address d p) x.inputs.r0kh_id e.fte && is_wrapped_gtk (gtk_in e.fte) && has_igtk (protects d) e.fte) _ _ (decided_named (r1_name x.inputs) e) (refused (reason.Status fte_status))))

pub decided_re_resp_further : (d : Domain) (n : Node) (h : List Act) (p : Node) (b : Management) (e : ElementFields) (u v : Option (List ℕ)) → Decided (re_resp_further d n h p b e u v)
decided_re_resp_further d n h p b e u v =
    decided_unwraps (to_unwrap e.fte) u _ (decided_unwraps (igtk_to_unwrap (protects d) e.fte) v _
    (decided_if (b.status == 0) _ _ (decided_resp_names d n p e (re_resp_keying p h)) (refused (reason.Status b.status))))

-- ---- what is taken of a request for authentication

-- it asks for a key with suite 4
pub record FtReqTaken (d : Domain) (h : List Act) (p : Node) (e : ElementFields) : Type 0 where
  pub suite : d.akm ≡ FtPsk
  pub rsne : rsne_status d e.rsne ≡ None
  pub mde : mde_status d e.mde ≡ None
  pub a : Asked
  pub asks : asked e ≡ Some a
  pub verdict_is : ft_req_verdict d h p e ≡ asked_verdict d a (repeats a (transition p h))

request_taken : (d : Domain) (o : Option Asked) (y : Option Transition) → IsTaken (ft_req_asked d o y) → (a : Asked) × (o ≡ Some a)
request_taken d None y s = never (reason.Status fte_status) s
request_taken d (Some a) y s = (a, refl)

ft_req_by : (akm : Akm) (d : Domain) (y : Option Transition) (e : ElementFields) → IsTaken (ft_req_verdict_by akm d y e)
    → (akm ≡ FtPsk) × ((rsne_status d e.rsne ≡ None) × ((mde_status d e.mde ≡ None) × ((a : Asked) × ((asked e ≡ Some a) × (ft_req_verdict_by akm d y e ≡ asked_verdict d a (repeats a y))))))
ft_req_by Psk d y e s = never reason.Unawaited s
ft_req_by PskSha256 d y e s = never reason.Unawaited s
ft_req_by FtPsk d y e s =
    let one = taken_status (rsne_status d e.rsne) _ s in
    let two = taken_status (mde_status d e.mde) _ one.1 in
    let asks = request_taken d (asked e) y two.1 in (
      refl,
      (
        one.0,
        (
          two.0,
          (
            asks.0,
            (
              asks.1,
              ap (λ (o : Option ℕ). without_status o (without_status (mde_status d e.mde) (ft_req_asked d (asked e) y))) one.0
                  ∙ ap (λ (o : Option ℕ). without_status o (ft_req_asked d (asked e) y)) two.0
                  ∙ ap (λ (o : Option Asked). ft_req_asked d o y) asks.1,
            ),
          ),
        ),
      ),
    )

pub ft_req_taken : (d : Domain) (h : List Act) (p : Node) (e : ElementFields) → IsTaken (ft_req_verdict d h p e) → FtReqTaken d h p e
ft_req_taken d h p e s = let t = ft_req_by d.akm d (transition p h) e s in
    record { suite = t.0; rsne = t.1.0; mde = t.1.1.0; a = t.1.1.1.0; asks = t.1.1.1.1.0; verdict_is = t.1.1.1.1.1 }

name_of : (o : Option (List ℕ)) → (if is_some o then Accepted else Refused reason.Name) ≡ Accepted → (name : List ℕ) × (o ≡ Some name)
name_of None s = cc
name_of (Some name) s = (name, refl)

behind_holder : (b : Bool) (o : Outcome) → (if not b then Refused reason.NoHolder else o) ≡ Accepted → (b ≡ true) × (o ≡ Accepted)
behind_holder true o s = (refl, s)
behind_holder false o s = cc

-- where it is accepted, it repeats none, an access point has the R0KH-ID, and it names one PMKID
pub asked_accepted : (d : Domain) (a : Asked) (b : Bool) → asked_verdict d a b ≡ Accepted → (b ≡ false) × ((is_some (holder_of d a.r0kh_id) ≡ true) × ((name : List ℕ) × (single a.names ≡ Some name)))
asked_accepted d a true s = cc
asked_accepted d a false s =
    let w = behind_holder (is_some (holder_of d a.r0kh_id)) _ s in
    (refl, (w.0, name_of (single a.names) w.1))

not_answered_name : (b : Bool) → (if b then Accepted else Refused reason.Name) ≡ Answered → ⊥
not_answered_name true s = cc
not_answered_name false s = cc

-- where it is answered, it repeats one
pub asked_answered : (d : Domain) (a : Asked) (b : Bool) → asked_verdict d a b ≡ Answered → b ≡ true
asked_answered d a true s = refl
asked_answered d a false s = absurd (not_answered_name (is_some (single a.names)) (answered_behind (not (is_some (holder_of d a.r0kh_id))) reason.NoHolder _ s))

repeats_some : (a : Asked) (o : Option Transition) → repeats a o ≡ true → (y : Transition) × (o ≡ Some y)
repeats_some a None s = cc
repeats_some a (Some y) s = (y, refl)

transition_part : (p : Node) (h : List Act) (o : Option (List Act)) (y : Transition) → transition_in p h o ≡ Some y → (part : List Act) × (o ≡ Some part)
transition_part p h None y s = cc
transition_part p h (Some part) y s = (part, refl)

pub repeated_part : (p : Node) (h : List Act) (a : Asked) → repeats a (transition p h) ≡ true → (part : List Act) × (attempt p h ≡ Some part)
repeated_part p h a s = let y = repeats_some a (transition p h) s in transition_part p h (attempt p h) y.0 y.1

-- ---- of a response

status_false : (b : Bool) (status : ℕ) → (if b then Accepted else Refused (reason.Status status)) ≡ Answered → ⊥
status_false true status s = cc
status_false false status s = cc

both_some : (r1kh r0kh : List ℕ) (o : Option FteFields) → names_both r1kh r0kh o ≡ true → (f : FteFields) × (o ≡ Some f)
both_some r1kh r0kh None s = cc
both_some r1kh r0kh (Some f) s = (f, refl)

pub record FtRespTaken (d : Domain) (n : Node) (h : List Act) (p : Node) (e : ElementFields) : Type 0 where
  pub part : List Act
  pub awaited : attempt p h ≡ Some part
  pub first : (not (is_by_roam part) || has_heard p kind.FtResp part) ≡ false
  pub f : FteFields
  pub fte : e.fte ≡ Some f
  pub nonce : bytes_eq f.snonce (own part) ≡ true

first_awaited : (c : Bool) (o : Outcome) → IsTaken (if c then Refused reason.Unawaited else o) → (c ≡ false) × IsTaken o
first_awaited true o s = never reason.Unawaited s
first_awaited false o s = (refl, s)

zero_status : (b : Bool) (status : ℕ) (o : Outcome) → IsTaken (if not b then Refused (reason.Status status) else o) → (b ≡ true) × IsTaken o
zero_status true status o s = (refl, s)
zero_status false status o s = never (reason.Status status) s

fields_taken : (d : Domain) (n : Node) (h : List Act) (p : Node) (e : ElementFields) → IsTaken (ft_resp_fields d n h p e) → (f : FteFields) × (e.fte ≡ Some f)
fields_taken d n h p e s =
    let one = taken_status (rsne_status d e.rsne) _ s in
    let two = taken_status (mde_status d e.mde) _ one.1 in
    both_some (address d p) (last_r0kh_id h) e.fte (taken_passed (names_both (address d p) (last_r0kh_id h) e.fte) (reason.Status fte_status) _ two.1).0

own_taken : (snonce : List ℕ) (o : Option FteFields) (f : FteFields) (a : Outcome) → o ≡ Some f → IsTaken (own_nonce_in snonce o a) → (bytes_eq f.snonce snonce ≡ true) × IsTaken a
own_taken snonce o f a is s = taken_passed (bytes_eq f.snonce snonce) reason.Nonce a (subst (λ (x : Option FteFields). IsTaken (own_nonce_in snonce x a)) is s)

own_behind : (snonce : List ℕ) (o : Option FteFields) (a : Outcome) → IsTaken (own_nonce_in snonce o a) → IsTaken a
own_behind snonce None a s = s
own_behind snonce (Some f) a s = (taken_passed (bytes_eq f.snonce snonce) reason.Nonce a s).1

pub ft_resp_taken : (d : Domain) (n : Node) (h : List Act) (p : Node) (b : Management) (e : ElementFields) → IsTaken (ft_resp_verdict d n h p b e) → FtRespTaken d n h p e
ft_resp_taken d n h p b e s =
    let one = taken_attempt (attempt p h) _ s in
    let two = first_awaited (not (is_by_roam one.0) || has_heard p kind.FtResp one.0) _ one.1.1 in
    let three = zero_status (b.status == 0) b.status _ two.1 in
    let f = fields_taken d n h p e (own_behind (own one.0) e.fte _ three.1) in
    record { part = one.0; awaited = one.1.0; first = two.0; f = f.0; fte = f.1; nonce = (own_taken (own one.0) e.fte f.0 _ f.1 three.1).0 }

named_unanswered : (name : List ℕ) (e : ElementFields) → named name e Accepted ≡ Answered → ⊥
named_unanswered name e s = not_answered_name (is_named name e) s

fields_unanswered : (d : Domain) (n : Node) (h : List Act) (p : Node) (e : ElementFields) → ft_resp_fields d n h p e ≡ Answered → ⊥
fields_unanswered d n h p e s =
    named_unanswered (root_name d (root_at d n (last_r0kh_id h)) n) e
    (answered_passed (names_both (address d p) (last_r0kh_id h) e.fte) (reason.Status fte_status) _
    (answered_status (mde_status d e.mde) _ (answered_status (rsne_status d e.rsne) _ s)))

own_unanswered : (snonce : List ℕ) (o : Option FteFields) (a : Outcome) → own_nonce_in snonce o a ≡ Answered → a ≡ Answered
own_unanswered snonce None a s = s
own_unanswered snonce (Some f) a s = answered_passed (bytes_eq f.snonce snonce) reason.Nonce a s

pub ft_resp_unanswered : (d : Domain) (n : Node) (h : List Act) (p : Node) (b : Management) (e : ElementFields) → ft_resp_verdict d n h p b e ≡ Answered → ⊥
ft_resp_unanswered d n h p b e s =
    let one = answered_attempt (attempt p h) _ s in
    fields_unanswered d n h p e (own_unanswered (own one.0) e.fte _
    (answered_behind (not (b.status == 0)) (reason.Status b.status) _ (answered_behind (not (is_by_roam one.0) || has_heard p kind.FtResp one.0) reason.Unawaited _ one.1.1)))

-- ---- of a request for reassociation

names_some : (d : Domain) (n : Node) (e : ElementFields) (o : Option Judged) → (re_req_names d n e o ≡ Accepted) → (y : Judged) × (o ≡ Some y)
names_some d n e None s = cc
names_some d n e (Some y) s = (y, refl)

-- behind the tests of its elements it is judged by an attempt or a session
pub re_req_judged : (d : Domain) (n : Node) (h : List Act) (p : Node) (e : ElementFields) → re_req_further d n h p e ≡ Accepted → (y : Judged) × (judged p h e ≡ Some y)
re_req_judged d n h p e s = let one = taken_status (rsne_status d e.rsne) _ (inl s) in judged_at one.1
  where
    accepted_names : (o : Option Judged) → IsTaken (re_req_names d n e o) → (y : Judged) × (o ≡ Some y)
    accepted_names None t = never (reason.Status fte_status) t
    accepted_names (Some y) t = (y, refl)

    judged_at : IsTaken (without_status (mde_status d e.mde) (re_req_names d n e (judged p h e))) → (y : Judged) × (judged p h e ≡ Some y)
    judged_at t = accepted_names (judged p h e) (taken_status (mde_status d e.mde) _ t).1

-- ---- of a response for reassociation

pub re_resp_awaited : (d : Domain) (n p : Node) (b : Management) (e : ElementFields) (o : Option Derivation) → IsTaken (re_resp_verdict_by d n p b e o) → (x : Derivation) × (o ≡ Some x)
re_resp_awaited d n p b e None s = never reason.Unawaited s
re_resp_awaited d n p b e (Some x) s = (x, refl)

mic_unanswered : (kck : List ℕ) (f : Option FteFields) (input : Option (List ℕ)) → fte_verified kck f input Accepted ≡ Answered → ⊥
mic_unanswered kck (Some f) (Some input) s = cc (answered_passed (bytes_eq f.mic (cmac kck input)) reason.Mic Accepted s)
mic_unanswered kck (Some f) None s = cc
mic_unanswered kck None (Some input) s = cc
mic_unanswered kck None None s = cc

resp_mic_unanswered : (d : Domain) (n p : Node) (e : ElementFields) (x : Derivation) (f : Option FteFields) → re_resp_mic d n p e x f ≡ Answered → ⊥
resp_mic_unanswered d n p e x None s = cc
resp_mic_unanswered d n p e x (Some f) s = mic_unanswered x.ptk.kck e.fte (re_resp_covered d n p e) (answered_passed (has_nonces f x) reason.Nonce _ s)

resp_by_unanswered : (b : Bool) (o : Outcome) → (o ≡ Answered → ⊥) → (if b then o else Accepted) ≡ Answered → ⊥
resp_by_unanswered true o all s = all s
resp_by_unanswered false o all s = cc

re_resp_by_unanswered : (d : Domain) (n p : Node) (b : Management) (e : ElementFields) (o : Option Derivation) → re_resp_verdict_by d n p b e o ≡ Answered → ⊥
re_resp_by_unanswered d n p b e None s = cc
re_resp_by_unanswered d n p b e (Some x) s = resp_by_unanswered (b.status == 0) _ (resp_mic_unanswered d n p e x e.fte) s

pub re_resp_unanswered : (d : Domain) (n : Node) (h : List Act) (p : Node) (b : Management) (e : ElementFields) → re_resp_verdict d n h p b e ≡ Answered → ⊥
re_resp_unanswered d n h p b e s = re_resp_by_unanswered d n p b e (re_resp_keying p h) s

-- its elements are accepted or refused, and nothing else
name_never : (c : Bool) → ((if c then Accepted else Refused reason.Name) ≡ Answered) ⊎ ((if c then Accepted else Refused reason.Name) ≡ Ignored) → ⊥
name_never true (inl s) = cc
name_never true (inr s) = cc
name_never false (inl s) = cc
name_never false (inr s) = cc

abbrev Neither : Outcome → Type 0
Neither o = (o ≡ Answered) ⊎ (o ≡ Ignored) → ⊥

never_status : (o : Option ℕ) (a : Outcome) → Neither a → Neither (without_status o a)
never_status None a other s = other s
never_status (Some code) a other (inl s) = cc
never_status (Some code) a other (inr s) = cc

never_if : (c : Bool) (why : Reason) (a : Outcome) → Neither a → Neither (if c then a else Refused why)
never_if true why a other s = other s
never_if false why a other (inl s) = cc
never_if false why a other (inr s) = cc

names_never : (d : Domain) (n : Node) (e : ElementFields) (o : Option Judged) → Neither (re_req_names d n e o)
names_never d n e None (inl s) = cc
names_never d n e None (inr s) = cc
names_never d n e (Some y) s =
    never_if (counts_three e.fte && names_both (address d n) y.by_.key.inputs.r0kh_id e.fte) (reason.Status fte_status) _ (name_never (is_named y.by_.r1_name e)) s

pub re_req_never : (d : Domain) (n : Node) (h : List Act) (p : Node) (e : ElementFields) → (re_req_further d n h p e ≡ Answered) ⊎ (re_req_further d n h p e ≡ Ignored) → ⊥
re_req_never d n h p e s = never_status (rsne_status d e.rsne) _ (never_status (mde_status d e.mde) _ (names_never d n e (judged p h e))) s
