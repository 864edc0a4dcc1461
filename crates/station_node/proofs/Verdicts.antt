-- What comes of frames at a station, by the association that it has.
use Rattle.std.proofs.Common.{◌∙◌, ◌+◌, ◌≡◌, ◌≢◌, inl, inr, ℕ, Bool, true, false, List, Option, Some, None, refl, sym, ap, subst}
use Rattle.std.proofs.lemmas.Bool.Decides.{eqb_tells}
use Rattle.domain_base.specs.declared.names.Node.{Node}
use Rattle.domain_base.specs.declared.names.Node.TheVariants.{Ap, Sta}
use Rattle.rsn_elements.specs.Elements.{ElementFields}
use Rattle.eapol_key.specs.declared.messages.Message.{Message}
use Rattle.eapol_key.specs.declared.messages.Message.TheVariants.{M1, M3, G1}
use Rattle.run_journal.specs.declared.domain.Domain.{Domain}
use Rattle.run_journal.specs.declared.acts.Start.{Start}
use Rattle.run_journal.specs.declared.acts.Start.TheVariants.{Connect, Roam, Renew}
use Rattle.run_journal.specs.declared.acts.Kind.{Kind}
use Rattle.run_journal.specs.declared.acts.Kind.TheVariants as kind
use Rattle.run_journal.specs.declared.acts.Reason.TheVariants as reason
use Rattle.run_journal.specs.declared.acts.Outcome.TheVariants as outcome
use Rattle.run_journal.specs.declared.acts.Act.{Act}
use Rattle.run_journal.specs.Acts.{Derivation}
use Rattle.run_journal.specs.Questions.{attempt, session, draws}
use Rattle.domain_rules.specs.Reading.{Management, KeyMessage}
use Rattle.domain_rules.specs.Associating.{assoc_resp_verdict, management_verdict}
use Rattle.domain_rules.specs.Verdict.{key_verdict}
use Rattle.domain_rules.specs.StationKeys.{awaits_m1, m1_verdict, m3_keying}
use Rattle.domain_rules.proofs.Verdicts.{unawaited-assoc_resp, unawaited-m1, assoc_resp-in, m1-in}
use Rattle.domain_rules.proofs.Parts.{chain_part}
use Rattle.domain_rules.proofs.Starts.{connect_is, renewal_is, connect_no_roam, connect_no_renewal, roam_no_four_way, roam_no_connect, roam_no_renewal, renewal_no_connect}
use Rattle.domain_rules.specs.Asking.{start_of, is_roam, is_by_roam, is_by_renewal, has_heard, kept_counter}
use Rattle.domain_rules.specs.TransitionKeys.{ft_resp_verdict, re_resp_verdict}
use Rattle.supplicant.specs.declared.attempt.Attempt.{Attempt as SupplicantAttempt}
use Rattle.supplicant.specs.declared.base.Base.{Base}
use Rattle.supplicant.specs.declared.session.Session.{Session as SupplicantSession}
use Rattle.supplicant.specs.Stands.{HasAttempt as HasSupplicantAttempt, HasSession as HasSupplicantSession}
use Rattle.supplicant.proofs.Keyings.{m3_none, no_session_key, nowhere_keying}
use Rattle.ft_exchange.specs.State.{OriginatorState}
use Rattle.ft_exchange.specs.declared.originator.Stage.{Stage}
use Rattle.ft_exchange.specs.declared.originator.Stage.TheVariants as stage
use Rattle.ft_exchange.specs.Stands.{HasStage, OriginatorStands}
use Rattle.station_node.specs.declared.attempt.Attempt.{Attempt}
use Rattle.station_node.specs.declared.attempt.Association.{Association}
use Rattle.station_node.specs.declared.attempt.Association.TheVariants.{Requested, Accepted, Moving}
use Rattle.station_node.specs.declared.session.Session.{Session}
use Rattle.station_node.specs.Responses.{response_outcome}
use Rattle.station_node.specs.State.{State}
use Rattle.station_node.specs.Parts.{peer_of_attempt, peer_of_session, peer_pending, IsElsewhere, IsNotRequested, IsNotMoving}
use Rattle.station_node.specs.Stands.{Stands, IsRequested, HasAssociation, HasAttempt, HasSession}
use Rattle.station_node.proofs.Standing.{nobody, not_here, elsewhere_pending, no_session_beside, session_left, requested_is, moving_is}

-- ---- parts of the history

same_part : (kind_is : List Act → Bool) (o : Option (List Act)) (a b : List Act) → o ≡ Some a → kind_is a ≡ true → o ≡ Some b → kind_is b ≡ true
same_part kind_is o a b is begun was = let one : a ≡ b = cc (is, was) in subst (λ (x : List Act). kind_is x ≡ true) one begun

none_begun : (o : Option (List Act)) (b : List Act) → o ≡ None → o ≡ Some b → ⊥
none_begun o b none is = cc (none, is)

-- ---- where an attempt, if any, renews the key of a session

abbrev pub IsByRenewal : Node → List Act → Type 0
IsByRenewal p h = (part : List Act) → attempt p h ≡ Some part → is_by_renewal part ≡ true

-- that of a session does
renewed_in : (d : Domain) (n p : Node) (b : Base) (a : Option SupplicantAttempt) (x : Option SupplicantSession) (y : Derivation) (h : List Act) → HasSupplicantAttempt d n p b x a h → HasSupplicantSession d n p b x h → session p h ≡ Some y → IsByRenewal p h
renewed_in d n p b None x y h none held there = λ part is. absurd (none_begun (attempt p h) part none is)
renewed_in d n p b (Some a) None y h u silent there = λ part is. absurd (cc (silent, there))
renewed_in d n p b (Some a) (Some x) y h u held there = λ part is. same_part is_by_renewal (attempt p h) u.part part u.is u.begun is

pub renewed_at : (d : Domain) (first : ℕ) (s : State) (h : List Act) (p : ℕ) → Stands d first s h → IsElsewhere (peer_of_attempt s.attempt) p → IsByRenewal (Ap p) h
renewed_at d first s h p st other = by s.attempt s.session other st.session_is (st.no_attempt p)
  where
    by : (a : Option Attempt) (x : Option Session) → IsElsewhere (peer_of_attempt a) p → HasSession d (Sta s.number) x h → (IsElsewhere (peer_pending a x) p → attempt (Ap p) h ≡ None) → IsByRenewal (Ap p) h
    by (Some a) x tried held alone = λ part is. absurd (none_begun (attempt (Ap p) h) part (alone tried) is)
    by None None tried held alone = λ part is. absurd (none_begun (attempt (Ap p) h) part (alone tried) is)
    by None (Some z) tried held alone = elim (eqb_tells z.ap p) [
      | inl here ↦ subst (λ (q : ℕ). IsByRenewal (Ap q) h) here.1 (renewed_in d (Sta s.number) (Ap z.ap) z.supplicant.base z.supplicant.attempt z.supplicant.session held.keyed.key h held.stands.attempt_is held.stands.session_is held.keyed.is)
      | inr there ↦ λ part is. absurd (none_begun (attempt (Ap p) h) part (alone (elsewhere_pending None (Some z) p tried (not_here z.ap p there.1))) is)
    ]

response_renewed : (d : Domain) (p : Node) (h : List Act) (b : Management) (e : ElementFields) → IsByRenewal p h → assoc_resp_verdict d h p b e ≡ outcome.Refused reason.Unawaited
response_renewed d p h b e begun = by (attempt p h) refl
  where
    by : (o : Option (List Act)) → attempt p h ≡ o → assoc_resp_verdict d h p b e ≡ outcome.Refused reason.Unawaited
    by None is = unawaited-assoc_resp d h p b e is
    by (Some part) is = rw (is, renewal_no_connect (start_of part) (begun part is)) refl

-- ---- where a fast transition is under way

moving_stage : (d : Domain) (n p : Node) (o : OriginatorState) (x : Stage) (h part : List Act) → HasStage d n p o x h → attempt p h ≡ Some part → is_by_roam part ≡ true
moving_stage d n p o stage.Asked h part u is = same_part is_by_roam (attempt p h) u.part part u.is u.begun is
moving_stage d n p o (stage.Keyed t) h part u is = same_part is_by_roam (attempt p h) u.part part u.is u.begun is
moving_stage d n p o stage.Done h part none is = absurd (cc (none, is))

moving_begun : (d : Domain) (n p : Node) (o : OriginatorState) (h part : List Act) → OriginatorStands d n p o h → attempt p h ≡ Some part → is_by_roam part ≡ true
moving_begun d n p o h part st is = moving_stage d n p o o.stage h part st.stage_is is

-- nothing of an association is awaited
abbrev IsRoamed : Node → List Act → Type 0
IsRoamed p h = (part : List Act) → attempt p h ≡ Some part → is_by_roam part ≡ true

response_roamed : (d : Domain) (p : Node) (h : List Act) (b : Management) (e : ElementFields) → IsRoamed p h → assoc_resp_verdict d h p b e ≡ outcome.Refused reason.Unawaited
response_roamed d p h b e begun = by (attempt p h) refl
  where
    by : (o : Option (List Act)) → attempt p h ≡ o → assoc_resp_verdict d h p b e ≡ outcome.Refused reason.Unawaited
    by None is = unawaited-assoc_resp d h p b e is
    by (Some part) is = rw (is, roam_no_connect (start_of part) (begun part is)) refl

no_m1 : (o : Option Start) (associated : Bool) → is_roam o ≡ true → awaits_m1 o associated ≡ false
no_m1 (Some Connect) associated begun = absurd (cc begun)
no_m1 (Some Roam) associated begun = refl
no_m1 (Some Renew) associated begun = absurd (cc begun)
no_m1 None associated begun = absurd (cc begun)

m1_roamed : (d : Domain) (drawn : ℕ) (p : Node) (h : List Act) (k : KeyMessage) → IsRoamed p h → session p h ≡ None → m1_verdict d drawn h p k ≡ outcome.Refused reason.Unawaited
m1_roamed d drawn p h k begun silent = by (attempt p h) refl
  where
    by : (o : Option (List Act)) → attempt p h ≡ o → m1_verdict d drawn h p k ≡ outcome.Refused reason.Unawaited
    by None is = unawaited-m1 d drawn h p k (inl silent) is
    by (Some part) is = rw (is, no_m1 (start_of part) (has_heard p kind.AssocResp part) (begun part is)) refl

m3_roamed : (p : Node) (h : List Act) (k : KeyMessage) → IsRoamed p h → session p h ≡ None → m3_keying p h k ≡ None
m3_roamed p h k begun silent = by (attempt p h) refl
  where
    by : (o : Option (List Act)) → attempt p h ≡ o → m3_keying p h k ≡ None
    by None is = nowhere_keying p h is silent k
    by (Some part) is = rw (is, roam_no_renewal (start_of part) (begun part is), roam_no_four_way (start_of part) (begun part is)) (no_session_key p h silent)

-- ---- an association response that is not waited for

tried_response : (d : Domain) (n : Node) (a : ℕ) (y : Base) (o : Option SupplicantAttempt) (x : Option SupplicantSession) (h : List Act) (b : Management) (e : ElementFields) → HasSupplicantAttempt d n (Ap a) y x o h → assoc_resp_verdict d h (Ap a) b e ≡ outcome.Refused reason.Unawaited
tried_response d n a y None x h b e none = unawaited-assoc_resp d h (Ap a) b e none
tried_response d n a y (Some o) None h b e st = assoc_resp-in d h (Ap a) b e st.part true st.is st.begun st.hears
tried_response d n a y (Some o) (Some z) h b e st = response_renewed d (Ap a) h b e (λ part is. same_part is_by_renewal (attempt (Ap a) h) st.part part st.is st.begun is)

response_at : (d : Domain) (n : Node) (a : ℕ) (x : Association) (h : List Act) (b : Management) (e : ElementFields) → HasAssociation d n a x h → ((v : List ℕ) → x ≡ Requested v → ⊥) → assoc_resp_verdict d h (Ap a) b e ≡ outcome.Refused reason.Unawaited
response_at d n a (Requested v) h b e has other = absurd (other v refl)
response_at d n a (Accepted s) h b e has other = tried_response d n a s.base s.attempt s.session h b e has.stands.attempt_is
response_at d n a (Moving o) h b e has other = response_roamed d (Ap a) h b e (λ part is. moving_begun d n (Ap a) o h part has.stands is)

not_there : (a : Attempt) (p : ℕ) → a.ap ≡ p → IsNotRequested (Some a) p → (v : List ℕ) → a.association ≡ Requested v → ⊥
not_there a p here other v is = other v (whole a p v here is)
  where
    whole : (a : Attempt) (p : ℕ) (v : List ℕ) → a.ap ≡ p → a.association ≡ Requested v → Some a ≡ Some (record { ap = p; association = Requested v })
    whole a p v here is = ap (λ (q : ℕ). Some (record { ap = q; association = a.association })) here ∙ ap (λ (x : Association). Some (record { ap = p; association = x })) is

response_by : (d : Domain) (n : Node) (o : Option Attempt) (h : List Act) (p : ℕ) (b : Management) (e : ElementFields) → HasAttempt d n o h → (IsElsewhere (peer_of_attempt o) p → IsByRenewal (Ap p) h) → IsNotRequested o p
    → assoc_resp_verdict d h (Ap p) b e ≡ outcome.Refused reason.Unawaited
response_by d n None h p b e has alone other = response_renewed d (Ap p) h b e (alone (nobody None p refl))
response_by d n (Some a) h p b e has alone other = elim (eqb_tells a.ap p) [
  | inl here ↦ subst (λ (x : ℕ). assoc_resp_verdict d h (Ap x) b e ≡ outcome.Refused reason.Unawaited) here.1 (response_at d n a.ap a.association h b e has.1 (not_there a p here.1 other))
  | inr there ↦ response_renewed d (Ap p) h b e (alone (not_here a.ap p there.1))
]

pub response-unawaited : (d : Domain) (first : ℕ) (s : State) (h : List Act) (p : ℕ) (b : Management) (e : ElementFields) → Stands d first s h → IsNotRequested s.attempt p → assoc_resp_verdict d h (Ap p) b e ≡ outcome.Refused reason.Unawaited
response-unawaited d first s h p b e st other = response_by d (Sta s.number) s.attempt h p b e st.attempt_is (renewed_at d first s h p st) other

-- and one that is
pub response-awaited : (d : Domain) (first : ℕ) (s : State) (h : List Act) (p : ℕ) (v : List ℕ) (b : Management) (e : ElementFields) → Stands d first s h → s.attempt ≡ Some (record { ap = p; association = Requested v })
    → assoc_resp_verdict d h (Ap p) b e ≡ response_outcome d p b.status e
response-awaited d first s h p v b e st is =
    let r = requested_is d first s h p v st is in assoc_resp-in d h (Ap p) b e r.1.part false r.1.is r.1.begun r.1.hears

-- ---- an EAPOL-Key message of an access point with which there is neither attempt nor session

message_nowhere : (d : Domain) (drawn s : ℕ) (h : List Act) (p : Node) (k : KeyMessage) (m : Message) → attempt p h ≡ None → session p h ≡ None → key_verdict d drawn (Sta s) h p k m ≡ outcome.Refused reason.Unawaited
message_nowhere d drawn s h p k M1 none silent = unawaited-m1 d drawn h p k (inl silent) none
message_nowhere d drawn s h p k M3 none silent = m3_none d p h k (nowhere_keying p h none silent k)
message_nowhere d drawn s h p k G1 none silent = rw silent refl
message_nowhere d drawn s h p k _ none silent = refl

pub message-nowhere : (d : Domain) (first : ℕ) (s : State) (h : List Act) (p : ℕ) (k : KeyMessage) (m : Message) → Stands d first s h → IsElsewhere (peer_of_attempt s.attempt) p → IsElsewhere (peer_of_session s.session) p
    → key_verdict d (first + draws h) (Sta s.number) h (Ap p) k m ≡ outcome.Refused reason.Unawaited
message-nowhere d first s h p k m st tried held = message_nowhere d (first + draws h) s.number h (Ap p) k m (st.no_attempt p (elsewhere_pending s.attempt s.session p tried held)) (st.no_session p held)

-- and of one that has not answered the association request

no_m3 : (p : Node) (v : List ℕ) (h : List Act) (k : KeyMessage) → IsRequested p v h → m3_keying p h k ≡ None
no_m3 p v h k r = rw (r.is, connect_is (start_of r.part) r.begun, r.asked) refl

message_requested : (d : Domain) (drawn s : ℕ) (h : List Act) (p : Node) (v : List ℕ) (k : KeyMessage) (m : Message) → IsRequested p v h → session p h ≡ None → key_verdict d drawn (Sta s) h p k m ≡ outcome.Refused reason.Unawaited
message_requested d drawn s h p v k M1 r silent = m1-in d drawn h p k r.part false None r.is r.begun r.hears (ap (kept_counter p) (chain_part p h r.part r.is (connect_no_renewal (start_of r.part) r.begun)) ∙ r.keeps)
message_requested d drawn s h p v k M3 r silent = rw (no_m3 p v h k r) refl
message_requested d drawn s h p v k G1 r silent = rw silent refl
message_requested d drawn s h p v k _ r silent = refl

pub message-requested : (d : Domain) (first : ℕ) (s : State) (h : List Act) (p : ℕ) (v : List ℕ) (k : KeyMessage) (m : Message) → Stands d first s h → s.attempt ≡ Some (record { ap = p; association = Requested v })
    → key_verdict d (first + draws h) (Sta s.number) h (Ap p) k m ≡ outcome.Refused reason.Unawaited
message-requested d first s h p v k m st is =
    let alone = nobody (peer_of_session s.session) p (ap peer_of_session (no_session_beside d first s h p v st is)) in
    message_requested d (first + draws h) s.number h (Ap p) v k m (requested_is d first s h p v st is).1 (st.no_session p alone)

-- and of one to which a fast transition is under way
message_roamed : (d : Domain) (drawn s : ℕ) (h : List Act) (p : Node) (k : KeyMessage) (m : Message) → IsRoamed p h → session p h ≡ None → key_verdict d drawn (Sta s) h p k m ≡ outcome.Refused reason.Unawaited
message_roamed d drawn s h p k M1 begun silent = m1_roamed d drawn p h k begun silent
message_roamed d drawn s h p k M3 begun silent = m3_none d p h k (m3_roamed p h k begun silent)
message_roamed d drawn s h p k G1 begun silent = rw silent refl
message_roamed d drawn s h p k _ begun silent = refl

pub message-roamed : (d : Domain) (first : ℕ) (s : State) (h : List Act) (p : ℕ) (o : OriginatorState) (k : KeyMessage) (m : Message) → Stands d first s h → s.attempt ≡ Some (record { ap = p; association = Moving o })
    → key_verdict d (first + draws h) (Sta s.number) h (Ap p) k m ≡ outcome.Refused reason.Unawaited
message-roamed d first s h p o k m st is =
    let left = session_left d first s h p o st is in
    message_roamed d (first + draws h) s.number h (Ap p) k m (λ part there. moving_begun d (Sta s.number) (Ap p) o h part (moving_is d first s h p o st is).1.stands there)
    (st.no_session p (λ e. left.2 (same_peer left.0 p (sym (ap peer_of_session left.1) ∙ e))))
  where
    same_peer : (z : Session) (p : ℕ) → peer_of_session (Some z) ≡ Some (Ap p) → z.ap ≡ p
    same_peer z p is = cc

-- ---- management frames of other kinds

pub management-other : (d : Domain) (first : ℕ) (s : State) (h : List Act) (p : ℕ) (k : Kind) (b : Management) (e : ElementFields) → k ≢ kind.AssocResp → k ≢ kind.FtResp → k ≢ kind.ReResp
    → management_verdict d (first + draws h) (Sta s.number) h (Ap p) k b e ≡ outcome.Refused reason.Unawaited
management-other d first s h p kind.AssocResp b e one two three = absurd (one refl)
management-other d first s h p kind.FtResp b e one two three = absurd (two refl)
management-other d first s h p kind.ReResp b e one two three = absurd (three refl)
management-other d first s h p _ b e one two three = refl

-- ---- frames of a fast transition where none is under way

no_roam_by : (o : Option (List Act)) (a b : List Act) → o ≡ Some a → is_by_roam a ≡ false → o ≡ Some b → is_by_roam b ≡ false
no_roam_by o a b is begun was = let one : a ≡ b = cc (is, was) in subst (λ (x : List Act). is_by_roam x ≡ false) one begun

renewed_no_roam : (part : List Act) → is_by_renewal part ≡ true → is_by_roam part ≡ false
renewed_no_roam part begun = rw (renewal_is (start_of part) begun) refl

tried_begun : (d : Domain) (n : Node) (a : ℕ) (y : Base) (o : Option SupplicantAttempt) (x : Option SupplicantSession) (h part : List Act) → HasSupplicantAttempt d n (Ap a) y x o h → attempt (Ap a) h ≡ Some part → is_by_roam part ≡ false
tried_begun d n a y None x h part none is = absurd (none_begun (attempt (Ap a) h) part none is)
tried_begun d n a y (Some o) None h part st is = no_roam_by (attempt (Ap a) h) st.part part st.is (connect_no_roam (start_of st.part) st.begun) is
tried_begun d n a y (Some o) (Some z) h part st is = no_roam_by (attempt (Ap a) h) st.part part st.is (renewed_no_roam st.part st.begun) is

-- no attempt began by fast transition
association_begun : (d : Domain) (n : Node) (a : ℕ) (x : Association) (h part : List Act) → HasAssociation d n a x h → ((o : OriginatorState) → x ≡ Moving o → ⊥) → attempt (Ap a) h ≡ Some part → is_by_roam part ≡ false
association_begun d n a (Requested v) h part has other is = no_roam_by (attempt (Ap a) h) has.part part has.is (connect_no_roam (start_of has.part) has.begun) is
association_begun d n a (Accepted s) h part has other is = tried_begun d n a s.base s.attempt s.session h part has.stands.attempt_is is
association_begun d n a (Moving o) h part has other is = absurd (other o refl)

not_moving : (a : Attempt) (p : ℕ) → a.ap ≡ p → IsNotMoving (Some a) p → (o : OriginatorState) → a.association ≡ Moving o → ⊥
not_moving a p here other o is = other o (ap (λ (q : ℕ). Some (record { ap = q; association = a.association })) here ∙ ap (λ (x : Association). Some (record { ap = p; association = x })) is)

attempt_begun : (d : Domain) (n : Node) (o : Option Attempt) (h : List Act) (p : ℕ) (part : List Act) → HasAttempt d n o h → (IsElsewhere (peer_of_attempt o) p → IsByRenewal (Ap p) h) → IsNotMoving o p → attempt (Ap p) h ≡ Some part → is_by_roam part ≡ false
attempt_begun d n None h p part has alone other is = renewed_no_roam part (alone (nobody None p refl) part is)
attempt_begun d n (Some a) h p part has alone other is = elim (eqb_tells a.ap p) [
  | inl here ↦ association_begun d n p a.association h part (subst (λ (x : ℕ). HasAssociation d n x a.association h) here.1 has.1) (not_moving a p here.1 other) is
  | inr there ↦ renewed_no_roam part (alone (not_here a.ap p there.1) part is)
]

-- so nothing of a fast transition is awaited
pub auth-unawaited : (d : Domain) (first : ℕ) (s : State) (h : List Act) (p : ℕ) (b : Management) (e : ElementFields) → Stands d first s h → IsNotMoving s.attempt p → ft_resp_verdict d (Sta s.number) h (Ap p) b e ≡ outcome.Refused reason.Unawaited
auth-unawaited d first s h p b e st other = by (attempt (Ap p) h) refl
  where
    by : (o : Option (List Act)) → attempt (Ap p) h ≡ o → ft_resp_verdict d (Sta s.number) h (Ap p) b e ≡ outcome.Refused reason.Unawaited
    by None is = rw is refl
    by (Some part) is = let begun = attempt_begun d (Sta s.number) s.attempt h p part st.attempt_is (renewed_at d first s h p st) other is in rw (is, begun) refl

pub reassoc-unawaited : (d : Domain) (first : ℕ) (s : State) (h : List Act) (p : ℕ) (b : Management) (e : ElementFields) → Stands d first s h → IsNotMoving s.attempt p → re_resp_verdict d (Sta s.number) h (Ap p) b e ≡ outcome.Refused reason.Unawaited
reassoc-unawaited d first s h p b e st other = by (attempt (Ap p) h) refl
  where
    by : (o : Option (List Act)) → attempt (Ap p) h ≡ o → re_resp_verdict d (Sta s.number) h (Ap p) b e ≡ outcome.Refused reason.Unawaited
    by None is = rw is refl
    by (Some part) is = let begun = attempt_begun d (Sta s.number) s.attempt h p part st.attempt_is (renewed_at d first s h p st) other is in rw (is, begun) refl
