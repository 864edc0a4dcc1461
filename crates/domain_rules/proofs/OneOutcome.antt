-- What is accepted or answered was awaited, and of a frame one thing comes.
use Rattle.std.proofs.Common.{◌≡◌, ◌⊎◌, ℕ, ◌+◌, Bool, true, false, List, Option, Some, None, refl, sym, ap, subst, ◌∙◌, inl, inr}
use Rattle.std.proofs.lemmas.Bool.{and_parts}
use Rattle.std.specs.Prelude.{not, nat_lt, ◌||◌, ◌&&◌, ◌==◌, bytes_eq, length, drop, option_and_then, if◌then◌else◌}
use Rattle.std.specs.List.{list_any}
use Rattle.domain_base.specs.declared.names.Node.{Node}
use Rattle.domain_base.specs.declared.names.Node.TheVariants.{Ap, Sta}
use Rattle.air_frame.specs.Fields.{HeaderFields}
use Rattle.air_frame.specs.declared.frame.Direction.{Direction}
use Rattle.mac_prf.specs.Mic.{mic}
use Rattle.rsn_elements.specs.KeyData.{IgtkKdeFields}
use Rattle.rsn_elements.specs.Transition.{WrappedGtkFields, WrappedIgtkFields, FteFields}
use Rattle.rsn_elements.specs.Elements.{ElementFields}
use Rattle.domain_base.specs.declared.names.Akm.{Akm}
use Rattle.domain_base.specs.declared.names.Akm.TheVariants.{Psk, PskSha256, FtPsk}
use Rattle.eapol_key.specs.declared.messages.Message.{Message}
use Rattle.eapol_key.specs.declared.messages.Message.TheVariants.{M1, M2, M3, M4, G1, G2}
use Rattle.run_journal.specs.declared.domain.Domain.{Domain}
use Rattle.run_journal.specs.Events.{protects}
use Rattle.run_journal.specs.declared.acts.Kind.{Kind}
use Rattle.run_journal.specs.declared.acts.Kind.TheVariants as kind
use Rattle.run_journal.specs.declared.acts.Reason.{Reason}
use Rattle.run_journal.specs.declared.acts.Reason.TheVariants as reason
use Rattle.run_journal.specs.declared.acts.KeyDataFault.TheVariants as key_data
use Rattle.run_journal.specs.declared.acts.Outcome.{Outcome}
use Rattle.run_journal.specs.declared.acts.Outcome.TheVariants.{Accepted, Answered, Ignored, Refused}
use Rattle.run_journal.specs.declared.acts.Act.{Act}
use Rattle.run_journal.specs.declared.acts.GroupKind.TheVariants as groups
use Rattle.run_journal.specs.Questions.{attempt, session, draws, chain, handshake}
use Rattle.run_journal.specs.Acts.{Derivation, GroupKey}
use Rattle.domain_rules.specs.Network.{address, bssid, direction, goes_like, peer_of, draw_end}
use Rattle.domain_rules.specs.Reading.{Management, KeyMessage, Reading, Managed, Keyed, Sealed, Acting, ReadsAt}
use Rattle.domain_rules.specs.Facts.{Facts}
use Rattle.domain_rules.specs.Verdict.{Knows, KnowsFrom, KnowsOf, KnowsResponse, KnowsManaged, ComesSoFar, unless_refused, first_verdict, further, further_from, m3_further, key_further, management_further, and_then, verdict, from_peer, sender_in, management_sender, is_mine, is_mine_or_group, key_verdict}
use Rattle.domain_rules.specs.StationKeys.{awaits_m1, opens_renewal, m1_verdict_in, KnowsM3, Keying, m3_keying, m3_verdict_by, m3_wrapped, g1_verdict_by, g1_key_data, g1_wrapped, is_group_key, is_integrity_key, igtk_data, group_keys_data}
use Rattle.domain_rules.specs.Owing.{owing}
use Rattle.ccmp_guard.specs.Ccmp.{ccm_nonce, ccm_aad, packet_number}
use Rattle.ccmp_guard.proofs.Sealing.{Sealed-unique}
use Rattle.domain_rules.specs.PacketNumbers.{OpenKey}
use Rattle.domain_rules.specs.ManagementFrames.{integrity_key, action_verdict_by, action_verdict, action_further}
use Rattle.domain_rules.specs.DataVerdict.{opened_by, data_verdict_by, data_verdict, unsealed, IsOpened}
use Rattle.domain_rules.specs.AccessPointKeys.{is_secured_rightly, g2_verdict_by, m4_keying, m4_verdict_by, m4_verdict}
use Rattle.domain_rules.specs.Asking.{in_attempt, above, start_of, by_connect, is_four_way, has_heard, kept_counter, offered}
use Rattle.domain_rules.specs.Associating.{without_status, rsne_status, response_fields, management_verdict}
use Rattle.domain_rules.specs.FastTransition.{r1_name, is_named, mobility_status, mde_status, fte_status, names_r1kh, names_both, counts_three, gtk_in, gtk_id, is_wrapped_gtk, to_unwrap, igtk_in, is_wrapped_igtk, has_igtk, igtk_to_unwrap}
use Rattle.domain_rules.specs.TransitionKeyData.{response, ft_m3_wrapped}
use Rattle.domain_rules.specs.TransitionKeys.{ft_req_further, re_resp_further, re_resp_keying, re_resp_names, unwraps, KnowsGtk}
use Rattle.domain_rules.proofs.IntegrityKeys.{one_ipn_got}
use Rattle.domain_rules.proofs.OneReading.{one_reading_at, same_m2, same_m3, same_g1, same_opened, same_opened_g1, same_requested, same_plain, same_gtk}
pub use Rattle.domain_rules.proofs.Deciding.{Decided, Took_in, Repeated, Passed, Thrown, IsTaken, taken_behind, answered_behind}
use Rattle.domain_rules.proofs.Deciding.{never, taken_attempt, taken_status, taken_passed, answered_passed, answered_status}
use Rattle.domain_rules.proofs.TransitionOutcome.{decided_re_resp_further, FtReqTaken, ft_req_taken, FtRespTaken, ft_resp_taken, ft_resp_unanswered, re_resp_awaited, re_resp_unanswered}

-- ---- what was accepted is awaited

-- behind a test that refuses
pub not_thrown : (c : Bool) (why : Reason) (a : Outcome) → (if c then Refused why else a) ≡ Accepted → a ≡ Accepted
not_thrown true why a s = cc
not_thrown false why a s = s

pub from_some : (o : Option Node) (f : Node → Outcome) → from_peer o f ≡ Accepted → (p : Node) × ((o ≡ Some p) × (f p ≡ Accepted))
from_some None f s = cc
from_some (Some p) f s = (p, (refl, s))

in_some : (o : Option (List Act)) (f : List Act → Outcome) → in_attempt o f ≡ Accepted → (part : List Act) × (o ≡ Some part)
in_some None f s = cc
in_some (Some part) f s = (part, refl)

sender_by : (b : Bool) (p q : Node) → (if b then Some p else None) ≡ Some q → p ≡ q
sender_by true p q s = cc
sender_by false p q s = cc

pub sender-some : (d : Domain) (n p : Node) (header : HeaderFields) (o : Option Node) → sender_in d n header o ≡ Some p → o ≡ Some p
sender-some d n p header None s = cc
sender-some d n p header (Some q) s = ap (λ (x : Node). Some x) (sender_by (bytes_eq header.a3 (bssid d n q)) q p s)

abbrev pub InAttempt : Node → List Act → Type 0
InAttempt p h = (part : List Act) × (attempt p h ≡ Some part)

-- with a derived key
pub record InKeyedAttempt (p : Node) (h : List Act) : Type 0 where
  pub part : List Act
  pub awaited : attempt p h ≡ Some part
  pub x : Derivation
  pub keyed : m4_keying p part ≡ Some x

abbrev pub HasKeying : Node → List Act → KeyMessage → Type 0
HasKeying p h k = (y : Keying) × (m3_keying p h k ≡ Some y)

-- a session, and one that owes
abbrev pub HasSession : Node → List Act → Type 0
HasSession p h = (x : Derivation) × (session p h ≡ Some x)

abbrev pub Owes : Node → List Act → Type 0
Owes p h = (x : Derivation) × (owing groups.Gtk p h ≡ Some x)

-- which message it is, and by what it is awaited
pub data Awaited (p : Node) (h : List Act) (k : KeyMessage) (m : Message) : Type 0 where
  Is_m1 : m ≡ M1 → InAttempt p h → Awaited p h k m
  Is_opening_m1 : m ≡ M1 → attempt p h ≡ None → Awaited p h k m
  Is_m2 : m ≡ M2 → InAttempt p h → Awaited p h k m
  Is_m3 : m ≡ M3 → HasKeying p h k → Awaited p h k m
  Is_m4 : m ≡ M4 → InKeyedAttempt p h → Awaited p h k m
  Is_g1 : m ≡ G1 → HasSession p h → Awaited p h k m
  Is_g2 : m ≡ G2 → Owes p h → Awaited p h k m

pub taken_from : (o : Option Node) (f : Node → Outcome) → IsTaken (from_peer o f) → (p : Node) × ((o ≡ Some p) × IsTaken (f p))
taken_from None f (inl s) = absurd cc
taken_from None f (inr s) = absurd cc
taken_from (Some p) f s = (p, (refl, s))

taken_m3 : (d : Domain) (kept : Option ℕ) (k : KeyMessage) (o : Option Keying) → IsTaken (m3_verdict_by d kept k o) → (y : Keying) × (o ≡ Some y)
taken_m3 d kept k None (inl s) = absurd cc
taken_m3 d kept k None (inr s) = absurd cc
taken_m3 d kept k (Some y) s = (y, refl)

taken_m4 : (d : Domain) (p : Node) (k : KeyMessage) (part : List Act) (o : Option Derivation) → IsTaken (m4_verdict_by d p k part o) → (x : Derivation) × (o ≡ Some x)
taken_m4 d p k part None (inl s) = absurd cc
taken_m4 d p k part None (inr s) = absurd cc
taken_m4 d p k part (Some x) s = (x, refl)

taken_g1 : (d : Domain) (kept : Option ℕ) (k : KeyMessage) (o : Option Derivation) → IsTaken (g1_verdict_by d kept k o) → (x : Derivation) × (o ≡ Some x)
taken_g1 d kept k None (inl s) = absurd cc
taken_g1 d kept k None (inr s) = absurd cc
taken_g1 d kept k (Some x) s = (x, refl)

taken_g2 : (d : Domain) (h : List Act) (p : Node) (k : KeyMessage) (o : Option Derivation) → IsTaken (g2_verdict_by d h p k o) → (x : Derivation) × (o ≡ Some x)
taken_g2 d h p k None (inl s) = absurd cc
taken_g2 d h p k None (inr s) = absurd cc
taken_g2 d h p k (Some x) s = (x, refl)

-- which management frame it is, and by what it is awaited
pub data FrameAwaited (d : Domain) (n : Node) (h : List Act) (p : Node) (e : ElementFields) (k : Kind) : Type 0 where
  Is_assoc_req : k ≡ kind.AssocReq → FrameAwaited d n h p e k
  Is_assoc_resp : k ≡ kind.AssocResp → FrameAwaited d n h p e k
  Is_ft_req : (a : ℕ) → n ≡ Ap a → k ≡ kind.FtReq → FtReqTaken d h p e → FrameAwaited d n h p e k
  Is_ft_resp : k ≡ kind.FtResp → FtRespTaken d n h p e → FrameAwaited d n h p e k
  Is_re_req : (a : ℕ) → n ≡ Ap a → k ≡ kind.ReReq → FrameAwaited d n h p e k
  Is_re_resp : (s : ℕ) → n ≡ Sta s → k ≡ kind.ReResp → (x : Derivation) × (re_resp_keying p h ≡ Some x) → FrameAwaited d n h p e k

pub frame_kind : (d : Domain) (drawn : ℕ) (n : Node) (h : List Act) (p : Node) (k : Kind) (b : Management) (e : ElementFields) → IsTaken (management_verdict d drawn n h p k b e) → FrameAwaited d n h p e k
frame_kind d drawn (Ap a) h p kind.AssocReq b e s = Is_assoc_req refl
frame_kind d drawn (Sta sta) h p kind.AssocResp b e s = Is_assoc_resp refl
frame_kind d drawn (Ap a) h p kind.FtReq b e s = Is_ft_req a refl refl (ft_req_taken d h p e s)
frame_kind d drawn (Sta sta) h p kind.FtResp b e s = Is_ft_resp refl (ft_resp_taken d (Sta sta) h p b e s)
frame_kind d drawn (Ap a) h p kind.ReReq b e s = Is_re_req a refl refl
frame_kind d drawn (Sta sta) h p kind.ReResp b e s = Is_re_resp sta refl refl (re_resp_awaited d (Sta sta) p b e (re_resp_keying p h) s)
frame_kind d drawn n h p _ b e s = never reason.Unawaited s

-- protected data is opened under a key
abbrev pub HasOpenKey : Node → List Act → Node → HeaderFields → Option ℕ → List ℕ → Type 0
HasOpenKey n h p header tid body = (k : OpenKey) × (opened_by n h p header tid body ≡ Some k)

taken_data : (pn : ℕ) (o : Option OpenKey) → IsTaken (data_verdict_by pn o) → (k : OpenKey) × (o ≡ Some k)
taken_data pn None (inl s) = absurd cc
taken_data pn None (inr s) = absurd cc
taken_data pn (Some k) s = (k, refl)

-- from the peer that its header names
pub record OpenFrom (d : Domain) (n : Node) (h : List Act) (header : HeaderFields) (tid : Option ℕ) (body : List ℕ) : Type 0 where
  pub p : Node
  pub from : peer_of d n header.a2 ≡ Some p
  pub taken : IsTaken (data_verdict n h p header tid body)
  pub k : OpenKey
  pub under : opened_by n h p header tid body ≡ Some k

pub open_from : (d : Domain) (first : ℕ) (n : Node) (h : List Act) (header : HeaderFields) (way : Direction) (tid : Option ℕ) (body : List ℕ) → IsTaken (first_verdict d first n h (Sealed header way tid body)) → OpenFrom d n h header tid body
open_from d first n h header way tid body s =
    let behind = taken_from (peer_of d n header.a2) (λ p. data_verdict n h p header tid body) (taken_behind (not (is_mine_or_group d n header) || goes_like way (direction n)) reason.NotForMe _ s) in
    let k = taken_data (packet_number body) (opened_by n h behind.0 header tid body) behind.1.1 in
    record { p = behind.0; from = behind.1.0; taken = behind.1.1; k = k.0; under = k.1 }

taken_action : (o : Option GroupKey) → IsTaken (action_verdict_by o) → (g : GroupKey) × (o ≡ Some g)
taken_action None s = never reason.NoKey s
taken_action (Some g) s = (g, refl)

-- the MIC of an Action frame is tried under an IGTK of the peer that its header names
pub record ActionFrom (d : Domain) (n : Node) (h : List Act) (header : HeaderFields) (body : List ℕ) : Type 0 where
  pub p : Node
  pub from : management_sender d n header ≡ Some p
  pub g : GroupKey
  pub under : integrity_key p h body ≡ Some g

pub action_from : (d : Domain) (first : ℕ) (n : Node) (h : List Act) (header : HeaderFields) (body : List ℕ) → IsTaken (first_verdict d first n h (Acting header body)) → ActionFrom d n h header body
action_from d first n h header body s =
    let behind = taken_from (management_sender d n header) (λ p. action_verdict h p body) (taken_behind (not (is_mine_or_group d n header)) reason.NotForMe _ s) in
    let g = taken_action (integrity_key behind.0 h body) behind.1.1 in
    record { p = behind.0; from = behind.1.0; g = g.0; under = g.1 }

in_m4 : (d : Domain) (p : Node) (h : List Act) (k : KeyMessage) → IsTaken (m4_verdict d h p k) → InKeyedAttempt p h
in_m4 d p h k s =
    let a = taken_attempt (attempt p h) _ s in
    let x = taken_m4 d p k a.0 (m4_keying p a.0) a.1.1 in
    record { part = a.0; awaited = a.1.0; x = x.0; keyed = x.1 }

m1_awaited : (p : Node) (h : List Act) (k : KeyMessage) (o : Option (List Act)) → attempt p h ≡ o → Awaited p h k M1
m1_awaited p h k None is = Is_opening_m1 refl is
m1_awaited p h k (Some part) is = Is_m1 refl (part, is)

pub key_kind : (d : Domain) (drawn : ℕ) (n : Node) (h : List Act) (p : Node) (k : KeyMessage) (m : Message) → IsTaken (key_verdict d drawn n h p k m) → Awaited p h k m
key_kind d drawn (Sta sta) h p k M1 s = m1_awaited p h k (attempt p h) refl
key_kind d drawn (Ap a) h p k M2 s = let x = taken_attempt (attempt p h) _ s in Is_m2 refl (x.0, x.1.0)
key_kind d drawn (Sta sta) h p k M3 s = Is_m3 refl (taken_m3 d (kept_counter p (chain p h)) k (m3_keying p h k) s)
key_kind d drawn (Ap a) h p k M4 s = Is_m4 refl (in_m4 d p h k s)
key_kind d drawn (Sta sta) h p k G1 s = Is_g1 refl (taken_g1 d (kept_counter p (chain p h)) k (session p h) s)
key_kind d drawn (Ap a) h p k G2 s = Is_g2 refl (taken_g2 d h p k (owing groups.Gtk p h) s)
key_kind d drawn n h p k _ s = never reason.Unawaited s

and_taken : (a b : Outcome) → IsTaken (and_then a b) → IsTaken a
and_taken Accepted b s = inl refl
and_taken Answered b s = inr refl
and_taken _ b s = s

unless_accepted : (a b : Outcome) → unless_refused a b ≡ Accepted → a ≡ Accepted
unless_accepted a (Refused why) s = cc
unless_accepted a _ s = s

pub and_accepted : (a b : Outcome) → and_then a b ≡ Accepted → a ≡ Accepted
and_accepted Accepted b s = refl
and_accepted Answered b s = unless_accepted Answered b s
and_accepted _ b s = s

pub unless_answered : (a b : Outcome) → unless_refused a b ≡ Answered → a ≡ Answered
unless_answered a (Refused why) s = cc
unless_answered a _ s = s

pub and_answered : (a b : Outcome) → and_then a b ≡ Answered → a ≡ Answered
and_answered Accepted b s = unless_answered Accepted b s
and_answered Answered b s = refl
and_answered _ b s = s

-- ---- what was answered is a repeated M3

pub answered_from : (o : Option Node) (p : Node) (f : Node → Outcome) → o ≡ Some p → from_peer o f ≡ Answered → f p ≡ Answered
answered_from None p f is s = cc
answered_from (Some q) p f is s = subst (λ (x : Node). f x ≡ Answered) (cc is) s

unanswered_if : (c : Bool) (why : Reason) → (if c then Accepted else Refused why) ≡ Answered → ⊥
unanswered_if true why s = cc
unanswered_if false why s = cc

unanswered_above : (o : Option ℕ) (counter : ℕ) → above o counter Accepted ≡ Answered → ⊥
unanswered_above None counter s = cc
unanswered_above (Some kept) counter s = unanswered_if (nat_lt kept counter) (reason.Counter kept) s

unanswered_in : (o : Option (List Act)) (f : List Act → Outcome) → ((part : List Act) → f part ≡ Answered → ⊥) → in_attempt o f ≡ Answered → ⊥
unanswered_in None f all s = cc
unanswered_in (Some part) f all s = all part s

unanswered_among : (b : Bool) (c : Bool) (why : Reason) (other : Reason) → (if b then (if c then Accepted else Refused why) else Refused other) ≡ Answered → ⊥
unanswered_among true c why other s = unanswered_if c why s
unanswered_among false c why other s = cc

unanswered_above_by : (o : Option ℕ) (counter : ℕ) (a : Outcome) → (a ≡ Answered → ⊥) → above o counter a ≡ Answered → ⊥
unanswered_above_by None counter a none s = none s
unanswered_above_by (Some kept) counter a none s = none (answered_passed (nat_lt kept counter) (reason.Counter kept) a s)

unanswered_m1 : (d : Domain) (drawn : ℕ) (h : List Act) (p : Node) (k : KeyMessage) (o : Option (List Act)) → m1_verdict_in d drawn h p k o ≡ Answered → ⊥
unanswered_m1 d drawn h p k None s =
    unanswered_above_by (kept_counter p (chain p h)) k.fields.counter _ (unanswered_if (nat_lt drawn draw_end) reason.Spent) (answered_passed (opens_renewal d h p) reason.Unawaited _ s)
unanswered_m1 d drawn h p k (Some part) s =
    unanswered_above (kept_counter p (chain p h)) k.fields.counter (answered_passed (awaits_m1 (start_of part) (has_heard p kind.AssocResp part)) reason.Unawaited _ s)

unanswered_m4 : (d : Domain) (p : Node) (k : KeyMessage) (part : List Act) (o : Option Derivation) → m4_verdict_by d p k part o ≡ Answered → ⊥
unanswered_m4 d p k part None s = cc
unanswered_m4 d p k part (Some x) s = unanswered_among (list_any (λ c. c == k.fields.counter) (offered p M3 part)) (bytes_eq k.fields.mic (mic d.akm x.ptk.kck k.octets)) reason.Mic _ s

unanswered_g1 : (d : Domain) (kept : Option ℕ) (k : KeyMessage) (o : Option Derivation) → g1_verdict_by d kept k o ≡ Answered → ⊥
unanswered_g1 d kept k None s = cc
unanswered_g1 d None k (Some x) s = unanswered_if (bytes_eq k.fields.mic (mic d.akm x.ptk.kck k.octets)) reason.Mic s
unanswered_g1 d (Some y) k (Some x) s = unanswered_among (nat_lt y k.fields.counter) (bytes_eq k.fields.mic (mic d.akm x.ptk.kck k.octets)) reason.Mic _ s

unanswered_g2 : (d : Domain) (h : List Act) (p : Node) (k : KeyMessage) (o : Option Derivation) → g2_verdict_by d h p k o ≡ Answered → ⊥
unanswered_g2 d h p k None s = cc
unanswered_g2 d h p k (Some x) s =
    unanswered_among (list_any (λ c. c == k.fields.counter) (offered p G1 (handshake groups.Gtk p h))) (bytes_eq k.fields.mic (mic d.akm x.ptk.kck k.octets)) reason.Mic _ s

pub answered_kind : (d : Domain) (drawn : ℕ) (n : Node) (h : List Act) (p : Node) (k : KeyMessage) (m : Message) → key_verdict d drawn n h p k m ≡ Answered → (m ≡ M3) × HasKeying p h k
answered_kind d drawn (Sta sta) h p k M1 s = absurd (unanswered_m1 d drawn h p k (attempt p h) s)
answered_kind d drawn (Ap a) h p k M2 s =
    absurd (unanswered_in (attempt p h) _ (λ part t. unanswered_among (list_any (λ c. c == k.fields.counter) (offered p M1 part)) (bytes_eq k.fields.mic _) reason.Mic _ (answered_passed (is_secured_rightly d part k) reason.Unawaited _ (answered_behind (not (is_four_way part) || has_heard p (kind.Key M2) part) reason.Unawaited _ t))) s)
answered_kind d drawn (Sta sta) h p k M3 s = (refl, taken_m3 d (kept_counter p (chain p h)) k (m3_keying p h k) (inr s))
answered_kind d drawn (Ap a) h p k M4 s = absurd (unanswered_in (attempt p h) _ (λ part t. unanswered_m4 d p k part (m4_keying p part) t) s)
answered_kind d drawn (Sta sta) h p k G1 s = absurd (unanswered_g1 d (kept_counter p (chain p h)) k (session p h) s)
answered_kind d drawn (Ap a) h p k G2 s = absurd (unanswered_g2 d h p k (owing groups.Gtk p h) s)
answered_kind d drawn n h p k _ s = cc

unanswered_data : (pn : ℕ) (o : Option OpenKey) → data_verdict_by pn o ≡ Answered → ⊥
unanswered_data pn None s = cc
unanswered_data pn (Some k) s = unanswered_if (nat_lt k.kept pn) (reason.Replayed k.kept) s

unanswered_peer : (o : Option Node) (f : Node → Outcome) → ((p : Node) → f p ≡ Answered → ⊥) → from_peer o f ≡ Answered → ⊥
unanswered_peer None f all s = cc
unanswered_peer (Some p) f all s = all p s

unanswered_action : (o : Option GroupKey) → action_verdict_by o ≡ Answered → ⊥
unanswered_action None s = cc
unanswered_action (Some g) s = cc

-- of management frames requests alone are answered
response_unanswered : (akm : Akm) (d : Domain) (p : Node) (e : ElementFields) → response_fields akm d p e ≡ Answered → ⊥
response_unanswered FtPsk d p e s = unanswered_if (names_r1kh (address d p) e.fte) (reason.Status fte_status) (answered_status (mde_status d e.mde) _ s)
response_unanswered Psk d p e s = cc
response_unanswered PskSha256 d p e s = cc

pub answered_frame : (d : Domain) (drawn : ℕ) (n : Node) (h : List Act) (p : Node) (k : Kind) (b : Management) (e : ElementFields) → management_verdict d drawn n h p k b e ≡ Answered → (k ≡ kind.FtReq) ⊎ (k ≡ kind.ReReq)
answered_frame d drawn (Ap a) h p kind.AssocReq b e s =
    absurd (unanswered_if (nat_lt drawn draw_end) reason.Spent (answered_status (mobility_status d.akm d e.mde) _ (answered_status (rsne_status d e.rsne) _ s)))
answered_frame d drawn (Sta sta) h p kind.AssocResp b e s =
    absurd (unanswered_in (attempt p h) _ (λ part t. response_unanswered d.akm d p e (answered_passed (b.status == 0) (reason.Status b.status) _ (answered_behind (not (by_connect part) || has_heard p kind.AssocResp part) reason.Unawaited _ t))) s)
answered_frame d drawn (Ap a) h p kind.FtReq b e s = inl refl
answered_frame d drawn (Sta sta) h p kind.FtResp b e s = absurd (ft_resp_unanswered d (Sta sta) h p b e s)
answered_frame d drawn (Ap a) h p kind.ReReq b e s = inr refl
answered_frame d drawn (Sta sta) h p kind.ReResp b e s = absurd (re_resp_unanswered d (Sta sta) h p b e s)
answered_frame d drawn n h p _ b e s = cc

pub sealed_unanswered : (d : Domain) (first : ℕ) (n : Node) (h : List Act) (header : HeaderFields) (way : Direction) (tid : Option ℕ) (body : List ℕ) → first_verdict d first n h (Sealed header way tid body) ≡ Answered → ⊥
sealed_unanswered d first n h header way tid body s =
    unanswered_peer (peer_of d n header.a2) _ (λ p t. unanswered_data (packet_number body) (opened_by n h p header tid body) t) (answered_behind (not (is_mine_or_group d n header) || goes_like way (direction n)) reason.NotForMe _ s)

pub action_unanswered : (d : Domain) (first : ℕ) (n : Node) (h : List Act) (header : HeaderFields) (body : List ℕ) → first_verdict d first n h (Acting header body) ≡ Answered → ⊥
action_unanswered d first n h header body s =
    unanswered_peer (management_sender d n header) _ (λ p t. unanswered_action (integrity_key p h body) t) (answered_behind (not (is_mine_or_group d n header)) reason.NotForMe _ s)

-- ---- one outcome

far_taken : (o : Outcome) → ComesSoFar o → IsTaken o
far_taken Accepted far = inl refl
far_taken Answered far = inr refl
far_taken _ far = absurd far

-- a body has one payload under a key
one_payload : (tk : List ℕ) (id : ℕ) (header body : List ℕ) (x y : Option (List ℕ)) → IsOpened tk id header body x → IsOpened tk id header body y → x ≡ y
one_payload tk id header body (Some a) (Some b) s t = ap Some (Sealed-unique tk (ccm_nonce header (packet_number body)) (ccm_aad header) a b (drop 8 body) s.1.sealed t.1.sealed)
one_payload tk id header body (Some a) None s t = absurd (t a s.0 s.1)
one_payload tk id header body None (Some b) s t = absurd (s b t.0 t.1)
one_payload tk id header body None None s t = refl

same_message_further : (d : Domain) (n : Node) (h : List Act) (p : Node) (m : Message) (k : KeyMessage) (f g : Facts) → Awaited p h k m → KnowsOf d.akm h p m k f → KnowsOf d.akm h p m k g
    → KnowsResponse d.akm h p m f → KnowsResponse d.akm h p m g → key_further d n h p k m f ≡ key_further d n h p k m g
same_message_further d n h p M2 k f g awaited s t v w = same_m2 d.akm d n h p k f g s t
same_message_further d n h p M3 k f g (Is_m3 e y) s t v w =
    ap (λ (o : Option Keying). m3_further d.akm d o f) y.1 ∙ same_m3 d.akm d h p y.0 k f g (s y.0 y.1) (t y.0 y.1) v w ∙ sym (ap (λ (o : Option Keying). m3_further d.akm d o g) y.1)
same_message_further d n h p M3 k f g (Is_m1 e y) s t v w = cc
same_message_further d n h p M3 k f g (Is_opening_m1 e y) s t v w = cc
same_message_further d n h p M3 k f g (Is_m2 e y) s t v w = cc
same_message_further d n h p M3 k f g (Is_m4 e y) s t v w = cc
same_message_further d n h p M3 k f g (Is_g1 e y) s t v w = cc
same_message_further d n h p M3 k f g (Is_g2 e y) s t v w = cc
same_message_further d n h p G1 k f g (Is_g1 e y) s t v w = same_g1 d y.0.ptk.kek k f g (s y.0 y.1) (t y.0 y.1)
same_message_further d n h p G1 k f g (Is_m1 e y) s t v w = cc
same_message_further d n h p G1 k f g (Is_opening_m1 e y) s t v w = cc
same_message_further d n h p G1 k f g (Is_m2 e y) s t v w = cc
same_message_further d n h p G1 k f g (Is_m3 e y) s t v w = cc
same_message_further d n h p G1 k f g (Is_m4 e y) s t v w = cc
same_message_further d n h p G1 k f g (Is_g2 e y) s t v w = cc
same_message_further d n h p _ k f g awaited s t v w = refl

same_wrapped_key : (p : Node) (h : List Act) (x : Derivation) (w u v : Option (List ℕ)) (rest : Outcome) → re_resp_keying p h ≡ Some x → KnowsGtk (re_resp_keying p h) w u → KnowsGtk (re_resp_keying p h) w v → unwraps w u rest ≡ unwraps w v rest
same_wrapped_key p h x w u v rest is s t =
    same_gtk x w u v rest (subst (λ (o : Option Derivation). KnowsGtk o w u) is s) (subst (λ (o : Option Derivation). KnowsGtk o w v) is t)

same_managed_further : (d : Domain) (drawn : ℕ) (n : Node) (h : List Act) (p : Node) (b : Management) (e : ElementFields) (f g : Facts) (k : Kind) → f.pulled ≡ g.pulled → FrameAwaited d n h p e k
    → KnowsManaged d n h p e f k → KnowsManaged d n h p e g k → management_further d drawn n h p b e f k ≡ management_further d drawn n h p b e g k
same_managed_further d drawn (Ap a) h p b e f g kind.FtReq pulled awaited s t = ap (ft_req_further drawn h p e) pulled
same_managed_further d drawn (Sta sta) h p b e f g kind.ReResp pulled (Is_re_resp z at is x) s t =
    let rest : Outcome = if b.status == 0 then re_resp_names d (Sta sta) p e (re_resp_keying p h) else Refused (reason.Status b.status) in
    same_wrapped_key p h x.0 (to_unwrap e.fte) f.unwrapped g.unwrapped (unwraps (igtk_to_unwrap (protects d) e.fte) f.unwrapped_igtk rest) x.1 s.0 t.0
    ∙ ap (unwraps (to_unwrap e.fte) g.unwrapped) (same_wrapped_key p h x.0 (igtk_to_unwrap (protects d) e.fte) f.unwrapped_igtk g.unwrapped_igtk rest x.1 s.1 t.1)
same_managed_further d drawn (Sta sta) h p b e f g kind.ReResp pulled (Is_assoc_req is) s t = cc
same_managed_further d drawn (Sta sta) h p b e f g kind.ReResp pulled (Is_assoc_resp is) s t = cc
same_managed_further d drawn (Sta sta) h p b e f g kind.ReResp pulled (Is_ft_req z at is x) s t = cc
same_managed_further d drawn (Sta sta) h p b e f g kind.ReResp pulled (Is_ft_resp is x) s t = cc
same_managed_further d drawn (Sta sta) h p b e f g kind.ReResp pulled (Is_re_req z at is) s t = cc
same_managed_further d drawn n h p b e f g _ pulled awaited s t = refl

-- where the frame has a sender
pub from_named : (o : Option Node) (p : Node) (f : Node → Outcome) → o ≡ Some p → further_from o f ≡ f p
from_named o p f is = ap (λ (x : Option Node). further_from x f) is

same_further : (d : Domain) (first : ℕ) (n : Node) (h : List Act) (r : Reading) (f g : Facts) → f.pulled ≡ g.pulled → ComesSoFar (first_verdict d first n h r) → KnowsFrom d n h r f → KnowsFrom d n h r g
    → further d first n h r f ≡ further d first n h r g
same_further d first n h (Keyed k) f g pulled a s t =
    let behind = taken_from (peer_of d n k.header.a2) (λ p. key_verdict d (first + draws h) n h p k k.message) (taken_behind (not (is_mine d n k.header) || goes_like k.direction (direction n)) reason.NotForMe _ (far_taken _ a)) in
    let one = s behind.0 behind.1.0 in
    let two = t behind.0 behind.1.0 in
    from_named (peer_of d n k.header.a2) behind.0 _ behind.1.0
    ∙ same_message_further d n h behind.0 k.message k f g (key_kind d (first + draws h) n h behind.0 k k.message behind.1.1) one.0 two.0 one.1 two.1
    ∙ sym (from_named (peer_of d n k.header.a2) behind.0 _ behind.1.0)
same_further d first n h (Managed b e) f g pulled a s t =
    let behind = taken_from (management_sender d n b.header) (λ p. management_verdict d (first + draws h) n h p b.kind b e) (taken_behind (not (is_mine d n b.header)) reason.NotForMe _ (far_taken _ a)) in
    from_named (management_sender d n b.header) behind.0 _ behind.1.0
    ∙ same_managed_further d (first + draws h) n h behind.0 b e f g b.kind pulled (frame_kind d (first + draws h) n h behind.0 b.kind b e behind.1.1) (s behind.0 behind.1.0) (t behind.0 behind.1.0)
    ∙ sym (from_named (management_sender d n b.header) behind.0 _ behind.1.0)
same_further d first n h (Sealed header way tid body) f g pulled a s t =
    let o = open_from d first n h header way tid body (far_taken _ a) in
    ap unsealed (one_payload o.k.key o.k.id header.octets body f.opened g.opened (s o.p o.from o.k o.under) (t o.p o.from o.k o.under))
same_further d first n h (Acting header body) f g pulled a s t =
    let o = action_from d first n h header body (far_taken _ a) in
    from_named (management_sender d n header) o.p _ o.from
    ∙ ap (action_further h o.p header body) (one_ipn_got o.p o.g.key o.g.id h f.kept g.kept (s o.p o.from o.g o.under) (t o.p o.from o.g o.under))
    ∙ sym (from_named (management_sender d n header) o.p _ o.from)
same_further d first n h _ f g pulled a s t = refl

same_then : (o x y : Outcome) → (ComesSoFar o → x ≡ y) → and_then o x ≡ and_then o y
same_then Accepted x y same = ap (unless_refused Accepted) (same tt)
same_then Answered x y same = ap (unless_refused Answered) (same tt)
same_then _ x y same = refl

pub same_verdict : (d : Domain) (first : ℕ) (n : Node) (h : List Act) (r : Reading) (f g : Facts) → f.pulled ≡ g.pulled → Knows d first n h r f → Knows d first n h r g → verdict d first n h r f ≡ verdict d first n h r g
same_verdict d first n h r f g pulled s t = same_then (first_verdict d first n h r) (further d first n h r f) (further d first n h r g) (λ a. same_further d first n h r f g pulled a (s a) (t a))

pub one_verdict : (d : Domain) (first : ℕ) (n : Node) (h : List Act) (octets : List ℕ) (r s : Reading) (f g : Facts) → f.pulled ≡ g.pulled → ReadsAt d octets r → ReadsAt d octets s → Knows d first n h r f → Knows d first n h s g
    → verdict d first n h r f ≡ verdict d first n h s g
one_verdict d first n h octets r s f g pulled x y k l =
    let same : r ≡ s = one_reading_at d octets r s x y in
    same_verdict d first n h r f g pulled k (subst (λ (v : Reading). Knows d first n h v g) (sym same) l) ∙ ap (λ (v : Reading). verdict d first n h v g) same

-- ---- the key data of an M3 that was accepted

-- accepted, or refused
abbrev IsJudged : Outcome → Type 0
IsJudged o = (o ≡ Accepted) ⊎ ((w : Reason) × (o ≡ Refused w))

judged_if : (c : Bool) (why : Reason) (a : Outcome) → IsJudged a → IsJudged (if c then a else Refused why)
judged_if true why a s = s
judged_if false why a s = inr (why, refl)

judged_igtk : (b : Bool) (k : Option IgtkKdeFields) → IsJudged (igtk_data b k)
judged_igtk false k = inl refl
judged_igtk true k = judged_if (is_integrity_key k) (reason.KeyData key_data.Igtk) Accepted (inl refl)

judged_keys : (d : Domain) (e : ElementFields) → IsJudged (group_keys_data d e)
judged_keys d e = judged_if (is_group_key e.gtk) (reason.KeyData key_data.Gtk) (igtk_data (protects d) e.igtk) (judged_igtk (protects d) e.igtk)

pub unless_passed : (why : Reason) (b : Outcome) → unless_refused Accepted b ≡ Accepted → b ≡ Refused why → ⊥
unless_passed why b s t = let e : unless_refused Accepted (Refused why) ≡ Accepted = subst (λ (x : Outcome). unless_refused Accepted x ≡ Accepted) t s in cc

-- an M3 whose key data has no plain text is refused
m3_unopened : (akm : Akm) (d : Domain) (y : Option Keying) (f : Facts) → f.unwrapped ≡ None → m3_further akm d y f ≡ Refused reason.Wrap
m3_unopened FtPsk d (Some y) f e = ap (λ (o : Option (List ℕ)). ft_m3_wrapped d (r1_name y.key.inputs) f.responded o f.data_) e
m3_unopened FtPsk d None f e = ap (λ (o : Option (List ℕ)). m3_wrapped FtPsk d o f.data_) e
m3_unopened Psk d y f e = ap (λ (o : Option (List ℕ)). m3_wrapped Psk d o f.data_) e
m3_unopened PskSha256 d y f e = ap (λ (o : Option (List ℕ)). m3_wrapped PskSha256 d o f.data_) e

pub some_or_none : {A : Type 0} (o : Option A) → (o ≡ None) ⊎ ((x : A) × (o ≡ Some x))
some_or_none None = inl refl
some_or_none (Some x) = inr (x, refl)

opened_m3 : (akm : Akm) (d : Domain) (y : Option Keying) (f : Facts) → unless_refused Accepted (m3_further akm d y f) ≡ Accepted → (plain : List ℕ) × (f.unwrapped ≡ Some plain)
opened_m3 akm d y f s = elim (some_or_none f.unwrapped) [
  | inl e ↦ absurd (unless_passed reason.Wrap (m3_further akm d y f) s (m3_unopened akm d y f e))
  | inr x ↦ x
]

keyed_m3 : (p : Node) (h : List Act) (k : KeyMessage) (m : Message) → m ≡ M3 → Awaited p h k m → HasKeying p h k
keyed_m3 p h k m e (Is_m1 f y) = cc
keyed_m3 p h k m e (Is_opening_m1 f y) = cc
keyed_m3 p h k m e (Is_m2 f y) = cc
keyed_m3 p h k m e (Is_m3 f y) = y
keyed_m3 p h k m e (Is_m4 f y) = cc
keyed_m3 p h k m e (Is_g1 f y) = cc
keyed_m3 p h k m e (Is_g2 f y) = cc

knows_m3 : (d : Domain) (h : List Act) (p : Node) (m : Message) (k : KeyMessage) (f : Facts) → m ≡ M3 → KnowsOf d.akm h p m k f → (y : Keying) → m3_keying p h k ≡ Some y → KnowsM3 y.key.ptk.kek k f
knows_m3 d h p m k f e knows y is = let all : KnowsOf d.akm h p M3 k f = subst (λ (x : Message). KnowsOf d.akm h p x k f) e knows in all y is

-- a message that was accepted, of whom it is, and what reading further told of it
pub record KeyAccepted (d : Domain) (first : ℕ) (n : Node) (h : List Act) (k : KeyMessage) (facts : Facts) : Type 0 where
  pub p : Node
  pub from : peer_of d n k.header.a2 ≡ Some p
  pub awaited : Awaited p h k k.message
  pub far : ComesSoFar (first_verdict d first n h (Keyed k))
  pub opened : unless_refused Accepted (key_further d n h p k k.message facts) ≡ Accepted

pub key_accepted : (d : Domain) (first : ℕ) (n : Node) (h : List Act) (k : KeyMessage) (facts : Facts) → verdict d first n h (Keyed k) facts ≡ Accepted → KeyAccepted d first n h k facts
key_accepted d first n h k facts accepted =
    let a : first_verdict d first n h (Keyed k) ≡ Accepted = and_accepted _ _ accepted in
    let behind = taken_from (peer_of d n k.header.a2) (λ p. key_verdict d (first + draws h) n h p k k.message) (taken_behind (not (is_mine d n k.header) || goes_like k.direction (direction n)) reason.NotForMe _ (inl a)) in
    let opened : unless_refused Accepted (further d first n h (Keyed k) facts) ≡ Accepted = subst (λ (x : Outcome). and_then x (further d first n h (Keyed k) facts) ≡ Accepted) a accepted in
    record {
      p = behind.0;
      from = behind.1.0;
      awaited = key_kind d (first + draws h) n h behind.0 k k.message behind.1.1;
      far = subst ComesSoFar (sym a) tt;
      opened = subst (λ (o : Outcome). unless_refused Accepted o ≡ Accepted) (from_named (peer_of d n k.header.a2) behind.0 (λ p. key_further d n h p k k.message facts) behind.1.0) opened;
    }

pub same_carried : (d : Domain) (first : ℕ) (n : Node) (h : List Act) (k : KeyMessage) (f g : Facts) → k.message ≡ M3 → Knows d first n h (Keyed k) f → Knows d first n h (Keyed k) g → verdict d first n h (Keyed k) f ≡ Accepted → f.data_ ≡ g.data_
same_carried d first n h k f g m s t accepted =
    let x = key_accepted d first n h k f accepted in
    let y = keyed_m3 x.p h k k.message m x.awaited in
    let open3 = opened_m3 d.akm d (m3_keying x.p h k) f (subst (λ (v : Message). unless_refused Accepted (key_further d n h x.p k v f) ≡ Accepted) m x.opened) in
    same_opened y.0.key.ptk.kek k f g open3.0 (knows_m3 d h x.p k.message k f m (s x.far x.p x.from).0 y.0 y.1) (knows_m3 d h x.p k.message k g m (t x.far x.p x.from).0 y.0 y.1) open3.1

-- the association response by which an M1 is taken with suite 4
pub same_responded : (d : Domain) (first : ℕ) (n : Node) (h : List Act) (k : KeyMessage) (f g : Facts) → k.message ≡ M1 → d.akm ≡ FtPsk → Knows d first n h (Keyed k) f → Knows d first n h (Keyed k) g → verdict d first n h (Keyed k) f ≡ Accepted → f.responded ≡ g.responded
same_responded d first n h k f g m suite s t accepted =
    let x = key_accepted d first n h k f accepted in
    let one : KnowsResponse FtPsk h x.p M1 f = subst (λ (v : Akm). KnowsResponse v h x.p M1 f) suite (subst (λ (v : Message). KnowsResponse d.akm h x.p v f) m (s x.far x.p x.from).1) in
    let two : KnowsResponse FtPsk h x.p M1 g = subst (λ (v : Akm). KnowsResponse v h x.p M1 g) suite (subst (λ (v : Message). KnowsResponse d.akm h x.p v g) m (t x.far x.p x.from).1) in
    same_requested FtPsk (response x.p h) f.responded g.responded one two

-- ---- a management frame that was accepted

pub record FrameAccepted (d : Domain) (first : ℕ) (n : Node) (h : List Act) (b : Management) (e : ElementFields) (facts : Facts) : Type 0 where
  pub p : Node
  pub from : management_sender d n b.header ≡ Some p
  pub far : ComesSoFar (first_verdict d first n h (Managed b e))
  pub verdict_is : management_verdict d (first + draws h) n h p b.kind b e ≡ Accepted
  pub opened : unless_refused Accepted (management_further d (first + draws h) n h p b e facts b.kind) ≡ Accepted

pub frame_accepted : (d : Domain) (first : ℕ) (n : Node) (h : List Act) (b : Management) (e : ElementFields) (facts : Facts) → verdict d first n h (Managed b e) facts ≡ Accepted → FrameAccepted d first n h b e facts
frame_accepted d first n h b e facts accepted =
    let a : first_verdict d first n h (Managed b e) ≡ Accepted = and_accepted _ _ accepted in
    let behind = from_some (management_sender d n b.header) (λ p. management_verdict d (first + draws h) n h p b.kind b e) (not_thrown (not (is_mine d n b.header)) reason.NotForMe _ a) in
    let opened : unless_refused Accepted (further d first n h (Managed b e) facts) ≡ Accepted = subst (λ (x : Outcome). and_then x (further d first n h (Managed b e) facts) ≡ Accepted) a accepted in
    record {
      p = behind.0;
      from = behind.1.0;
      far = subst ComesSoFar (sym a) tt;
      verdict_is = behind.1.1;
      opened = subst (λ (o : Outcome). unless_refused Accepted o ≡ Accepted) (from_named (management_sender d n b.header) behind.0 (λ p. management_further d (first + draws h) n h p b e facts b.kind) behind.1.0) opened;
    }

-- behind a decided outcome that refuses nothing
pub opened_decided : (o : Outcome) → Decided o → unless_refused Accepted o ≡ Accepted → (o ≡ Accepted) ⊎ ((o ≡ Answered) ⊎ (o ≡ Ignored))
opened_decided o (Took_in s) t = inl s
opened_decided o (Repeated s) t = inr (inl s)
opened_decided o (Passed s) t = inr (inr s)
opened_decided o (Thrown why s) t = absurd (unless_passed why o t s)

wrapped_some : (w u : Option (List ℕ)) (rest : Outcome) → unless_refused Accepted (unwraps w u rest) ≡ Accepted → (w ≡ None) ⊎ ((octets : List ℕ) × ((w ≡ Some octets) × ((plain : List ℕ) × (u ≡ Some plain))))
wrapped_some None u rest s = inl refl
wrapped_some (Some octets) None rest s = cc
wrapped_some (Some octets) (Some plain) rest s = inr (octets, (refl, (plain, refl)))

sized_some : (g : Option WrappedGtkFields) → is_wrapped_gtk g ≡ true → option_and_then (λ (x : WrappedGtkFields). if length x.wrapped == 24 then Some x.wrapped else None) g ≡ None → ⊥
sized_some None s t = cc
sized_some (Some x) s t = by (x.key_length == 16) (length x.wrapped == 24) (not (gtk_id x == 0)) s t
  where
    by : (a b c : Bool) → (a && b && c) ≡ true → (if b then Some x.wrapped else None) ≡ None → ⊥
    by true true c s t = cc
    by true false c s t = cc
    by false b c s t = cc

-- so is a wrapped IGTK, where management frames are protected
sized_igtk : (g : Option WrappedIgtkFields) → is_wrapped_igtk g ≡ true → option_and_then (λ (x : WrappedIgtkFields). if length x.wrapped == 24 then Some x.wrapped else None) g ≡ None → ⊥
sized_igtk None s t = cc
sized_igtk (Some x) s t = by (x.key_length == 16) (length x.wrapped == 24) ((x.id == 4) || (x.id == 5)) s t
  where
    by : (a b c : Bool) → (a && b && c) ≡ true → (if b then Some x.wrapped else None) ≡ None → ⊥
    by true true c s t = cc
    by true false c s t = cc
    by false b c s t = cc

igtk_sized : (f : Option FteFields) (b : Bool) → has_igtk b f ≡ true → b ≡ true → igtk_to_unwrap b f ≡ None → ⊥
igtk_sized f true has on none = sized_igtk (igtk_in f) has none
igtk_sized f false has on none = cc

-- behind the tests of its elements a response carries wrapped keys
resp_carries : (d : Domain) (n p : Node) (e : ElementFields) (o : Option Derivation) → IsTaken (re_resp_names d n p e o) → (is_wrapped_gtk (gtk_in e.fte) ≡ true) × (has_igtk (protects d) e.fte ≡ true)
resp_carries d n p e None s = never reason.Unawaited s
resp_carries d n p e (Some x) s =
    let one = taken_status (rsne_status d e.rsne) _ s in
    let two = taken_status (mde_status d e.mde) _ one.1 in
    let three = (taken_passed (counts_three e.fte && names_both (address d p) x.inputs.r0kh_id e.fte && is_wrapped_gtk (gtk_in e.fte) && has_igtk (protects d) e.fte) (reason.Status fte_status) _ two.1).0 in
    let both = and_parts (counts_three e.fte && names_both (address d p) x.inputs.r0kh_id e.fte && is_wrapped_gtk (gtk_in e.fte)) _ three in
    ((and_parts (counts_three e.fte && names_both (address d p) x.inputs.r0kh_id e.fte) _ both.0).1, both.1)

unless_taken : (o : Outcome) → Decided o → unless_refused Accepted o ≡ Accepted → (o ≡ Ignored → ⊥) → IsTaken o
unless_taken o (Took_in is) s other = inl is
unless_taken o (Repeated is) s other = inr is
unless_taken o (Passed is) s other = absurd (other is)
unless_taken o (Thrown why is) s other = absurd (unless_passed why o s is)

zero_passed : (c : Bool) (why : Reason) (a : Outcome) → IsTaken (if c then a else Refused why) → IsTaken a
zero_passed c why a s = (taken_passed c why a s).1

pub unwraps_taken : (w u : Option (List ℕ)) (rest : Outcome) → IsTaken (unwraps w u rest) → IsTaken rest
unwraps_taken None u rest s = s
unwraps_taken (Some octets) None rest s = never reason.Wrap s
unwraps_taken (Some octets) (Some plain) rest s = s

names_ignored : (c : Bool) (why : Reason) → (if c then Accepted else Refused why) ≡ Ignored → ⊥
names_ignored true why s = cc
names_ignored false why s = cc

status_ignored : (o : Option ℕ) (a : Outcome) → (a ≡ Ignored → ⊥) → without_status o a ≡ Ignored → ⊥
status_ignored None a other s = other s
status_ignored (Some code) a other s = cc

if_ignored : (c : Bool) (a b : Outcome) → (a ≡ Ignored → ⊥) → (b ≡ Ignored → ⊥) → (if c then a else b) ≡ Ignored → ⊥
if_ignored true a b x y s = x s
if_ignored false a b x y s = y s

resp_ignored : (d : Domain) (n p : Node) (e : ElementFields) (o : Option Derivation) → re_resp_names d n p e o ≡ Ignored → ⊥
resp_ignored d n p e None s = cc
resp_ignored d n p e (Some x) s =
    status_ignored (rsne_status d e.rsne) _ (status_ignored (mde_status d e.mde) _
    (if_ignored (counts_three e.fte && names_both (address d p) x.inputs.r0kh_id e.fte && is_wrapped_gtk (gtk_in e.fte) && has_igtk (protects d) e.fte) _ _ (names_ignored (is_named (r1_name x.inputs) e) reason.Name) (λ w. cc w))) s

unwraps_ignored : (w u : Option (List ℕ)) (rest : Outcome) → (rest ≡ Ignored → ⊥) → unwraps w u rest ≡ Ignored → ⊥
unwraps_ignored None u rest other s = other s
unwraps_ignored (Some octets) None rest other s = cc
unwraps_ignored (Some octets) (Some plain) rest other s = other s

-- what is known of a reassociation response that was accepted
pub record RespAccepted (d : Domain) (first : ℕ) (n : Node) (h : List Act) (b : Management) (e : ElementFields) (facts : Facts) : Type 0 where
  pub s : ℕ
  pub at : n ≡ Sta s
  pub p : Node
  pub from : management_sender d n b.header ≡ Some p
  pub far : ComesSoFar (first_verdict d first n h (Managed b e))
  pub x : Derivation
  pub keyed : re_resp_keying p h ≡ Some x
  pub opened : IsTaken (re_resp_further d n h p b e facts.unwrapped facts.unwrapped_igtk)

resp_opened : (d : Domain) (drawn : ℕ) (n : Node) (h : List Act) (p : Node) (b : Management) (e : ElementFields) (facts : Facts) (k : Kind) → k ≡ kind.ReResp → FrameAwaited d n h p e k → unless_refused Accepted (management_further d drawn n h p b e facts k) ≡ Accepted
    → (s : ℕ) × ((n ≡ Sta s) × (((x : Derivation) × (re_resp_keying p h ≡ Some x)) × IsTaken (re_resp_further d n h p b e facts.unwrapped facts.unwrapped_igtk)))
resp_opened d drawn n h p b e facts k is (Is_assoc_req w) s = cc
resp_opened d drawn n h p b e facts k is (Is_assoc_resp w) s = cc
resp_opened d drawn n h p b e facts k is (Is_ft_req a at w t) s = cc
resp_opened d drawn n h p b e facts k is (Is_ft_resp w t) s = cc
resp_opened d drawn n h p b e facts k is (Is_re_req a at w) s = cc
resp_opened d drawn n h p b e facts k is (Is_re_resp sta at w x) s =
    let one : unless_refused Accepted (management_further d drawn (Sta sta) h p b e facts kind.ReResp) ≡ Accepted =
    subst (λ (m : Node). unless_refused Accepted (management_further d drawn m h p b e facts kind.ReResp) ≡ Accepted) at (subst (λ (v : Kind). unless_refused Accepted (management_further d drawn n h p b e facts v) ≡ Accepted) w s) in
    let two : unless_refused Accepted (re_resp_further d n h p b e facts.unwrapped facts.unwrapped_igtk) ≡ Accepted = subst (λ (m : Node). unless_refused Accepted (re_resp_further d m h p b e facts.unwrapped facts.unwrapped_igtk) ≡ Accepted) (sym at) one in (
      sta,
      (
        at,
        (
          x,
          unless_taken _ (decided_re_resp_further d n h p b e facts.unwrapped facts.unwrapped_igtk) two
              (unwraps_ignored (to_unwrap e.fte) facts.unwrapped _ (unwraps_ignored (igtk_to_unwrap (protects d) e.fte) facts.unwrapped_igtk _
              (if_ignored (b.status == 0) _ _ (resp_ignored d n p e (re_resp_keying p h)) (λ w. cc w)))),
        ),
      ),
    )

pub resp_accepted : (d : Domain) (first : ℕ) (n : Node) (h : List Act) (b : Management) (e : ElementFields) (facts : Facts) → b.kind ≡ kind.ReResp → verdict d first n h (Managed b e) facts ≡ Accepted → RespAccepted d first n h b e facts
resp_accepted d first n h b e facts k accepted =
    let x = frame_accepted d first n h b e facts accepted in
    let o = resp_opened d (first + draws h) n h x.p b e facts b.kind k (frame_kind d (first + draws h) n h x.p b.kind b e (inl x.verdict_is)) x.opened in
    record { s = o.0; at = o.1.0; p = x.p; from = x.from; far = x.far; x = o.1.1.0.0; keyed = o.1.1.0.1; opened = o.1.1.1 }

-- behind the wraps and the status it has what the tests of its elements ask for
resp_named : (d : Domain) (n p : Node) (h : List Act) (b : Management) (e : ElementFields) (u v : Option (List ℕ)) → IsTaken (re_resp_further d n h p b e u v) → IsTaken (re_resp_names d n p e (re_resp_keying p h))
resp_named d n p h b e u v s =
    zero_passed (b.status == 0) (reason.Status b.status) _ (unwraps_taken (igtk_to_unwrap (protects d) e.fte) v _ (unwraps_taken (to_unwrap e.fte) u _ s))

-- its group keys were unwrapped, and whoever knows of them knows the same
one_wrapped : (y : Derivation) (w u v : Option (List ℕ)) → (w ≡ None → ⊥) → KnowsGtk (Some y) w u → KnowsGtk (Some y) w v → u ≡ v
one_wrapped y None u v some a c = absurd (some refl)
one_wrapped y (Some octets) u v some a c = same_plain y.ptk.kek octets u v a c

module _ (d : Domain) (first : ℕ) (n : Node) (h : List Act) (b : Management) (e : ElementFields) (f g : Facts) (k : b.kind ≡ kind.ReResp) where
  knows_resp : (v : Facts) (x : RespAccepted d first n h b e f) → KnowsManaged d n h x.p e v b.kind → KnowsManaged d (Sta x.s) h x.p e v kind.ReResp
  knows_resp v x w = subst (λ (m : Node). KnowsManaged d m h x.p e v kind.ReResp) x.at (subst (λ (y : Kind). KnowsManaged d n h x.p e v y) k w)

  knows_gtk : (v : Facts) (x : RespAccepted d first n h b e f) → KnowsManaged d n h x.p e v b.kind → KnowsGtk (Some x.x) (to_unwrap e.fte) v.unwrapped
  knows_gtk v x w = subst (λ (o : Option Derivation). KnowsGtk o (to_unwrap e.fte) v.unwrapped) x.keyed (knows_resp v x w).0

  knows_igtk : (v : Facts) (x : RespAccepted d first n h b e f) → KnowsManaged d n h x.p e v b.kind → KnowsGtk (Some x.x) (igtk_to_unwrap (protects d) e.fte) v.unwrapped_igtk
  knows_igtk v x w = subst (λ (o : Option Derivation). KnowsGtk o (igtk_to_unwrap (protects d) e.fte) v.unwrapped_igtk) x.keyed (knows_resp v x w).1

  pub same_unwrapped_key : Knows d first n h (Managed b e) f → Knows d first n h (Managed b e) g → verdict d first n h (Managed b e) f ≡ Accepted → f.unwrapped ≡ g.unwrapped
  same_unwrapped_key s t accepted =
      let x = resp_accepted d first n h b e f k accepted in
      let has = resp_carries d n x.p e (re_resp_keying x.p h) (resp_named d n x.p h b e f.unwrapped f.unwrapped_igtk x.opened) in
      one_wrapped x.x (to_unwrap e.fte) f.unwrapped g.unwrapped (sized_some (gtk_in e.fte) has.0)
      (knows_gtk f x (s x.far x.p x.from)) (knows_gtk g x (t x.far x.p x.from))

  -- the IGTK, where management frames are protected
  pub same_unwrapped_igtk : Knows d first n h (Managed b e) f → Knows d first n h (Managed b e) g → verdict d first n h (Managed b e) f ≡ Accepted → protects d ≡ true → f.unwrapped_igtk ≡ g.unwrapped_igtk
  same_unwrapped_igtk s t accepted on =
      let x = resp_accepted d first n h b e f k accepted in
      let has = resp_carries d n x.p e (re_resp_keying x.p h) (resp_named d n x.p h b e f.unwrapped f.unwrapped_igtk x.opened) in
      one_wrapped x.x (igtk_to_unwrap (protects d) e.fte) f.unwrapped_igtk g.unwrapped_igtk (igtk_sized e.fte (protects d) has.1 on)
      (knows_igtk f x (s x.far x.p x.from)) (knows_igtk g x (t x.far x.p x.from))

-- ---- the payload of protected data that was accepted

opened_some : (a : Outcome) (o : Option (List ℕ)) → and_then a (unsealed o) ≡ Accepted → (plain : List ℕ) × (o ≡ Some plain)
opened_some a (Some plain) s = (plain, refl)
opened_some Accepted None s = absurd (cc s)
opened_some Answered None s = absurd (cc s)
opened_some _ None s = absurd (cc s)

-- it is under a key and has a payload
pub record HasPayload (d : Domain) (n : Node) (h : List Act) (header : HeaderFields) (tid : Option ℕ) (body : List ℕ) (facts : Facts) : Type 0 where
  pub p : Node
  pub from : peer_of d n header.a2 ≡ Some p
  pub taken : IsTaken (data_verdict n h p header tid body)
  pub k : OpenKey
  pub under : opened_by n h p header tid body ≡ Some k
  pub plain : List ℕ
  pub opened : facts.opened ≡ Some plain

pub payload_in : (d : Domain) (first : ℕ) (n : Node) (h : List Act) (header : HeaderFields) (way : Direction) (tid : Option ℕ) (body : List ℕ) (facts : Facts) → verdict d first n h (Sealed header way tid body) facts ≡ Accepted
    → HasPayload d n h header tid body facts
payload_in d first n h header way tid body facts s =
    let o = open_from d first n h header way tid body (inl (and_accepted _ _ s)) in
    let plain = opened_some (first_verdict d first n h (Sealed header way tid body)) facts.opened s in
    record { p = o.p; from = o.from; taken = o.taken; k = o.k; under = o.under; plain = plain.0; opened = plain.1 }

-- and whoever knows of it knows the same
pub same_payload : (d : Domain) (first : ℕ) (n : Node) (h : List Act) (header : HeaderFields) (way : Direction) (tid : Option ℕ) (body : List ℕ) (f g : Facts) → Knows d first n h (Sealed header way tid body) f → Knows d first n h (Sealed header way tid body) g
    → verdict d first n h (Sealed header way tid body) f ≡ Accepted → f.opened ≡ g.opened
same_payload d first n h header way tid body f g s t accepted =
    let a : first_verdict d first n h (Sealed header way tid body) ≡ Accepted = and_accepted _ _ accepted in
    let far : ComesSoFar (first_verdict d first n h (Sealed header way tid body)) = subst ComesSoFar (sym a) tt in
    let o = open_from d first n h header way tid body (inl a) in
    one_payload o.k.key o.k.id header.octets body f.opened g.opened (s far o.p o.from o.k o.under) (t far o.p o.from o.k o.under)

-- ---- the key data of a G1 that was accepted

g1_data_by : (d : Domain) (x : Option ElementFields) → IsJudged (g1_key_data d x)
g1_data_by d None = inr (reason.KeyData key_data.Unreadable, refl)
g1_data_by d (Some e) = judged_keys d e

g1_by : (d : Domain) (u : Option (List ℕ)) (x : Option ElementFields) → IsJudged (g1_wrapped d u x)
g1_by d None x = inr (reason.Wrap, refl)
g1_by d (Some plain) x = g1_data_by d x

not_refused_g1 : (d : Domain) (u : Option (List ℕ)) (x : Option ElementFields) → unless_refused Accepted (g1_wrapped d u x) ≡ Accepted → g1_wrapped d u x ≡ Accepted
not_refused_g1 d u x s = elim (g1_by d u x) [
  | inl e ↦ e
  | inr e ↦ absurd (unless_passed e.0 (g1_wrapped d u x) s e.1)
]

session_g1 : (p : Node) (h : List Act) (k : KeyMessage) (m : Message) → m ≡ G1 → Awaited p h k m → HasSession p h
session_g1 p h k m e (Is_m1 f y) = cc
session_g1 p h k m e (Is_opening_m1 f y) = cc
session_g1 p h k m e (Is_m2 f y) = cc
session_g1 p h k m e (Is_m3 f y) = cc
session_g1 p h k m e (Is_m4 f y) = cc
session_g1 p h k m e (Is_g1 f y) = y
session_g1 p h k m e (Is_g2 f y) = cc

knows_g1 : (d : Domain) (h : List Act) (p : Node) (m : Message) (k : KeyMessage) (f : Facts) → m ≡ G1 → KnowsOf d.akm h p m k f → (x : Derivation) → session p h ≡ Some x → KnowsM3 x.ptk.kek k f
knows_g1 d h p m k f e knows x is = let all : KnowsOf d.akm h p G1 k f = subst (λ (y : Message). KnowsOf d.akm h p y k f) e knows in all x is

pub same_carried_g1 : (d : Domain) (first : ℕ) (n : Node) (h : List Act) (k : KeyMessage) (f g : Facts) → k.message ≡ G1 → Knows d first n h (Keyed k) f → Knows d first n h (Keyed k) g → verdict d first n h (Keyed k) f ≡ Accepted → f.data_ ≡ g.data_
same_carried_g1 d first n h k f g m s t accepted =
    let x = key_accepted d first n h k f accepted in
    let y = session_g1 x.p h k k.message m x.awaited in
    let open1 : unless_refused Accepted (g1_wrapped d f.unwrapped f.data_) ≡ Accepted = subst (λ (v : Message). unless_refused Accepted (key_further d n h x.p k v f) ≡ Accepted) m x.opened in
    same_opened_g1 d y.0.ptk.kek k f g (knows_g1 d h x.p k.message k f m (s x.far x.p x.from).0 y.0 y.1) (knows_g1 d h x.p k.message k g m (t x.far x.p x.from).0 y.0 y.1) (not_refused_g1 d f.unwrapped f.data_ open1)
