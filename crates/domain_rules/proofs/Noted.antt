-- A seal is noted where the MIC of a frame verified, and only there.
use Rattle.std.proofs.Common.{◌≡◌, ℕ, ◌+◌, Bool, true, false, cond, List, [], ◌∷◌, ◌++◌, Option, Some, None, refl, sym, ap, subst, ◌∙◌, inl, inr}
use Rattle.std.specs.Prelude.{option_and_then, not, nat_lt, ◌||◌, ◌&&◌, ◌==◌, bytes_eq, option_map, if◌then◌else◌}
use Rattle.std.specs.List.{list_any}
use Rattle.std.proofs.lemmas.Slice.Eq.{bytes_eq-Decides}
use Rattle.domain_base.specs.declared.names.Akm.{Akm}
use Rattle.domain_base.specs.declared.names.Node.{Node}
use Rattle.domain_base.specs.declared.names.Node.TheVariants.{Ap, Sta}
use Rattle.mac_prf.specs.Mic.{mic}
use Rattle.rsn_elements.specs.Elements.{ElementFields}
use Rattle.eapol_key.specs.declared.messages.Message.{Message}
use Rattle.eapol_key.specs.declared.messages.Message.TheVariants.{M1, M2, M3, M4, G1, G2}
use Rattle.key_hierarchy.specs.Keys.{ptk}
use Rattle.key_hierarchy.specs.declared.inputs.Inputs.{Inputs}
use Rattle.run_journal.specs.declared.domain.Domain.{Domain}
use Rattle.run_journal.specs.declared.acts.Kind.{Kind}
use Rattle.run_journal.specs.declared.acts.Kind.TheVariants as kind
use Rattle.run_journal.specs.declared.acts.Reason.{Reason}
use Rattle.run_journal.specs.declared.acts.Reason.TheVariants as reason
use Rattle.run_journal.specs.declared.acts.Outcome.{Outcome}
use Rattle.run_journal.specs.declared.acts.Outcome.TheVariants.{Accepted, Answered, Ignored, Refused}
use Rattle.run_journal.specs.declared.acts.Seal.{Seal}
use Rattle.run_journal.specs.declared.acts.Act.{Act}
use Rattle.run_journal.specs.declared.acts.Act.TheVariants.{Took, Installed, Finished}
use Rattle.run_journal.specs.Acts.{Derivation}
use Rattle.run_journal.specs.Questions.{attempt, session, pending, associated, draws, chain, handshake, add}
use Rattle.domain_base.specs.declared.names.Peer.TheVariants.{One}
use Rattle.air_frame.specs.Fields.{HeaderFields}
use Rattle.air_frame.specs.declared.frame.Direction.{Direction}
use Rattle.ccmp_guard.specs.Ccmp.{packet_number}
use Rattle.domain_rules.specs.PacketNumbers.{send_key}
use Rattle.domain_rules.specs.DataFrames.{data_seal}
use Rattle.domain_rules.specs.DataVerdict.{IsOpened}
use Rattle.domain_rules.specs.DataRows.{send_acts_by, DataRow}
use Rattle.domain_rules.specs.PacketNumbers.{current, group_send_key}
use Rattle.domain_rules.specs.ManagementFrames.{announced}
use Rattle.run_journal.specs.declared.acts.Key.TheVariants.{Pairwise}
use Rattle.run_journal.specs.Premises.{In}
use Rattle.domain_rules.specs.Network.{mac, direction, goes_like, peer_of, r0kh_id, inputs_at}
use Rattle.domain_rules.specs.Frames.{sent_m4, sent_g2, frame_seal}
use Rattle.domain_rules.specs.Reading.{Management, KeyMessage, Reading, NoFrame, PassedOver, NoElements, Managed, NoKeyFrame, NoMessage, Keyed, Sealed, Acting, Reads, passes_over, ReadsBy, ReadsAt, kind_of}
use Rattle.domain_rules.specs.Facts.{Facts}
use Rattle.domain_rules.specs.Verdict.{Knows, KnowsFrom, ComesSoFar, first_verdict, further, key_further, and_then, verdict, from_peer, is_mine, air_reason, key_verdict, comes_so_far}
use Rattle.domain_rules.specs.StationKeys.{Keying, m3_keying, m3_verdict_by, g1_verdict_by}
use Rattle.domain_rules.proofs.Sending.{sent_by}
use Rattle.domain_rules.specs.AccessPointKeys.{is_secured_rightly, m4_keying, m4_verdict_by, g2_verdict_by}
use Rattle.domain_rules.specs.Owing.{owing, switch_acts, and_switch}
use Rattle.domain_rules.specs.Asking.{in_attempt, above, verified, is_four_way, in_renewal, has_heard, kept_counter, offered, own}
use Rattle.domain_rules.specs.GroupKeys.{give_all, news}
use Rattle.domain_rules.specs.Rows.{NodeEvent, Take, Begin, Retry, Rekey, Send, Expire, Leave, Roam as RoamEvent, Revoke, Secret, Renew as RenewEvent, Announce, refused_seal, message_seal, seal_in, response, TakeRows, By_assoc_req, By_assoc_resp, By_m1, By_opening_m1, By_m2, By_m3, By_repeated_m3, By_m4, By_g1, By_g2, By_data, By_action, By_ft_req, By_repeated_ft_req, By_ft_resp, By_re_req, By_repeated_re_req, By_re_resp, By_ignored, By_refusal, TakeRow, RowOf, Adds}
use Rattle.domain_rules.specs.Closing.{close_attempt, close_session, close_pending, close_associated, sender}
use Rattle.domain_rules.specs.StationRows.{ConnectRow, Spent, Asks, carried_keys}
use Rattle.domain_rules.specs.PairwiseRenewal.{RenewRow}
use Rattle.domain_rules.specs.PairwiseRenewal as renew
use Rattle.domain_rules.specs.Verified.{IsVerified, IsUnsealed, IsNoted, By_mic, By_fte, By_ccm, By_bip, has_mic, is_covered, is_with_mic, is_past_mic}
use Rattle.run_journal.specs.Holders.{first_stored, since_finished}
use Rattle.domain_rules.specs.TransitionFrames.{re_resp_fte, sent_re_resp}
use Rattle.domain_rules.specs.TransitionRows.{sent_again, keys_by, refused_look, RoamRow, NoSession, SamePeer}
use Rattle.domain_rules.specs.TransitionRows as roam
use Rattle.domain_rules.specs.Here.{here}
use Rattle.domain_rules.proofs.OneOutcome.{IsTaken, taken_behind, taken_from, Awaited, Is_m1, Is_opening_m1, Is_m2, Is_m3, Is_m4, Is_g1, Is_g2, key_kind, and_accepted, and_answered, payload_in, from_named as named_further}
use Rattle.domain_rules.proofs.OneGroup.{take_by, passed_over}
use Rattle.domain_rules.proofs.ActionSeals.{mme_verified}
use Rattle.domain_rules.proofs.Pulled.{with_pulled, knows_from, IsFree, verdict_free}
use Rattle.domain_rules.proofs.FteSeals.{managed_verified, managed_has, request_noted, response_noted, request_has, response_has}
use Rattle.domain_rules.proofs.SomeGroup.{HasRow, some_rows}
use Rattle.run_journal.specs.declared.acts.GroupKind.TheVariants as groups
use Rattle.domain_rules.proofs.QuietActs.{are_quiet, noting, none_noted, head_noted, quiet_attempt, quiet_session, quiet_keys, quiet_response, quiet_look, quiet_stored, quiet_elsewhere, quiet_replaced, quiet_pending, quiet_revoke, quiet_retry, quiet_append, quiet_changed, quiet_m4, quiet_rekey, quiet_closed, quiet_left, quiet_nothing, quiet_switch, quiet_connect, quiet_send, quiet_announce}

far_taken : (o : Outcome) → comes_so_far o ≡ true → IsTaken o
far_taken Accepted s = inl refl
far_taken Answered s = inr refl
far_taken _ s = absurd (cc s)

-- ---- a message that is taken has a MIC that verified

passed : (c : Bool) (why : Reason) (a : Outcome) → IsTaken (if c then a else Refused why) → (c ≡ true) × IsTaken a
passed true why a s = (refl, s)
passed false why a (inl s) = absurd (cc s)
passed false why a (inr s) = absurd (cc s)

passed_above : (o : Option ℕ) (counter : ℕ) (a : Outcome) → IsTaken (above o counter a) → IsTaken a
passed_above None counter a s = s
passed_above (Some kept) counter a s = (passed (nat_lt kept counter) (reason.Counter kept) a s).1

passed_mic : (akm : Akm) (kck : List ℕ) (k : KeyMessage) (a : Outcome) → IsTaken (verified akm kck k a) → k.fields.mic ≡ mic akm kck k.octets
passed_mic akm kck k a s = (bytes_eq-Decides k.fields.mic (mic akm kck k.octets)).0 (passed (bytes_eq k.fields.mic (mic akm kck k.octets)) reason.Mic a s).0

abbrev HasMicOf : Akm → List ℕ → KeyMessage → Type 0
HasMicOf akm kck k = k.fields.mic ≡ mic akm kck k.octets

-- under the key that it is judged by
abbrev VerifiedBy : Domain → Node → List Act → Node → KeyMessage → Message → Type 0
VerifiedBy d n h p k M2 = (part : List Act) → attempt p h ≡ Some part → HasMicOf d.akm (ptk (inputs_at d n p (r0kh_id d n) (own part) k.fields.nonce)).kck k
VerifiedBy d n h p k M3 = (y : Keying) → m3_keying p h k ≡ Some y → HasMicOf d.akm y.key.ptk.kck k
VerifiedBy d n h p k M4 = (part : List Act) (x : Derivation) → attempt p h ≡ Some part → m4_keying p part ≡ Some x → HasMicOf d.akm x.ptk.kck k
VerifiedBy d n h p k G1 = (x : Derivation) → session p h ≡ Some x → HasMicOf d.akm x.ptk.kck k
VerifiedBy d n h p k G2 = (x : Derivation) → owing groups.Gtk p h ≡ Some x → HasMicOf d.akm x.ptk.kck k
VerifiedBy d n h p k _ = Unit {0}

at_part : (o : Option (List Act)) (part : List Act) (f : List Act → Outcome) → o ≡ Some part → IsTaken (in_attempt o f) → IsTaken (f part)
at_part o part f is s = subst (λ (x : Option (List Act)). IsTaken (in_attempt x f)) is s

verified_m3 : (d : Domain) (kept : Option ℕ) (k : KeyMessage) (y : Keying) (o : Option Keying) → o ≡ Some y → IsTaken (m3_verdict_by d kept k o) → HasMicOf d.akm y.key.ptk.kck k
verified_m3 d kept k y o is s =
    let t : IsTaken (m3_verdict_by d kept k (Some y)) = subst (λ (x : Option Keying). IsTaken (m3_verdict_by d kept k x)) is s in
    passed_mic d.akm y.key.ptk.kck k _ (passed (bytes_eq k.fields.nonce y.key.inputs.anonce) reason.Nonce _ (passed_above kept k.fields.counter _ t)).1

verified_m4 : (d : Domain) (p : Node) (k : KeyMessage) (part : List Act) (x : Derivation) (o : Option Derivation) → o ≡ Some x → IsTaken (m4_verdict_by d p k part o) → HasMicOf d.akm x.ptk.kck k
verified_m4 d p k part x o is s =
    let t : IsTaken (m4_verdict_by d p k part (Some x)) = subst (λ (y : Option Derivation). IsTaken (m4_verdict_by d p k part y)) is s in
    passed_mic d.akm x.ptk.kck k _ (passed (list_any (λ c. c == k.fields.counter) (offered p M3 part)) _ _ t).1

verified_g1 : (d : Domain) (kept : Option ℕ) (k : KeyMessage) (x : Derivation) (o : Option Derivation) → o ≡ Some x → IsTaken (g1_verdict_by d kept k o) → HasMicOf d.akm x.ptk.kck k
verified_g1 d kept k x o is s =
    let t : IsTaken (g1_verdict_by d kept k (Some x)) = subst (λ (y : Option Derivation). IsTaken (g1_verdict_by d kept k y)) is s in
    passed_mic d.akm x.ptk.kck k _ (passed_above kept k.fields.counter _ t)

verified_g2 : (d : Domain) (h : List Act) (p : Node) (k : KeyMessage) (x : Derivation) (o : Option Derivation) → o ≡ Some x → IsTaken (g2_verdict_by d h p k o) → HasMicOf d.akm x.ptk.kck k
verified_g2 d h p k x o is s =
    let t : IsTaken (g2_verdict_by d h p k (Some x)) = subst (λ (y : Option Derivation). IsTaken (g2_verdict_by d h p k y)) is s in
    passed_mic d.akm x.ptk.kck k _ (passed (list_any (λ c. c == k.fields.counter) (offered p G1 (handshake groups.Gtk p h))) _ _ t).1

never : {C : Type 0} (why : Reason) → IsTaken (Refused why) → C
never why (inl s) = absurd (cc s)
never why (inr s) = absurd (cc s)

verified_by : (d : Domain) (drawn : ℕ) (n : Node) (h : List Act) (p : Node) (k : KeyMessage) (m : Message) → IsTaken (key_verdict d drawn n h p k m) → VerifiedBy d n h p k m
verified_by d drawn (Sta s) h p k M1 t = tt
verified_by d drawn (Ap a) h p k M2 t =
    λ part is. passed_mic d.akm (ptk (inputs_at d (Ap a) p (r0kh_id d (Ap a)) (own part) k.fields.nonce)).kck k Accepted
    (passed (list_any (λ c. c == k.fields.counter) (offered p M1 part)) _ _ (passed (is_secured_rightly d part k) reason.Unawaited _ (taken_behind (not (is_four_way part) || has_heard p (kind.Key M2) part) reason.Unawaited _ (at_part (attempt p h) part _ is t))).1).1
verified_by d drawn (Sta s) h p k M3 t = λ y is. verified_m3 d (kept_counter p (chain p h)) k y (m3_keying p h k) is t
verified_by d drawn (Ap a) h p k M4 t = λ part x awaited is. verified_m4 d p k part x (m4_keying p part) is (at_part (attempt p h) part _ awaited t)
verified_by d drawn (Sta s) h p k G1 t = λ x is. verified_g1 d (kept_counter p (chain p h)) k x (session p h) is t
verified_by d drawn (Ap a) h p k G2 t = λ x is. verified_g2 d h p k x (owing groups.Gtk p h) is t
verified_by d drawn n h p k _ t = never reason.Unawaited t

-- from the peer that its header names
from_named : (d : Domain) (first : ℕ) (n : Node) (h : List Act) (k : KeyMessage) (p : Node) → peer_of d n k.header.a2 ≡ Some p → IsTaken (first_verdict d first n h (Keyed k)) → IsTaken (key_verdict d (first + draws h) n h p k k.message)
from_named d first n h k p from s =
    subst (λ (o : Option Node). IsTaken (from_peer o (λ q. key_verdict d (first + draws h) n h q k k.message))) from
    (taken_behind (not (is_mine d n k.header) || goes_like k.direction (direction n)) reason.NotForMe _ s)

verified_row : (d : Domain) (first : ℕ) (n : Node) (h : List Act) (r : Reading) (k : KeyMessage) (m : Message) (p : Node) → r ≡ Keyed k → k.message ≡ m → sender d n r ≡ Some p → IsTaken (first_verdict d first n h r) → VerifiedBy d n h p k m
verified_row d first n h r k m p is message_is from s =
    subst (λ (x : Message). VerifiedBy d n h p k x) message_is
    (verified_by d (first + draws h) n h p k k.message (from_named d first n h k p (subst (λ (v : Reading). sender d n v ≡ Some p) is from) (subst (λ (v : Reading). IsTaken (first_verdict d first n h v)) is s)))

accepted_first : (d : Domain) (first : ℕ) (n : Node) (h : List Act) (r : Reading) (facts : Facts) → verdict d first n h r facts ≡ Accepted → IsTaken (first_verdict d first n h r)
accepted_first d first n h r facts s = inl (and_accepted (first_verdict d first n h r) (further d first n h r facts) s)

answered_first : (d : Domain) (first : ℕ) (n : Node) (h : List Act) (r : Reading) (facts : Facts) → verdict d first n h r facts ≡ Answered → IsTaken (first_verdict d first n h r)
answered_first d first n h r facts s = inr (and_answered (first_verdict d first n h r) (further d first n h r facts) s)

-- ---- the seal of a message whose MIC verified

is_verified : (akm : Akm) (octets : List ℕ) (r : Reading) (k : KeyMessage) (kck : List ℕ) (s : Seal) → Reads akm octets r → r ≡ Keyed k → s ≡ frame_seal kck k.octets → HasMicOf akm kck k → IsVerified akm octets s
is_verified akm octets r k kck s reads is seal verifies =
    subst (λ (x : Seal). IsVerified akm octets x) (sym seal) (record { k = k; reads = subst (λ (v : Reading). Reads akm octets v) is reads; verifies = verifies; is = refl })

mapped : {A B : Type 0} (f : A → B) (o : Option A) (y : B) → option_map f o ≡ Some y → (x : A) × ((o ≡ Some x) × (y ≡ f x))
mapped f None y s = absurd (cc s)
mapped f (Some x) y s = (x, (refl, cc s))

in_some : {A B : Type 0} (f : A → Option B) (o : Option A) (y : B) → option_and_then f o ≡ Some y → (x : A) × ((o ≡ Some x) × (f x ≡ Some y))
in_some f None y s = absurd (cc s)
in_some f (Some x) y s = (x, (refl, s))

message_verified : (d : Domain) (n : Node) (h : List Act) (octets : List ℕ) (k : KeyMessage) (p : Node) (m : Message) (s : Seal) → Reads d.akm octets (Keyed k) → VerifiedBy d n h p k m → message_seal d n h k m (Some p) ≡ Some s → IsVerified d.akm octets s
message_verified d n h octets k p M2 s reads v is =
    let x = mapped (λ (part : List Act). frame_seal (ptk (inputs_at d n p (r0kh_id d n) (own part) k.fields.nonce)).kck k.octets) (attempt p h) s is in
    is_verified d.akm octets (Keyed k) k (ptk (inputs_at d n p (r0kh_id d n) (own x.0) k.fields.nonce)).kck s reads refl x.1.1 (v x.0 x.1.0)
message_verified d n h octets k p M3 s reads v is =
    let x = mapped (λ (y : Keying). frame_seal y.key.ptk.kck k.octets) (m3_keying p h k) s is in
    is_verified d.akm octets (Keyed k) k x.0.key.ptk.kck s reads refl x.1.1 (v x.0 x.1.0)
message_verified d n h octets k p M1 s reads v is = absurd (cc is)
message_verified d n h octets k p M4 s reads v is =
    let x = mapped (λ (x : Derivation). frame_seal x.ptk.kck k.octets) (option_and_then (λ (part : List Act). m4_keying p part) (attempt p h)) s is in
    let at = in_some (m4_keying p) (attempt p h) x.0 x.1.0 in
    is_verified d.akm octets (Keyed k) k x.0.ptk.kck s reads refl x.1.1 (v at.0 x.0 at.1.0 at.1.1)
message_verified d n h octets k p G1 s reads v is =
    let x = mapped (λ (x : Derivation). frame_seal x.ptk.kck k.octets) (session p h) s is in
    is_verified d.akm octets (Keyed k) k x.0.ptk.kck s reads refl x.1.1 (v x.0 x.1.0)
message_verified d n h octets k p G2 s reads v is =
    let x = mapped (λ (x : Derivation). frame_seal x.ptk.kck k.octets) (owing groups.Gtk p h) s is in
    is_verified d.akm octets (Keyed k) k x.0.ptk.kck s reads refl x.1.1 (v x.0 x.1.0)

seal_from : (d : Domain) (first : ℕ) (n : Node) (h : List Act) (octets : List ℕ) (k : KeyMessage) (s : Seal) (o : Option Node) → peer_of d n k.header.a2 ≡ o → Reads d.akm octets (Keyed k) → IsTaken (first_verdict d first n h (Keyed k))
    → message_seal d n h k k.message o ≡ Some s → IsVerified d.akm octets s
seal_from d first n h octets k s (Some p) from reads t is = message_verified d n h octets k p k.message s reads (verified_by d (first + draws h) n h p k k.message (from_named d first n h k p from t)) is
seal_from d first n h octets k s None from reads t is = absurd (no_peer k.message is)
  where
    no_peer : (m : Message) → message_seal d n h k m None ≡ Some s → ⊥
    no_peer M1 is = cc is
    no_peer M2 is = cc is
    no_peer M3 is = cc is
    no_peer M4 is = cc is
    no_peer G1 is = cc is
    no_peer G2 is = cc is

seal_verified : (d : Domain) (first : ℕ) (n : Node) (h : List Act) (octets : List ℕ) (r : Reading) (s : Seal) → Reads d.akm octets r → IsTaken (first_verdict d first n h r) → seal_in d n h r ≡ Some s → IsNoted d.akm octets s
seal_verified d first n h octets (Keyed k) s reads t is = By_mic (seal_from d first n h octets k s (peer_of d n k.header.a2) refl reads t is)
seal_verified d first n h octets (Managed b e) s reads t is = By_fte (managed_verified d first n h octets b e s reads t is)
seal_verified d first n h octets _ s reads t is = absurd (cc is)

noted_by : (b : Bool) (o : Option Seal) (s : Seal) → cond b o None ≡ Some s → (b ≡ true) × (o ≡ Some s)
noted_by true o s is = (refl, is)
noted_by false o s is = absurd (cc is)

-- ---- a seal is noted only where the MIC, or CCM, verified

-- the act is of these octets, and verified
abbrev Notes : Domain → List ℕ → List ℕ → Seal → Type 0
Notes d octets taken s = (octets ≡ taken) × IsNoted d.akm octets s

notes : (d : Domain) (octets taken : List ℕ) (s : Seal) → taken ≡ octets → IsVerified d.akm octets s → Notes d octets taken s
notes d octets taken s same v = (sym same, By_mic v)

-- what is known of data that was accepted
pub data_opened : (d : Domain) (first : ℕ) (n : Node) (h : List Act) (octets : List ℕ) (r : Reading) (facts : Facts) (g : List Act) → Knows d first n h r facts → (row : DataRow (here d first n) h octets r facts g)
    → IsOpened row.k.key row.k.id row.header.octets row.body (Some row.plain)
data_opened d first n h octets r facts g knows row =
    let a : first_verdict d first n h r ≡ Accepted = and_accepted (first_verdict d first n h r) (further d first n h r facts) row.accepted in
    let all : KnowsFrom d n h (Sealed row.header row.way row.tid row.body) facts = subst (λ (x : Reading). KnowsFrom d n h x facts) row.is (knows (subst ComesSoFar (sym a) tt)) in
    let from : peer_of d n row.header.a2 ≡ Some row.p = subst (λ (x : Reading). sender d n x ≡ Some row.p) row.is row.from in
    subst (IsOpened row.k.key row.k.id row.header.octets row.body) row.opened (all row.p from row.k row.under)

data_unsealed : (d : Domain) (first : ℕ) (n : Node) (h : List Act) (octets : List ℕ) (r : Reading) (facts : Facts) (g : List Act) (s : Seal) → Reads d.akm octets r → Knows d first n h r facts → (row : DataRow (here d first n) h octets r facts g)
    → s ≡ data_seal row.k.key row.header.octets (packet_number row.body) row.plain → IsUnsealed d.akm octets s
data_unsealed d first n h octets r facts g s reads knows row is =
    subst (λ (x : Seal). IsUnsealed d.akm octets x) (sym is) (record {
      header = row.header;
      way = row.way;
      tid = row.tid;
      body = row.body;
      reads = subst (λ (x : Reading). Reads d.akm octets x) row.is reads;
      id = row.k.id;
      plain = row.plain;
      opens = data_opened d first n h octets r facts g knows row;
      is = refl;
    })

row_noted : (d : Domain) (first : ℕ) (n : Node) (h : List Act) (octets : List ℕ) (r : Reading) (facts : Facts) (g : List Act) (from : Option Node) (taken : List ℕ) (k : Kind) (o : Outcome) (s : Seal)
    → Reads d.akm octets r → Knows d first n h r facts → TakeRows (here d first n) h octets r facts g → In (noting from taken k o s) g → Notes d octets taken s
row_noted d first n h octets r facts g from taken k o s reads knows (By_assoc_req row) there =
    absurd (none_noted from taken k o s g (ap are_quiet row.says ∙ quiet_attempt row.p (attempt row.p h) _ refl) there)
row_noted d first n h octets r facts g from taken k o s reads knows (By_assoc_resp row) there = absurd (none_noted from taken k o s g (ap are_quiet row.says) there)
row_noted d first n h octets r facts g from taken k o s reads knows (By_m1 row) there = absurd (none_noted from taken k o s g (ap are_quiet row.says) there)
row_noted d first n h octets r facts g from taken k o s reads knows (By_opening_m1 row) there = absurd (none_noted from taken k o s g (ap are_quiet row.says) there)
row_noted d first n h octets r facts g from taken k o s reads knows (By_m2 row) there =
    let head = head_noted from taken k o s _ _ g row.says refl there in
    notes d octets taken s (cc head) (is_verified d.akm octets r row.k (ptk row.i).kck s reads row.is (cc head)
    (subst (λ (x : Inputs). HasMicOf d.akm (ptk x).kck row.k) (sym row.inputs_are) (verified_row d first n h r row.k M2 row.p row.is row.message_is row.from (accepted_first d first n h r facts row.accepted) row.part row.awaited)))
row_noted d first n h octets r facts g from taken k o s reads knows (By_m3 row) there =
    let head = head_noted from taken k o s _ _ g row.says
    (quiet_replaced row.p (in_renewal (attempt row.p h)) _ (quiet_keys d row.p (mac d row.p) (carried_keys facts.data_) h (Finished row.p row.y.key.inputs ∷ sent_m4 d n row.p row.y.key row.k.fields.counter ∷ []) refl)) there in
    notes d octets taken s (cc head) (is_verified d.akm octets r row.k row.y.key.ptk.kck s reads row.is (cc head)
    (verified_row d first n h r row.k M3 row.p row.is row.message_is row.from (accepted_first d first n h r facts row.accepted) row.y row.awaited))
row_noted d first n h octets r facts g from taken k o s reads knows (By_repeated_m3 row) there =
    let head = head_noted from taken k o s _ _ g row.says refl there in
    notes d octets taken s (cc head) (is_verified d.akm octets r row.k row.y.key.ptk.kck s reads row.is (cc head)
    (verified_row d first n h r row.k M3 row.p row.is row.message_is row.from (answered_first d first n h r facts row.answered) row.y row.awaited))
row_noted d first n h octets r facts g from taken k o s reads knows (By_m4 row) there =
    let head = head_noted from taken k o s _ _ g row.says (quiet_m4 d n row.p h octets row.k row.x) there in
    notes d octets taken s (cc head) (is_verified d.akm octets r row.k row.x.ptk.kck s reads row.is (cc head)
    (verified_row d first n h r row.k M4 row.p row.is row.message_is row.from (accepted_first d first n h r facts row.accepted) row.part row.x row.awaited row.keyed))
row_noted d first n h octets r facts g from taken k o s reads knows (By_g1 row) there =
    let head = head_noted from taken k o s _ _ g row.says (quiet_keys d row.p (mac d row.p) (carried_keys facts.data_) h (sent_g2 d n row.p row.x row.k.fields.counter ∷ []) refl) there in
    notes d octets taken s (cc head) (is_verified d.akm octets r row.k row.x.ptk.kck s reads row.is (cc head)
    (verified_row d first n h r row.k G1 row.p row.is row.message_is row.from (accepted_first d first n h r facts row.accepted) row.x row.awaited))
row_noted d first n h octets r facts g from taken k o s reads knows (By_g2 row) there =
    let head = head_noted from taken k o s _ _ g row.says refl there in
    notes d octets taken s (cc head) (is_verified d.akm octets r row.k row.x.ptk.kck s reads row.is (cc head)
    (verified_row d first n h r row.k G2 row.p row.is row.message_is row.from (accepted_first d first n h r facts row.accepted) row.x row.awaited))
row_noted d first n h octets r facts g from taken k o s reads knows (By_data row) there =
    let head = head_noted from taken k o s _ _ g row.says refl there in
    (sym (cc head), By_ccm (data_unsealed d first n h octets r facts g s reads knows row (cc head)))
row_noted d first n h octets r facts g from taken k o s reads knows (By_action row) there =
    let head = head_noted from taken k o s _ _ g row.says refl there in
    (sym (cc head), By_bip (mme_verified d first n h octets r facts g s reads row (cc head)))
row_noted d first n h octets r facts g from taken k o s reads knows (By_ft_req row) there =
    absurd (none_noted from taken k o s g (ap are_quiet row.says ∙ quiet_attempt row.p (attempt row.p h) _ refl) there)
row_noted d first n h octets r facts g from taken k o s reads knows (By_repeated_ft_req row) there =
    absurd (none_noted from taken k o s g (ap are_quiet row.says ∙ quiet_stored row.p kind.FtResp (first_stored row.p kind.FtResp row.part)) there)
row_noted d first n h octets r facts g from taken k o s reads knows (By_ft_resp row) there = absurd (none_noted from taken k o s g (ap are_quiet row.says) there)
row_noted d first n h octets r facts g from taken k o s reads knows (By_re_req row) there =
    let head = head_noted from taken k o s _ _ g row.says (quiet_session row.p (session row.p h) _ refl) there in
    (sym (cc head), By_fte (request_noted d first n h octets r row.b row.e row.p s reads row.is row.kind_is row.from (accepted_first d first n h r facts row.accepted) (cc head)))
row_noted d first n h octets r facts g from taken k o s reads knows (By_repeated_re_req row) there =
    let head = head_noted from taken k o s _ _ g row.says (quiet_stored row.p kind.ReResp (first_stored row.p kind.ReResp (since_finished row.p h))) there in
    (sym (cc head), By_fte (request_noted d first n h octets r row.b row.e row.p s reads row.is row.kind_is row.from (answered_first d first n h r facts row.answered) (cc head)))
row_noted d first n h octets r facts g from taken k o s reads knows (By_re_resp row) there =
    let head = head_noted from taken k o s _ _ g row.says
    (quiet_elsewhere (associated h) _ (quiet_keys d row.p (mac d row.p) (keys_by row.e.fte facts) h (Finished row.p row.x.inputs ∷ []) refl)) there in
    (sym (cc head), By_fte (response_noted d first n h octets r row.b row.e row.p s reads row.is row.kind_is row.from (accepted_first d first n h r facts row.accepted) (cc head)))
row_noted d first n h octets r facts g from taken k o s reads knows (By_ignored row) there = absurd (none_noted from taken k o s g (ap are_quiet row.says) there)
row_noted d first n h octets r facts g from taken k o s reads knows (By_refusal row) there =
    let head = head_noted from taken k o s _ _ g row.says (quiet_append (refused_look n (sender d n r) r facts.pulled row.why) (response d n (sender d n r) (kind_of r) row.why) (quiet_look n (sender d n r) r facts.pulled row.why) (quiet_response d n (sender d n r) (kind_of r) row.why)) there in
    let seal : refused_seal d first n h r ≡ Some s = cc head in
    let by = noted_by (comes_so_far (first_verdict d first n h r)) (seal_in d n h r) s seal in
    (sym (cc head), seal_verified d first n h octets r s reads (far_taken (first_verdict d first n h r) by.0) by.1)

-- what is passed over notes none
take_noted : (b : Bool) (d : Domain) (first : ℕ) (n : Node) (h : List Act) (octets : List ℕ) (r : Reading) (facts : Facts) (g : List Act) (from : Option Node) (taken : List ℕ) (k : Kind) (o : Outcome) (s : Seal)
    → ReadsBy b d.akm octets r → Knows d first n h r facts → TakeRows (here d first n) h octets r facts g → In (noting from taken k o s) g → Notes d octets taken s
take_noted false d first n h octets r facts g from taken k o s reads knows rows there = row_noted d first n h octets r facts g from taken k o s reads knows rows there
take_noted true d first n h octets r facts g from taken k o s is knows rows there =
    absurd (none_noted from taken k o s g (ap are_quiet (passed_over d first n h octets facts g (subst (λ (v : Reading). TakeRows (here d first n) h octets v facts g) is rows))) there)

roam_quiet : (d : Domain) (first : ℕ) (n : Node) (h : List Act) (p : Node) (g : List Act) → RoamRow (here d first n) h p g → are_quiet g ≡ true
roam_quiet d first n h p g (NoSession none is) = ap are_quiet is
roam_quiet d first n h p g (SamePeer q some same is) = ap are_quiet is
roam_quiet d first n h p g (roam.Spent q some other many is) = ap are_quiet is
roam_quiet d first n h p g (roam.Asks suite q some other few is) = ap are_quiet is ∙ quiet_pending (pending h) _ refl

renew_quiet : (d : Domain) (first : ℕ) (n : Node) (h : List Act) (p : Node) (g : List Act) → RenewRow (here d first n) h p g → are_quiet g ≡ true
renew_quiet d first n h p g (renew.NoSession none is) = ap are_quiet is
renew_quiet d first n h p g (renew.Nothing x some part going is) = ap are_quiet is
renew_quiet d first n h p g (renew.Spent x some free many is) = ap are_quiet is
renew_quiet d first n h p g (renew.Begins role on x some free few is) = ap are_quiet is

connect_quiet : (d : Domain) (first : ℕ) (n : Node) (h : List Act) (p : Node) (g : List Act) → ConnectRow (here d first n) h p g → are_quiet g ≡ true
connect_quiet d first n h p g (Spent many is) = ap are_quiet is
connect_quiet d first n h p g (Asks few is) = ap are_quiet is ∙ quiet_connect d first n h p

event_noted : (d : Domain) (first : ℕ) (n : Node) (h : List Act) (event : NodeEvent) (g : List Act) (from : Option Node) (octets : List ℕ) (k : Kind) (o : Outcome) (s : Seal)
    → RowOf (here d first n) h event g → In (noting from octets k o s) g → (event ≡ Take octets) × IsNoted d.akm octets s
event_noted d first n h (Take octets) g from taken k o s row there =
    let n : Notes d octets taken s = take_noted (passes_over d octets) d first n h octets row.r row.facts g from taken k o s row.reads row.knows row.row there in
    (ap (λ (x : List ℕ). Take x) n.0, subst (λ (x : List ℕ). IsNoted d.akm x s) n.0 n.1)
event_noted d first n h (Begin a) g from taken k o s row there = absurd (none_noted from taken k o s g (connect_quiet d first n h (Ap a) g row) there)
event_noted d first n h (Retry p) g from taken k o s is there = absurd (none_noted from taken k o s g (ap are_quiet is ∙ quiet_retry d n h (Sta p) (attempt (Sta p) h)) there)
event_noted d first n h Rekey g from taken k o s row there = absurd (none_noted from taken k o s g (quiet_rekey d first n h g row) there)
event_noted d first n h (Send q tid octets) g from taken k o s is there =
    absurd (none_noted from taken k o s g (ap are_quiet is ∙ sent_by (λ (l : List Act). are_quiet l ≡ true) (here d first n) h q tid octets (quiet_send d n q tid octets (send_key h q))
    (λ a p x at to of due. quiet_append (send_acts_by d n q tid octets (send_key h q)) _ (quiet_send d n q tid octets (send_key h q)) refl)) there)
event_noted d first n h (Expire p) g from taken k o s is there =
    absurd (none_noted from taken k o s g (ap are_quiet is ∙ quiet_nothing (close_attempt (Sta p) (attempt (Sta p) h) ++ close_session (Sta p) (session (Sta p) h))
    (quiet_attempt (Sta p) (attempt (Sta p) h) (close_session (Sta p) (session (Sta p) h)) (quiet_closed (Sta p) (session (Sta p) h)))) there)
event_noted d first n h Leave g from taken k o s is there =
    absurd (none_noted from taken k o s g (ap are_quiet is ∙ quiet_nothing (close_pending (pending h) ++ close_associated (associated h)) (quiet_left (pending h) (associated h))) there)
event_noted d first n h (RoamEvent a) g from taken k o s row there = absurd (none_noted from taken k o s g (roam_quiet d first n h (Ap a) g row) there)
event_noted d first n h (Revoke p) g from taken k o s is there = absurd (none_noted from taken k o s g (ap are_quiet is ∙ quiet_revoke d.akm d n h (Sta p)) there)
event_noted d first n h (RenewEvent p) g from taken k o s row there = absurd (none_noted from taken k o s g (renew_quiet d first n h (Sta p) g row) there)
event_noted d first n h (Announce octets) g from taken k o s is there =
    absurd (none_noted from taken k o s g (ap are_quiet is ∙ quiet_announce d n (announced octets) (group_send_key groups.Igtk h (current groups.Igtk h))) there)
event_noted d first n h (Secret named psk) g from taken k o s is there = absurd (none_noted from taken k o s g (ap are_quiet is ∙ quiet_changed d n h named psk) there)

-- the switch notes nothing
pub in_switched : (d : Domain) (n : Node) (h acts : List Act) (x : Act) → ((a : ℕ) (after : List Act) → In x (switch_acts d a after) → ⊥) → In x (and_switch d n h acts) → In x acts
in_switched d (Sta s) h acts x none there = there
in_switched d (Ap a) h acts x none there = go acts there
  where
    go : (g : List Act) → In x (g ++ switch_acts d a (add acts h)) → In x g
    go [] there = absurd (none a (add acts h) there)
    go (e ∷ g) (inl here) = inl here
    go (e ∷ g) (inr later) = inr (go g later)

-- the event is that these octets came, and they verified
pub noted_verified : (d : Domain) (first : ℕ) (n : Node) (h : List Act) (event : NodeEvent) (g : List Act) (from : Option Node) (octets : List ℕ) (k : Kind) (o : Outcome) (s : Seal)
    → Adds (here d first n) h event g → In (Took from octets k o (Some s)) g → (event ≡ Take octets) × IsNoted d.akm octets s
noted_verified d first n h event g from octets k o s adds there =
    event_noted d first n h event adds.acts from octets k o s adds.row
    (in_switched d n h adds.acts (noting from octets k o s) (λ a after in_it. none_noted from octets k o s (switch_acts d a after) (quiet_switch d a after) in_it)
    (subst (λ (x : List Act). In (noting from octets k o s) x) adds.is there))

-- ---- and wherever it verified

unrefused : (a : Outcome) (why : Reason) → IsTaken a → and_then a Accepted ≡ Refused why → ⊥
unrefused a why (inl s) t = let e : and_then Accepted Accepted ≡ Refused why = subst (λ (x : Outcome). and_then x Accepted ≡ Refused why) s t in cc e
unrefused a why (inr s) t = let e : and_then Answered Accepted ≡ Refused why = subst (λ (x : Outcome). and_then x Accepted ≡ Refused why) s t in cc e

message_has : (d : Domain) (n : Node) (h : List Act) (k : KeyMessage) (p : Node) (m : Message) (facts : Facts) (a : Outcome) (why : Reason) → Awaited p h k m → IsTaken a → and_then a (key_further d n h p k m facts) ≡ Refused why
    → (s : Seal) × (message_seal d n h k m (Some p) ≡ Some s)
message_has d n h k p M2 facts a why (Is_m2 e w) t s = (frame_seal (ptk (inputs_at d n p (r0kh_id d n) (own w.0) k.fields.nonce)).kck k.octets, ap (option_map (λ (part : List Act). frame_seal (ptk (inputs_at d n p (r0kh_id d n) (own part) k.fields.nonce)).kck k.octets)) w.1)
message_has d n h k p M2 facts a why (Is_m1 e w) t s = absurd (cc e)
message_has d n h k p M2 facts a why (Is_opening_m1 e w) t s = absurd (cc e)
message_has d n h k p M2 facts a why (Is_m3 e w) t s = absurd (cc e)
message_has d n h k p M2 facts a why (Is_m4 e w) t s = absurd (cc e)
message_has d n h k p M3 facts a why (Is_m3 e w) t s = (frame_seal w.0.key.ptk.kck k.octets, ap (option_map (λ (y : Keying). frame_seal y.key.ptk.kck k.octets)) w.1)
message_has d n h k p M3 facts a why (Is_m1 e w) t s = absurd (cc e)
message_has d n h k p M3 facts a why (Is_opening_m1 e w) t s = absurd (cc e)
message_has d n h k p M3 facts a why (Is_m2 e w) t s = absurd (cc e)
message_has d n h k p M3 facts a why (Is_m4 e w) t s = absurd (cc e)
message_has d n h k p M2 facts a why (Is_g1 e w) t s = absurd (cc e)
message_has d n h k p M2 facts a why (Is_g2 e w) t s = absurd (cc e)
message_has d n h k p M3 facts a why (Is_g1 e w) t s = absurd (cc e)
message_has d n h k p M3 facts a why (Is_g2 e w) t s = absurd (cc e)
message_has d n h k p G1 facts a why (Is_g1 e w) t s = (frame_seal w.0.ptk.kck k.octets, ap (option_map (λ (x : Derivation). frame_seal x.ptk.kck k.octets)) w.1)
message_has d n h k p G1 facts a why (Is_m1 e w) t s = absurd (cc e)
message_has d n h k p G1 facts a why (Is_opening_m1 e w) t s = absurd (cc e)
message_has d n h k p G1 facts a why (Is_m2 e w) t s = absurd (cc e)
message_has d n h k p G1 facts a why (Is_m3 e w) t s = absurd (cc e)
message_has d n h k p G1 facts a why (Is_m4 e w) t s = absurd (cc e)
message_has d n h k p G1 facts a why (Is_g2 e w) t s = absurd (cc e)
message_has d n h k p M1 facts a why w t s = absurd (unrefused a why t s)
message_has d n h k p M4 facts a why w t s = absurd (unrefused a why t s)
message_has d n h k p G2 facts a why w t s = absurd (unrefused a why t s)

second : (b c : Bool) → (b && c) ≡ true → c ≡ true
second true c s = s
second false c s = absurd (cc s)

-- what has a MIC is no request for authentication
mic_free : (r : Reading) → is_with_mic r ≡ true → IsFree r
mic_free (Managed b e) s = λ k. absurd (cc (sym (ap (λ (v : Kind). is_covered v b e) k) ∙ s))
mic_free (Keyed k) s = tt
mic_free (NoFrame fault) s = tt
mic_free PassedOver s = tt
mic_free (NoElements b fault) s = tt
mic_free (NoKeyFrame header fault) s = tt
mic_free (NoMessage header) s = tt
mic_free (Sealed header way tid body) s = tt
mic_free (Acting header body) s = tt

no_and : (b c : Bool) → c ≡ false → (b && c) ≡ true → ⊥
no_and true c f t = cc (f, t)
no_and false c f t = cc t

seal_there : (d : Domain) (first : ℕ) (n : Node) (h : List Act) (r : Reading) (facts : Facts) (why : Reason) → IsTaken (first_verdict d first n h r) → is_past_mic (first_verdict d first n h r) r ≡ true → verdict d first n h r facts ≡ Refused why → (s : Seal) × (seal_in d n h r ≡ Some s)
seal_there d first n h (Keyed k) facts why t past s =
    let behind = taken_from (peer_of d n k.header.a2) (λ p. key_verdict d (first + draws h) n h p k k.message) (taken_behind (not (is_mine d n k.header) || goes_like k.direction (direction n)) reason.NotForMe _ t) in
    let refused = ap (and_then (first_verdict d first n h (Keyed k))) (sym (named_further (peer_of d n k.header.a2) behind.0 (λ p. key_further d n h p k k.message facts) behind.1.0)) ∙ s in
    let has = message_has d n h k behind.0 k.message facts (first_verdict d first n h (Keyed k)) why (key_kind d (first + draws h) n h behind.0 k k.message behind.1.1) t refused in
    (has.0, ap (message_seal d n h k k.message) behind.1.0 ∙ has.1)
seal_there d first n h (Managed b e) facts why t past s = managed_has d first n h b e t (second (comes_so_far (first_verdict d first n h (Managed b e))) (is_covered b.kind b e) past)
seal_there d first n h (Sealed header way tid body) facts why t past s = absurd (no_and (comes_so_far (first_verdict d first n h (Sealed header way tid body))) false refl past)
seal_there d first n h (Acting header body) facts why t past s = absurd (no_and (comes_so_far (first_verdict d first n h (Acting header body))) false refl past)
seal_there d first n h (NoFrame fault) facts why t past s = never (air_reason fault) t
seal_there d first n h PassedOver facts why (inl t) past s = absurd (cc t)
seal_there d first n h PassedOver facts why (inr t) past s = absurd (cc t)
seal_there d first n h (NoElements b fault) facts why t past s = never _ t
seal_there d first n h (NoKeyFrame header fault) facts why t past s = never _ t
seal_there d first n h (NoMessage header) facts why t past s = never _ t

-- the frame has a MIC, and it verified
past_far : (o : Outcome) (r : Reading) → is_past_mic o r ≡ true → comes_so_far o ≡ true
past_far Accepted r s = refl
past_far Answered r s = refl
past_far _ r s = absurd (cc s)

no_mic : (o : Outcome) (r : Reading) → is_with_mic r ≡ false → is_past_mic o r ≡ true → ⊥
no_mic o r none s = no_and (comes_so_far o) (is_with_mic r) none s

uncovered : (r : Reading) (b : Management) (e : ElementFields) (k : Kind) → r ≡ Managed b e → b.kind ≡ k → is_covered k b e ≡ false → is_with_mic r ≡ false
uncovered r b e k is kind_is none = ap is_with_mic is ∙ ap (λ (v : Kind). is_covered v b e) kind_is ∙ none

keyed_mic : (r : Reading) (k : KeyMessage) (m : Message) → r ≡ Keyed k → k.message ≡ m → has_mic m ≡ false → is_with_mic r ≡ false
keyed_mic r k m is message_is none = ap is_with_mic is ∙ ap has_mic message_is ∙ none

not_ignored : (o b : Outcome) → comes_so_far o ≡ true → and_then o b ≡ Ignored → ⊥
not_ignored Accepted (Refused why) s t = cc t
not_ignored Accepted _ s t = cc t
not_ignored Answered (Refused why) s t = cc t
not_ignored Answered _ s t = cc t
not_ignored _ b s t = cc s

-- an act at the head of a group
at_head : (from who : Option Node) (octets : List ℕ) (k m : Kind) (o u : Outcome) (s : Seal) (rest g : List Act) → from ≡ who → k ≡ m → o ≡ u → g ≡ Took who octets m u (Some s) ∷ rest → In (Took from octets k o (Some s)) g
at_head from who octets k m o u s rest g same kinds outcomes says =
    subst (λ (x : List Act). In (Took from octets k o (Some s)) x) (sym says) (inl (cc (same, kinds, outcomes)))

abbrev HasNoted : Domain → ℕ → Node → List Act → List ℕ → Reading → Facts → List Act → Type 0
HasNoted d first n h octets r facts g = (s : Seal) × In (Took (sender d n r) octets (kind_of r) (verdict d first n h r facts) (Some s)) g

kind_is : (r : Reading) (k : KeyMessage) (m : Message) → r ≡ Keyed k → k.message ≡ m → kind_of r ≡ kind.Key m
kind_is r k m is message_is = ap kind_of is ∙ ap (λ (x : Message). kind.Key x) message_is

managed_kind : (r : Reading) (b : Management) (e : ElementFields) (m : Kind) → r ≡ Managed b e → b.kind ≡ m → kind_of r ≡ m
managed_kind r b e m is same = ap kind_of is ∙ same

has_noted : (d : Domain) (first : ℕ) (n : Node) (h : List Act) (octets : List ℕ) (r : Reading) (facts : Facts) (g : List Act) → TakeRows (here d first n) h octets r facts g
    → is_past_mic (first_verdict d first n h r) r ≡ true → HasNoted d first n h octets r facts g
has_noted d first n h octets r facts g (By_assoc_req row) s = absurd (no_mic (first_verdict d first n h r) r (uncovered r row.b row.e kind.AssocReq row.is row.kind_is refl) s)
has_noted d first n h octets r facts g (By_assoc_resp row) s = absurd (no_mic (first_verdict d first n h r) r (uncovered r row.b row.e kind.AssocResp row.is row.kind_is refl) s)
has_noted d first n h octets r facts g (By_ft_req row) s = absurd (no_mic (first_verdict d first n h r) r (uncovered r row.b row.e kind.FtReq row.is row.kind_is refl) s)
has_noted d first n h octets r facts g (By_repeated_ft_req row) s = absurd (no_mic (first_verdict d first n h r) r (uncovered r row.b row.e kind.FtReq row.is row.kind_is refl) s)
has_noted d first n h octets r facts g (By_ft_resp row) s = absurd (no_mic (first_verdict d first n h r) r (uncovered r row.b row.e kind.FtResp row.is row.kind_is refl) s)
has_noted d first n h octets r facts g (By_re_req row) s =
    let seal = request_has d first n h r row.b row.e row.p row.is row.kind_is row.from (accepted_first d first n h r facts row.accepted) (second (comes_so_far (first_verdict d first n h r)) (is_with_mic r) s) in (
      seal.0,
      at_head (sender d n r) (Some row.p) octets (kind_of r) kind.ReReq _ Accepted seal.0 _ g row.from (managed_kind r row.b row.e kind.ReReq row.is row.kind_is) row.accepted
          (row.says ∙ ap (λ (x : Option Seal). Took (Some row.p) octets kind.ReReq Accepted x ∷ close_session row.p (session row.p h)
          ++ Installed (One row.p) (Pairwise row.x.ptk.tk row.x.inputs) ∷ Finished row.p row.x.inputs
          ∷ sent_re_resp d n row.p row.y.by_.r1_name row.x (re_resp_fte d n row.x (news d h)) ∷ []) seal.1),
    )
has_noted d first n h octets r facts g (By_repeated_re_req row) s =
    let seal = request_has d first n h r row.b row.e row.p row.is row.kind_is row.from (answered_first d first n h r facts row.answered) (second (comes_so_far (first_verdict d first n h r)) (is_with_mic r) s) in (
      seal.0,
      at_head (sender d n r) (Some row.p) octets (kind_of r) kind.ReReq _ Answered seal.0 _ g row.from (managed_kind r row.b row.e kind.ReReq row.is row.kind_is) row.answered
          (row.says ∙ ap (λ (x : Option Seal). Took (Some row.p) octets kind.ReReq Answered x ∷ sent_again row.p kind.ReResp (first_stored row.p kind.ReResp (since_finished row.p h))) seal.1),
    )
has_noted d first n h octets r facts g (By_re_resp row) s =
    let seal = response_has d first n h r row.b row.e row.p row.is row.kind_is row.from (accepted_first d first n h r facts row.accepted) (second (comes_so_far (first_verdict d first n h r)) (is_with_mic r) s) in (
      seal.0,
      at_head (sender d n r) (Some row.p) octets (kind_of r) kind.ReResp _ Accepted seal.0 _ g row.from (managed_kind r row.b row.e kind.ReResp row.is row.kind_is) row.accepted
          (row.says ∙ ap (λ (x : Option Seal). Took (Some row.p) octets kind.ReResp Accepted x ∷ close_associated (associated h)
          ++ Installed (One row.p) (Pairwise row.x.ptk.tk row.x.inputs) ∷ (give_all d row.p (mac d row.p) (keys_by row.e.fte facts) h ++ Finished row.p row.x.inputs ∷ [])) seal.1),
    )
has_noted d first n h octets r facts g (By_m1 row) s = absurd (no_mic (first_verdict d first n h r) r (keyed_mic r row.k M1 row.is row.message_is refl) s)
has_noted d first n h octets r facts g (By_opening_m1 row) s = absurd (no_mic (first_verdict d first n h r) r (keyed_mic r row.k M1 row.is row.message_is refl) s)
has_noted d first n h octets r facts g (By_m2 row) s = (_, at_head (sender d n r) (Some row.p) octets (kind_of r) (kind.Key M2) _ Accepted _ _ g row.from (kind_is r row.k M2 row.is row.message_is) row.accepted row.says)
has_noted d first n h octets r facts g (By_m3 row) s = (_, at_head (sender d n r) (Some row.p) octets (kind_of r) (kind.Key M3) _ Accepted _ _ g row.from (kind_is r row.k M3 row.is row.message_is) row.accepted row.says)
has_noted d first n h octets r facts g (By_repeated_m3 row) s = (_, at_head (sender d n r) (Some row.p) octets (kind_of r) (kind.Key M3) _ Answered _ _ g row.from (kind_is r row.k M3 row.is row.message_is) row.answered row.says)
has_noted d first n h octets r facts g (By_m4 row) s = (_, at_head (sender d n r) (Some row.p) octets (kind_of r) (kind.Key M4) _ Accepted _ _ g row.from (kind_is r row.k M4 row.is row.message_is) row.accepted row.says)
has_noted d first n h octets r facts g (By_g1 row) s = (_, at_head (sender d n r) (Some row.p) octets (kind_of r) (kind.Key G1) _ Accepted _ _ g row.from (kind_is r row.k G1 row.is row.message_is) row.accepted row.says)
has_noted d first n h octets r facts g (By_g2 row) s = (_, at_head (sender d n r) (Some row.p) octets (kind_of r) (kind.Key G2) _ Accepted _ _ g row.from (kind_is r row.k G2 row.is row.message_is) row.accepted row.says)
has_noted d first n h octets r facts g (By_data row) s = absurd (no_mic (first_verdict d first n h r) r (ap is_with_mic row.is) s)
has_noted d first n h octets r facts g (By_action row) s = absurd (no_mic (first_verdict d first n h r) r (ap is_with_mic row.is) s)
has_noted d first n h octets r facts g (By_ignored row) s = absurd (not_ignored (first_verdict d first n h r) (further d first n h r facts) (past_far (first_verdict d first n h r) r s) row.ignored)
has_noted d first n h octets r facts g (By_refusal row) s =
    let far : comes_so_far (first_verdict d first n h r) ≡ true = past_far (first_verdict d first n h r) r s in
    let seal = seal_there d first n h r facts row.why (far_taken (first_verdict d first n h r) far) s row.refused in
    let is : refused_seal d first n h r ≡ Some seal.0 = ap (λ (b : Bool). cond b (seal_in d n h r) None) far ∙ seal.1 in (
      seal.0,
      at_head (sender d n r) (sender d n r) octets (kind_of r) (kind_of r) _ (Refused row.why) seal.0 _ g refl refl row.refused
          (row.says ∙ ap (λ (x : Option Seal). Took (sender d n r) octets (kind_of r) (Refused row.why) x ∷ refused_look n (sender d n r) r facts.pulled row.why ++ response d n (sender d n r) (kind_of r) row.why) is),
    )

-- what stands among the acts of the event stands among all
pub among_all : (d : Domain) (n : Node) (h acts : List Act) (x : Act) → In x acts → In x (and_switch d n h acts)
among_all d (Sta s) h acts x there = there
among_all d (Ap a) h acts x there = go acts there
  where
    go : (g : List Act) → In x g → In x (g ++ switch_acts d a (add acts h))
    go [] none = absurd none
    go (e ∷ g) (inl here) = inl here
    go (e ∷ g) (inr later) = inr (go g later)

verified_taken : (d : Domain) (first : ℕ) (n : Node) (h : List Act) (octets : List ℕ) (r : Reading) (facts : Facts) (g : List Act) → ReadsAt d octets r → Knows d first n h r facts → TakeRow (here d first n) h octets g
    → is_past_mic (first_verdict d first n h r) r ≡ true → HasNoted d first n h octets r facts g
verified_taken d first n h octets r facts g reads knows row s =
    let x = row.facts.pulled in
    let rows = some_rows d first n h octets r (with_pulled facts x) in
    let free = mic_free r (second (comes_so_far (first_verdict d first n h r)) (is_with_mic r) s) in
    let same : g ≡ rows.0 = take_by d first n h octets g rows.0 row (record { r = r; reads = reads; facts = with_pulled facts x; knows = λ far. knows_from d n h r facts x (knows far); row = rows.1 }) refl in
    let w = has_noted d first n h octets r (with_pulled facts x) rows.0 rows.1 s in (
      w.0,
      subst (λ (l : List Act). In (Took (sender d n r) octets (kind_of r) (verdict d first n h r facts) (Some w.0)) l) (sym same)
          (subst (λ (o : Outcome). In (Took (sender d n r) octets (kind_of r) o (Some w.0)) rows.0) (verdict_free d first n h r facts x free) w.1),
    )

pub verified_noted : (d : Domain) (first : ℕ) (n : Node) (h : List Act) (octets : List ℕ) (r : Reading) (facts : Facts) (g : List Act) → ReadsAt d octets r → Knows d first n h r facts → Adds (here d first n) h (Take octets) g
    → is_past_mic (first_verdict d first n h r) r ≡ true → HasNoted d first n h octets r facts g
verified_noted d first n h octets r facts g reads knows adds s =
    let w = verified_taken d first n h octets r facts adds.acts reads knows adds.row s in
    (w.0, subst (λ (x : List Act). In (Took (sender d n r) octets (kind_of r) (verdict d first n h r facts) (Some w.0)) x) (sym adds.is) (among_all d n h adds.acts _ w.1))

-- what data that is accepted had sealed is noted
data_taken : (d : Domain) (first : ℕ) (n : Node) (h : List Act) (octets : List ℕ) (header : HeaderFields) (way : Direction) (tid : Option ℕ) (body : List ℕ) (facts : Facts) (g : List Act)
    → ReadsAt d octets (Sealed header way tid body) → Knows d first n h (Sealed header way tid body) facts → TakeRow (here d first n) h octets g → verdict d first n h (Sealed header way tid body) facts ≡ Accepted
    → (s : Seal) × In (Took (peer_of d n header.a2) octets kind.Data Accepted (Some s)) g
data_taken d first n h octets header way tid body facts g reads knows row accepted =
    let x = row.facts.pulled in
    let o = payload_in d first n h header way tid body (with_pulled facts x) accepted in
    let seal : Seal = data_seal o.k.key header.octets (packet_number body) o.plain in
    let rows : HasRow d first n h octets (Sealed header way tid body) (with_pulled facts x) = (_, By_data (record { header = header; way = way; tid = tid; body = body; is = refl; p = o.p; from = o.from; accepted = accepted; k = o.k; under = o.under; plain = o.plain; opened = o.opened; says = refl })) in
    let same : g ≡ rows.0 = take_by d first n h octets g rows.0 row (record { r = Sealed header way tid body; reads = reads; facts = with_pulled facts x; knows = knows; row = rows.1 }) refl in
    (seal, subst (λ (l : List Act). In (Took (peer_of d n header.a2) octets kind.Data Accepted (Some seal)) l) (sym same) (inl (ap (λ (y : Option Node). Took y octets kind.Data Accepted (Some seal)) o.from)))

pub data_noted : (d : Domain) (first : ℕ) (n : Node) (h : List Act) (octets : List ℕ) (header : HeaderFields) (way : Direction) (tid : Option ℕ) (body : List ℕ) (facts : Facts) (g : List Act)
    → ReadsAt d octets (Sealed header way tid body) → Knows d first n h (Sealed header way tid body) facts → Adds (here d first n) h (Take octets) g → verdict d first n h (Sealed header way tid body) facts ≡ Accepted
    → (s : Seal) × In (Took (peer_of d n header.a2) octets kind.Data Accepted (Some s)) g
data_noted d first n h octets header way tid body facts g reads knows adds accepted =
    let w = data_taken d first n h octets header way tid body facts adds.acts reads knows adds.row accepted in
    (w.0, subst (λ (x : List Act). In (Took (peer_of d n header.a2) octets kind.Data Accepted (Some w.0)) x) (sym adds.is) (among_all d n h adds.acts _ w.1))
