-- Each way in which a supplicant takes M1, and messages that nothing awaits.
use Rattle.std.proofs.Common.{◌+◌, ◌≡◌, ◌≢◌, ℕ, true, false, cond, List, [], ◌∷◌, Option, Some, None, refl, sym, ap, subst, ◌∙◌}
use Rattle.std.specs.Prelude.{Bool, is_some, unwrap_or, nat_lt, if◌then◌else◌}
use Rattle.domain_base.specs.declared.names.Akm.{Akm}
use Rattle.domain_base.specs.declared.names.Akm.TheVariants.{Psk, PskSha256, FtPsk}
use Rattle.rsn_elements.specs.Elements.{ElementFields}
use Rattle.eapol_key.specs.Octets.{frame_octets}
use Rattle.eapol_key.specs.Sealed.{sealed}
use Rattle.eapol_key.specs.Sent.{sent_fields}
use Rattle.domain_base.specs.declared.names.Node.{Node}
use Rattle.domain_base.specs.declared.names.Node.TheVariants.{Ap, Sta}
use Rattle.eapol_key.specs.declared.frame.KeyFrame.{KeyFrame}
use Rattle.eapol_key.specs.declared.messages.Message.{Message}
use Rattle.eapol_key.specs.declared.messages.Message.TheVariants.{M1, M2, M3, G1}
use Rattle.eapol_key.specs.KeyFrame.{KeyFields}
use Rattle.eapol_key.specs.Fields.{fields_of}
use Rattle.key_hierarchy.specs.Keys.{ptk}
use Rattle.key_hierarchy.specs.declared.inputs.Ptk.{Ptk}
use Rattle.run_journal.specs.declared.domain.Domain.{Domain}
use Rattle.run_journal.specs.declared.acts.Kind.TheVariants as kind
use Rattle.run_journal.specs.declared.acts.Reason.{Reason}
use Rattle.run_journal.specs.declared.acts.Reason.TheVariants as reason
use Rattle.run_journal.specs.declared.acts.Outcome.{Outcome}
use Rattle.run_journal.specs.declared.acts.Outcome.TheVariants.{Accepted, Refused}
use Rattle.run_journal.specs.declared.acts.Seal.{Seal}
use Rattle.run_journal.specs.declared.acts.Act.{Act}
use Rattle.run_journal.specs.declared.acts.Act.TheVariants.{Took, Derived}
use Rattle.run_journal.specs.declared.reply.Reply.{Reply}
use Rattle.run_journal.specs.declared.reply.Keyed.{Keyed}
use Rattle.run_journal.specs.Replies.{IsEmpty, IsWhole}
use Rattle.run_journal.specs.Questions.{attempt, since, chain, own_nonce, heard, draws, add}
use Rattle.key_hierarchy.specs.declared.inputs.Inputs.{Inputs}
use Rattle.domain_rules.specs.Network.{peer_of, draw_end, inputs, Root, root_by, root_at, inputs_at, station_of}
use Rattle.domain_rules.specs.Facts.{Facts}
use Rattle.domain_rules.specs.TransitionKeyData.{responded_fte, responded_r0kh_id}
use Rattle.domain_rules.specs.Frames.{sent_sealed, sent_m2_key_data, sent_m2_by, keyed_by}
use Rattle.domain_rules.specs.Reading.{KeyMessage, Keyed as KeyedReading}
use Rattle.domain_rules.specs.Replies.{key_by, IsMessageFrom, inputs_by}
use Rattle.domain_rules.specs.Verdict.{comes_so_far, ComesSoFar, KnowsOf, KnowsResponse, and_then, further, first_verdict, key_verdict}
use Rattle.domain_rules.specs.Asking.{start_of, is_by_renewal, kept_counter, above, own}
use Rattle.domain_rules.specs.StationKeys.{opens_renewal, m1_verdict_in, m1_verdict}
use Rattle.domain_rules.specs.Rows.{TakeRow, seal_in, refused_seal, By_m1, By_refusal}
use Rattle.domain_rules.specs.Closing.{sender}
use Rattle.domain_rules.specs.Here.{here}
use Rattle.domain_rules.proofs.Refused.{no_facts}
use Rattle.frame_making.specs.Mobile.{Mobility}
use Rattle.frame_making.specs.KeyData.{IsMobility}
use Rattle.run_journal.specs.Acts.{Derivation}
use Rattle.domain_rules.proofs.Verdicts.{m1-in}
use Rattle.group_key.specs.Keys.{Memories}
use Rattle.node_base.specs.PairwiseKeys.{IsKeyOf}
use Rattle.node_base.proofs.EndsKeys.{key_is, is_key_of}
use Rattle.domain_rules.proofs.Parts.{since_part, chain_part}
use Rattle.domain_rules.proofs.Starts.{renewal_is, connect_no_renewal}
use Rattle.supplicant.specs.declared.attempt.Attempt.{Attempt}
use Rattle.supplicant.specs.declared.session.Session.{Session}
use Rattle.supplicant.specs.State.{State, having, both}
use Rattle.supplicant.specs.Held.{counter_in}
use Rattle.supplicant.specs.M3.{IsAbove, IsNotAbove}
use Rattle.supplicant.specs.Stands.{SupplicantStands, IsTrying, HasAttempt, HasSession, IsBased, Responds}
use Rattle.supplicant.specs.Bases.{fte_in, RenewsWhere}
use Rattle.supplicant.specs.declared.base.Base.{Base}
use Rattle.supplicant.specs.Told.{IsSilent, verifies, derives}
use Rattle.supplicant.specs.Exchange.{Answers}
use Rattle.supplicant.specs.Taken.{OpensNone, IsTaken}
use Rattle.supplicant.proofs.Telling.{steps_by, tells_silent, empty_silent, whole_silent}
use Rattle.supplicant.proofs.Standing.{stands_refused}
use Rattle.supplicant.proofs.KeyDataRead.{low_counter, high_counter}
use Rattle.supplicant.proofs.G1Read.{session_of}
use Rattle.supplicant.proofs.Keyings.{based_held}
use Rattle.supplicant.proofs.Replying.{replying_acts, under_way_replied, renewing_replied, holds_replied}
use Rattle.supplicant.proofs.Remembering.{remembers_took, remembers_replied}

-- ---- a refusal before the MIC

unsealed : (d : Domain) (first sta : ℕ) (h : List Act) (k : KeyMessage) (why : Reason) → first_verdict d first (Sta sta) h (KeyedReading k) ≡ Refused why → refused_seal d first (Sta sta) h (KeyedReading k) ≡ None
unsealed d first sta h k why is = ap (λ (o : Outcome). cond (comes_so_far o) (seal_in d (Sta sta) h (KeyedReading k)) None) is

pub adds_refused : (d : Domain) (first sta : ℕ) (p : Node) (octets : List ℕ) (k : KeyMessage) (h : List Act) (why : Reason) → IsMessageFrom d (Sta sta) p octets k → first_verdict d first (Sta sta) h (KeyedReading k) ≡ Refused why
    → TakeRow (here d first (Sta sta)) h octets (Took (Some p) octets (kind.Key k.message) (Refused why) None ∷ [])
adds_refused d first sta p octets k h why from is = record {
  r = KeyedReading k;
  reads = from.reads;
  facts = no_facts;
  knows = λ so. absurd (subst ComesSoFar is so);
  row = By_refusal (record {
    why = why;
    refused = ap (λ (o : Outcome). and_then o (further d first (Sta sta) h (KeyedReading k) no_facts)) is;
    says = ap (λ (f : Option Node). Took f octets (kind.Key k.message) (Refused why) None ∷ []) (sym from.from)
        ∙ ap (λ (s : Option Seal). Took (sender d (Sta sta) (KeyedReading k)) octets (kind.Key k.message) (Refused why) s ∷ []) (sym (unsealed d first sta h k why is));
  });
}

-- where nothing is told
pub taken_refused : (m : Message) (f : KeyFrame) (s : State) (ks : Memories) (why : Reason) (r : Reply) → IsSilent r → r.verified ≡ None
    → ((d : Domain) (first sta a : ℕ) (octets : List ℕ) (k : KeyMessage) (h : List Act) → SupplicantStands d (Sta sta) (Ap a) s h → IsMessageFrom d (Sta sta) (Ap a) octets k → k.message ≡ m → k.fields ≡ fields_of f → k.octets ≡ f.octets.now
    → OpensNone m d h (Ap a) → first_verdict d first (Sta sta) h (KeyedReading k) ≡ Refused why)
    → IsTaken m f (both s ks) (both s ks) (Refused why) r
taken_refused m f s ks why r silent plain verdict_is = record {
  steps = λ d first sta a octets k h st remembers from is fields are opens.
      steps_by d first (Sta sta) (Ap a) octets k (is_some s.session) (both s ks) (Refused why) r h (Took (Some (Ap a)) octets (kind.Key k.message) (Refused why) None ∷ [])
      (verifies None) (tells_silent (Ap a) r None silent plain) tt refl
      (adds_refused d first sta (Ap a) octets k h why from (verdict_is d first sta a octets k h st from is fields are opens))
      (stands_refused d (Sta sta) (Ap a) s octets (kind.Key k.message) why None h st)
      (remembers_took (Ap a) (Ap a) octets (kind.Key k.message) (Refused why) None ks h remembers);
  refused = λ w e. (refl, silent.installed);
  whole = whole_silent r silent;
  ends = (refl, refl);
  ids = λ ids. ids;
}

-- ---- other messages

key_other : (d : Domain) (drawn sta : ℕ) (h : List Act) (p : Node) (k : KeyMessage) (m : Message) → m ≢ M1 → m ≢ M3 → m ≢ G1 → key_verdict d drawn (Sta sta) h p k m ≡ Refused reason.Unawaited
key_other d drawn sta h p k M1 other more last = absurd (other refl)
key_other d drawn sta h p k M3 other more last = absurd (more refl)
key_other d drawn sta h p k G1 other more last = absurd (last refl)
key_other d drawn sta h p k _ other more last = refl

pub taken_other : (m : Message) (f : KeyFrame) (s : State) (ks : Memories) (r : Reply) → IsEmpty r → m ≢ M1 → m ≢ M3 → m ≢ G1 → IsTaken m f (both s ks) (both s ks) (Refused reason.Unawaited) r
taken_other m f s ks r empty other more last = taken_refused m f s ks reason.Unawaited r (empty_silent r empty) empty.verified
    (λ d first sta a octets k h st from is fields are opens. from.verdict_is first h ∙ ap (λ (x : Message). key_verdict d (first + draws h) (Sta sta) h (Ap a) k x) is ∙ key_other d (first + draws h) sta h (Ap a) k m other more last)

-- ---- M1 where no attempt is under way

pub m1_is : (d : Domain) (first sta : ℕ) (p : Node) (octets : List ℕ) (k : KeyMessage) (h : List Act) → IsMessageFrom d (Sta sta) p octets k → k.message ≡ M1 → first_verdict d first (Sta sta) h (KeyedReading k) ≡ m1_verdict d (first + draws h) h p k
m1_is d first sta p octets k h from is = from.verdict_is first h ∙ ap (λ (x : Message). key_verdict d (first + draws h) (Sta sta) h p k x) is

m1_nowhere : (d : Domain) (drawn : ℕ) (h : List Act) (p : Node) (k : KeyMessage) → attempt p h ≡ None → opens_renewal d h p ≡ false → m1_verdict d drawn h p k ≡ Refused reason.Unawaited
m1_nowhere d drawn h p k none other = ap (m1_verdict_in d drawn h p k) none
    ∙ ap (λ (b : Bool). if b then above (kept_counter p (chain p h)) k.fields.counter (if nat_lt drawn draw_end then Accepted else Refused reason.Spent) else Refused reason.Unawaited) other

pub m1_unawaited : (f : KeyFrame) (s : State) (ks : Memories) (r : Reply) → IsEmpty r → s.attempt ≡ None → IsTaken M1 f (both s ks) (both s ks) (Refused reason.Unawaited) r
m1_unawaited f s ks r empty none = taken_refused M1 f s ks reason.Unawaited r (empty_silent r empty) empty.verified
    (λ d first sta a octets k h st from is fields are opens. m1_is d first sta (Ap a) octets k h from is ∙ m1_nowhere d (first + draws h) h (Ap a) k (subst (λ (x : Option Attempt). HasAttempt d (Sta sta) (Ap a) s.base s.session x h) none st.attempt_is) opens)

-- ---- M1 in an attempt

-- the attempt is by connect, or renews the key of a session, and M1 is judged by the counter of that
pub record IsAwaited (d : Domain) (sta : ℕ) (p : Node) (b : Base) (x : Option Session) (v : List ℕ) (h : List Act) : Type 0 where
  pub part : List Act
  pub is : attempt p h ≡ Some part
  pub nonce : own_nonce part ≡ Some v
  pub secure : is_by_renewal part ≡ is_some x
  pub based : IsBased d (Sta sta) p b (since p h)
  pub renewed : RenewsWhere (is_some x) d
  pub verdict_is : (drawn : ℕ) (k : KeyMessage) → m1_verdict d drawn h p k ≡ above (counter_in x) k.fields.counter Accepted

awaited : (d : Domain) (sta : ℕ) (p : Node) (b : Base) (x : Option Session) (a : Attempt) (h : List Act) → IsTrying d (Sta sta) p b x a h → HasSession d (Sta sta) p b x h → IsAwaited d sta p b x a.snonce h
awaited d sta p b None a h u none =
    let other : is_by_renewal u.part ≡ false = connect_no_renewal (start_of u.part) u.begun in
    record {
      part = u.part;
      is = u.is;
      nonce = u.nonce;
      secure = other;
      based = subst (IsBased d (Sta sta) p b) (sym (since_part p h u.part u.is)) u.based;
      renewed = tt;
      verdict_is = λ drawn k. m1-in d drawn h p k u.part true None u.is u.begun u.hears (ap (kept_counter p) (chain_part p h u.part u.is other) ∙ u.keeps);
    }
awaited d sta p b (Some z) a h u l = record {
  part = u.part;
  is = u.is;
  nonce = u.nonce;
  secure = u.begun;
  based = based_held d (Sta sta) p b z a.snonce a.key h u l;
  renewed = u.renewed;
  verdict_is = λ drawn k. rw (u.is, renewal_is (start_of u.part) u.begun, (session_of d (Sta sta) p b z h l).keeps) refl;
}

tried_there : (d : Domain) (sta a : ℕ) (s : State) (old : Attempt) (h : List Act) → s.attempt ≡ Some old → SupplicantStands d (Sta sta) (Ap a) s h → IsTrying d (Sta sta) (Ap a) s.base s.session old h
tried_there d sta a s old h has st = subst (λ (o : Option Attempt). HasAttempt d (Sta sta) (Ap a) s.base s.session o h) has st.attempt_is

-- whose counter is too low
pub m1_low : (f : KeyFrame) (s : State) (ks : Memories) (old : Attempt) (was : ℕ) (r : Reply) → IsEmpty r → s.attempt ≡ Some old → IsNotAbove (counter_in s.session) f.counter was → IsTaken M1 f (both s ks) (both s ks) (Refused (reason.Counter was)) r
m1_low f s ks old was r empty has low = taken_refused M1 f s ks (reason.Counter was) r (empty_silent r empty) empty.verified
    (λ d first sta a octets k h st from is fields are opens.
    m1_is d first sta (Ap a) octets k h from is
    ∙ (awaited d sta (Ap a) s.base s.session old h (tried_there d sta a s old h has st) st.session_is).verdict_is (first + draws h) k
    ∙ ap (λ (g : KeyFields). above (counter_in s.session) g.counter Accepted) fields
    ∙ low_counter (counter_in s.session) f.counter was low Accepted)

-- ---- M1 accepted

-- the facts are those of the association response
abbrev pub responded_facts : Option ElementFields → Facts
responded_facts says = record { requested = None; responded = says; unwrapped = None; data_ = None; pulled = None; opened = None; unwrapped_igtk = None; kept = 0 }

-- M1 has nothing more to be known
plain_m1 : (akm : Akm) (h : List Act) (p : Node) (k : KeyMessage) (facts : Facts) → KnowsOf akm h p M1 k facts
plain_m1 akm h p k facts = tt

response_by : (akm : Akm) (h : List Act) (p : Node) (b : Base) (says : Option ElementFields) → Responds akm (heard p kind.AssocResp (since p h)) says b → KnowsResponse akm h p M1 (responded_facts says)
response_by Psk h p b says responds = tt
response_by PskSha256 h p b says responds = tt
response_by FtPsk h p b says responds = responds.0

pub knows_m1 : (d : Domain) (h : List Act) (k : KeyMessage) (p q : Node) (says : Option ElementFields) → k.message ≡ M1 → p ≡ q → KnowsResponse d.akm h p M1 (responded_facts says)
    → KnowsOf d.akm h q k.message k (responded_facts says) × KnowsResponse d.akm h q k.message (responded_facts says)
knows_m1 d h k p q says is same knows = rw (is, ← same) (plain_m1 d.akm h p k (responded_facts says), knows)

-- the R0KH-ID and the FTE of the response are those of the base
id_by : (akm : Akm) (octets : Option (List ℕ)) (says : Option ElementFields) (b : Base) (d : Domain) (s : Node) → Responds akm octets says b → root_by akm d s b.r0kh_id ≡ root_by akm d s (responded_r0kh_id says)
id_by Psk octets says b d s responds = refl
id_by PskSha256 octets says b d s responds = refl
id_by FtPsk octets says b d s responds = ap (root_by FtPsk d s) responds.2

fte_by : (akm : Akm) (octets : Option (List ℕ)) (says : Option ElementFields) (b : Base) (d : Domain) (x : Derivation) → Responds akm octets says b
    → sent_m2_key_data akm d x (fte_in b) ≡ sent_m2_key_data akm d x (unwrap_or (responded_fte says) [])
fte_by Psk octets says b d x responds = refl
fte_by PskSha256 octets says b d x responds = refl
fte_by FtPsk octets says b d x responds = ap (sent_m2_key_data FtPsk d x) (sym (ap (λ (o : Option (List ℕ)). unwrap_or o []) responds.1))

abbrev pub with_data : Domain → Node → Node → Derivation → ℕ → List ℕ → Act
with_data d n p x counter data_ = sent_sealed d n p M2 x.ptk.kck (sealed d.akm x.ptk.kck (frame_octets (sent_fields M2 d.akm counter x.inputs.snonce 0 data_)))

m2_by : (secure : Bool) (d : Domain) (n p : Node) (x : Derivation) (counter : ℕ) (octets : Option (List ℕ)) (says : Option ElementFields) (b : Base) → Responds d.akm octets says b
    → sent_m2_by secure d n p x counter (fte_in b) ≡ sent_m2_by secure d n p x counter (unwrap_or (responded_fte says) [])
m2_by false d n p x counter octets says b responds = ap (with_data d n p x counter) (fte_by d.akm octets says b d x responds)
m2_by true d n p x counter octets says b responds = refl

pub accepted_m1 : (d : Domain) (first : ℕ) (n p : Node) (h : List Act) (k : KeyMessage) (facts : Facts) → k.message ≡ M1 → peer_of d n k.header.a2 ≡ Some p → first_verdict d first n h (KeyedReading k) ≡ Accepted
    → and_then (first_verdict d first n h (KeyedReading k)) (further d first n h (KeyedReading k) facts) ≡ Accepted
accepted_m1 d first n p h k facts is from accepted = rw (accepted, from, is) refl

-- what it is behind M1, with that key, and the session beside it
trying_replied : (d : Domain) (n p : Node) (b : Base) (x : Option Session) (old : Attempt) (octets : List ℕ) (y : Keyed) (counter : ℕ) (fte : List ℕ) (h : List Act) → IsTrying d n p b x old h → HasSession d n p b x h
    → IsTrying d n p b x (record { snonce = old.snonce; key = Some y }) (add (replying_acts (is_some x) d n p octets (key_by d (root_at d (station_of n p) b.r0kh_id) n p y) counter fte) h)
    × HasSession d n p b x (add (replying_acts (is_some x) d n p octets (key_by d (root_at d (station_of n p) b.r0kh_id) n p y) counter fte) h)
trying_replied d n p b None old octets y counter fte h u none = (under_way_replied d n p b old.snonce octets old.key y counter fte h u, none)
trying_replied d n p b (Some z) old octets y counter fte h u l = (
  renewing_replied d n p b old.snonce octets old.key y counter fte h u,
  holds_replied d n p b z old.snonce octets old.key (key_by d (root_at d (station_of n p) b.r0kh_id) n p y) counter fte h u l,
)

-- the acts of the reply are those of the row
replied : (secure : Bool) (d : Domain) (n p : Node) (octets : List ℕ) (k : KeyMessage) (z : Derivation) (counter : ℕ) (fte : List ℕ) → k.message ≡ M1 → counter ≡ k.fields.counter
    → Took (Some p) octets (kind.Key k.message) Accepted None ∷ Derived p z.inputs z.ptk ∷ sent_m2_by secure d n p z counter fte ∷ [] ≡ replying_acts secure d n p octets z k.fields.counter fte
replied secure d n p octets k z counter fte is same =
    ap (λ (m : Message). Took (Some p) octets (kind.Key m) Accepted None ∷ Derived p z.inputs z.ptk ∷ sent_m2_by secure d n p z counter fte ∷ []) is
    ∙ ap (λ (x : ℕ). Took (Some p) octets (kind.Key M1) Accepted None ∷ Derived p z.inputs z.ptk ∷ sent_m2_by secure d n p z x fte ∷ []) same

-- what the key is made of is what the attempt and M1 say
pub made_of : (d : Domain) (q r : Root) (sta : ℕ) (p : Node) (y : Keyed) (mine v : List ℕ) (k : KeyMessage) → q ≡ r → y.snonce ≡ v → mine ≡ v → y.anonce ≡ k.fields.nonce
    → inputs_by d q (Sta sta) p y ≡ inputs d r (Sta sta) p mine k.fields.nonce
made_of d q r sta p y mine v k root_is drawn own_is theirs =
    ap (λ (z : Root). inputs d z (Sta sta) p y.snonce y.anonce) root_is ∙ ap (λ (w : List ℕ). inputs d r (Sta sta) p w y.anonce) (drawn ∙ sym own_is) ∙ ap (λ (w : List ℕ). inputs d r (Sta sta) p mine w) theirs

adds_replied : (d : Domain) (first sta : ℕ) (p : Node) (b : Base) (x : Option Session) (octets : List ℕ) (k : KeyMessage) (h : List Act) (v : List ℕ) (y : Keyed) → IsMessageFrom d (Sta sta) p octets k → k.message ≡ M1 → IsAwaited d sta p b x v h → first_verdict d first (Sta sta) h (KeyedReading k) ≡ Accepted
    → y.snonce ≡ v → y.anonce ≡ k.fields.nonce → y.ptk ≡ ptk (inputs_by d (root_at d (Sta sta) b.r0kh_id) (Sta sta) p y)
    → TakeRow (here d first (Sta sta)) h octets (replying_acts (is_some x) d (Sta sta) p octets (key_by d (root_at d (Sta sta) b.r0kh_id) (Sta sta) p y) k.fields.counter (fte_in b))
adds_replied d first sta p b x octets k h v y from is u accepted drawn theirs keyed =
    let says : Option ElementFields = u.based.says in
    let responds : Responds d.akm (heard p kind.AssocResp (since p h)) says b = u.based.responds in
    let facts : Facts = responded_facts says in
    let mine : own u.part ≡ v = ap (λ (o : Option (List ℕ)). unwrap_or o []) u.nonce in
    let i : Inputs = inputs_by d (root_at d (Sta sta) b.r0kh_id) (Sta sta) p y in
    record {
      r = KeyedReading k;
      reads = from.reads;
      facts = facts;
      knows = λ so q peer. knows_m1 d h k p q says is (let mine_is : peer_of d (Sta sta) k.header.a2 ≡ Some p = from.from in let both = sym mine_is ∙ peer in cc) (response_by d.akm h p b says responds);
      row = By_m1 (record {
        k = k;
        is = refl;
        message_is = is;
        p = p;
        from = from.from;
        accepted = accepted_m1 d first (Sta sta) p h k facts is from.from accepted;
        part = u.part;
        awaited = u.is;
        i = i;
        inputs_are = made_of d (root_at d (Sta sta) b.r0kh_id) (root_at d (Sta sta) (responded_r0kh_id says)) sta p y (own u.part) v k (id_by d.akm (heard p kind.AssocResp (since p h)) says b d (Sta sta) responds) drawn mine theirs;
        says = ap (λ (q : Ptk). replying_acts (is_some x) d (Sta sta) p octets (record { inputs = i; ptk = q }) k.fields.counter (fte_in b)) keyed
            ∙ ap (λ (m : Act). Took (Some p) octets (kind.Key M1) Accepted None ∷ Derived p i (ptk i) ∷ m ∷ []) (m2_by (is_some x) d (Sta sta) p (keyed_by i) k.fields.counter (heard p kind.AssocResp (since p h)) says b responds)
            ∙ ap (λ (o : Bool). Took (Some p) octets (kind.Key M1) Accepted None ∷ Derived p i (ptk i) ∷ sent_m2_by o d (Sta sta) p (keyed_by i) k.fields.counter (unwrap_or (responded_fte says) []) ∷ []) (sym u.secure);
      });
    }

-- names of keys do not go back to nonces
pub mobile_by : (d : Domain) (n p : Node) (b : Base) (y : Keyed) (o : Option Mobility) → IsMobility d (inputs_at d n p b.r0kh_id [] []) (fte_in b) o → IsMobility d (inputs_by d (root_at d (station_of n p) b.r0kh_id) n p y) (fte_in b) o
mobile_by d (Ap a) p b y None is = is
mobile_by d (Ap a) p b y (Some m) is = is
mobile_by d (Sta s) p b y None is = is
mobile_by d (Sta s) p b y (Some m) is = is

pub m1_accepted : (f : KeyFrame) (s : State) (ks : Memories) (old new : Attempt) (r : Reply) → s.attempt ≡ Some old → IsAbove (counter_in s.session) f.counter → Answers s.ends s.base f (is_some s.session) old new r → IsWhole r
    → IsTaken M1 f (both s ks) (both (having (Some new) s.session s) ks) Accepted r
m1_accepted f s ks old new r has high answers whole = record {
  steps = λ d first sta a octets k h st remembers from is fields are opens.
      (let y = answers.key in
      let b = s.base in
      let secure : Bool = is_some s.session in
      let u : IsTrying d (Sta sta) (Ap a) b s.session old h = tried_there d sta a s old h has st in
      let w : IsAwaited d sta (Ap a) b s.session old.snonce h = awaited d sta (Ap a) b s.session old h u st.session_is in
      let of : IsKeyOf s.ends b.pmk y = is_key_of s.ends b.pmk f.nonce old.snonce y answers.key_is in
      let keyed : y.ptk ≡ ptk (inputs_by d (root_at d (Sta sta) b.r0kh_id) (Sta sta) (Ap a) y) = key_is d (root_at d (Sta sta) b.r0kh_id) (Sta sta) (Ap a) s.ends b.pmk y st.ends w.based.of.pmk of in
      let drawn : y.snonce ≡ old.snonce = ap (λ (z : Keyed). z.snonce) answers.key_is in
      let nonce_is : y.anonce ≡ k.fields.nonce = ap (λ (z : Keyed). z.anonce) answers.key_is ∙ ap (λ (g : KeyFields). g.nonce) (sym fields) in
      let counter_is : f.counter ≡ k.fields.counter = ap (λ (g : KeyFields). g.counter) (sym fields) in
      let accepted : first_verdict d first (Sta sta) h (KeyedReading k) ≡ Accepted = m1_is d first sta (Ap a) octets k h from is ∙ w.verdict_is (first + draws h) k ∙ ap (λ (c : ℕ). above (counter_in s.session) c Accepted) (sym counter_is) ∙ high_counter (counter_in s.session) f.counter high Accepted in
      let z : Derivation = key_by d (root_at d (Sta sta) b.r0kh_id) (Sta sta) (Ap a) y in
      let acts : List Act = replying_acts secure d (Sta sta) (Ap a) octets z k.fields.counter (fte_in b) in
      let behind = trying_replied d (Sta sta) (Ap a) b s.session old octets y k.fields.counter (fte_in b) h u st.session_is in
      steps_by d first (Sta sta) (Ap a) octets k secure (both (having (Some new) s.session s) ks) Accepted r h acts
      (derives y (sent_m2_by secure d (Sta sta) (Ap a) z f.counter (fte_in b) ∷ [])) (answers.tells d (Sta sta) (Ap a) z st.ends refl refl (mobile_by d (Sta sta) (Ap a) b y b.mobility w.based.of.mobility) w.renewed) tt
      (replied secure d (Sta sta) (Ap a) octets k z f.counter (fte_in b) is counter_is)
      (adds_replied d first sta (Ap a) b s.session octets k h old.snonce y from is w accepted drawn nonce_is keyed)
      (record {
        ends = st.ends;
        attempt_is = subst (λ (x : Attempt). IsTrying d (Sta sta) (Ap a) b s.session x (add acts h)) (sym answers.is) behind.0;
        session_is = behind.1;
      })
      (remembers_replied secure d (Sta sta) (Ap a) octets z k.fields.counter (fte_in b) ks h remembers));
  refused = λ w e. cc;
  whole = whole;
  ends = (refl, refl);
  ids = λ ids. ids;
}
