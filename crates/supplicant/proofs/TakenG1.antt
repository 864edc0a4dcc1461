-- Each way in which a supplicant takes G1.
use Rattle.std.proofs.Common.{◌≡◌, ℕ, ◌+◌, Bool, List, [], ◌∷◌, Option, Some, None, refl, sym, ap, subst, ◌∙◌}
use Rattle.std.specs.Prelude.{nat_lt, ◌++◌, is_some, Result, Ok, Err}
use Rattle.std.specs.List.{AllByRecursion}
use Rattle.std.proofs.lemmas.List.{append-nil}
use Rattle.domain_base.specs.declared.names.Akm.{Akm}
use Rattle.domain_base.specs.declared.names.Akm.TheVariants.{Psk, PskSha256, FtPsk}
use Rattle.domain_base.specs.declared.names.Node.{Node}
use Rattle.domain_base.specs.declared.names.Node.TheVariants.{Ap, Sta}
use Rattle.eapol_key.specs.declared.frame.KeyFrame.{KeyFrame}
use Rattle.eapol_key.specs.declared.messages.Message.{Message}
use Rattle.eapol_key.specs.declared.messages.Message.TheVariants.{G1}
use Rattle.eapol_key.specs.KeyFrame.{KeyFields}
use Rattle.eapol_key.specs.Fields.{fields_of}
use Rattle.run_journal.specs.declared.domain.Domain.{Domain}
use Rattle.run_journal.specs.Events.{protects}
use Rattle.run_journal.specs.declared.acts.Kind.TheVariants as kind
use Rattle.run_journal.specs.declared.acts.Reason.{Reason}
use Rattle.run_journal.specs.declared.acts.Reason.TheVariants as reason
use Rattle.run_journal.specs.declared.acts.Outcome.{Outcome}
use Rattle.run_journal.specs.declared.acts.Outcome.TheVariants.{Accepted, Refused}
use Rattle.run_journal.specs.declared.acts.Seal.{Seal}
use Rattle.run_journal.specs.declared.acts.Act.{Act}
use Rattle.run_journal.specs.declared.acts.Act.TheVariants.{Took}
use Rattle.run_journal.specs.declared.reply.Reply.{Reply}
use Rattle.key_hierarchy.specs.declared.inputs.Ptk.{Ptk}
use Rattle.run_journal.specs.Replies.{IsEmpty, IsWhole}
use Rattle.run_journal.specs.Acts.{Derivation}
use Rattle.run_journal.specs.Questions.{session, draws, add}
use Rattle.run_journal.specs.declared.acts.GroupKind.TheVariants as groups
use Rattle.domain_rules.specs.Network.{mac, peer_of}
use Rattle.domain_rules.specs.Frames.{sent_g2, frame_seal}
use Rattle.domain_rules.specs.GroupKeys.{GivenKeys, give_all}
use Rattle.domain_rules.specs.Asking.{at_least}
use Rattle.domain_rules.specs.Reading.{KeyMessage, Keyed as KeyedReading}
use Rattle.domain_rules.specs.Replies.{group_acts, IsMessageFrom}
use Rattle.domain_rules.specs.Facts.{Facts}
use Rattle.domain_rules.specs.StationKeys.{KnowsM3, g1_verdict, g1_wrapped}
use Rattle.domain_rules.specs.Verdict.{Knows, KnowsOf, KnowsResponse, and_then, first_verdict, key_verdict, verdict}
use Rattle.domain_rules.specs.Rows.{TakeRow, seal_in, message_seal, refused_seal, By_g1, By_refusal}
use Rattle.domain_rules.specs.Closing.{sender}
use Rattle.domain_rules.specs.Here.{here}
use Rattle.domain_rules.proofs.Parts.{IsApart}
use Rattle.domain_rules.proofs.Refused.{far_seal}
use Rattle.domain_rules.proofs.SentReads.{reads-counter, reads-rsc}
use Rattle.group_key.specs.Keys.{Memories}
use Rattle.group_key.specs.Holds.{RemembersAll}
use Rattle.supplicant.specs.declared.session.Session.{Session}
use Rattle.supplicant.specs.declared.key_data.CarriedKeys.{CarriedKeys}
use Rattle.supplicant.specs.State.{State, having, both}
use Rattle.supplicant.specs.Held.{ptk_of, kept_of, counted}
use Rattle.supplicant.specs.Stands.{SupplicantStands, HasAttempt, HasSession, Holds}
use Rattle.supplicant.specs.KeyData.{packet_number_of, came, wrapped_by}
use Rattle.domain_rules.specs.StationRows.{carried_keys}
use Rattle.rsn_elements.specs.Elements.{ElementFields}
use Rattle.supplicant.specs.G1.{under_g1, before_g1_key_data, IsVerifiedG1, IsG1RefusedBefore, IsG1}
use Rattle.supplicant.specs.Told.{IsSilent, verifies, renews}
use Rattle.supplicant.specs.Exchange.{Renews, IsG1Refusal}
use Rattle.supplicant.specs.Taken.{IsTaken}
use Rattle.supplicant.proofs.KeysGiven.{AreGiven, are_given, reads_key_data, TellsOf, tells_of, ids_after, news_act, keys_acts}
use Rattle.supplicant.proofs.Telling.{steps_by, tells_silent, empty_silent, whole_silent}
use Rattle.supplicant.proofs.Standing.{at_least-greater, stands_refused}
use Rattle.supplicant.proofs.Remembering.{remembers_took, remembers_renewed}
use Rattle.supplicant.proofs.Sessions.{apart_gives}
use Rattle.supplicant.proofs.GroupSessions.{renewing_acts, holds_renewed, attempt_renewed}
use Rattle.supplicant.proofs.Keyings.{high_by}
use Rattle.supplicant.proofs.G1Read.{IsSessionOf, session_of, g1_under}
use Rattle.supplicant.proofs.TakenM1.{taken_refused}
use Rattle.supplicant.proofs.TakenM3.{message_reads, facts_of, knows_opened}

g1_is : (d : Domain) (first sta : ℕ) (p : Node) (octets : List ℕ) (k : KeyMessage) (h : List Act) → IsMessageFrom d (Sta sta) p octets k → k.message ≡ G1 → first_verdict d first (Sta sta) h (KeyedReading k) ≡ g1_verdict d h p k
g1_is d first sta p octets k h from is = from.verdict_is first h ∙ ap (λ (m : Message). key_verdict d (first + draws h) (Sta sta) h p k m) is

-- ---- refused before its MIC

g1_none : (d : Domain) (h : List Act) (p : Node) (k : KeyMessage) → session p h ≡ None → g1_verdict d h p k ≡ Refused reason.Unawaited
g1_none d h p k none = rw none refl

pub g1_unawaited : (f : KeyFrame) (s : State) (ks : Memories) (r : Reply) → IsEmpty r → s.session ≡ None → IsTaken G1 f (both s ks) (both s ks) (Refused reason.Unawaited) r
g1_unawaited f s ks r empty none = taken_refused G1 f s ks reason.Unawaited r (empty_silent r empty) empty.verified
    (λ d first sta a octets k h st from is fields are opens. g1_is d first sta (Ap a) octets k h from is
    ∙ g1_none d h (Ap a) k (subst (λ (x : Option Session). HasSession d (Sta sta) (Ap a) s.base x h) none st.session_is))

held_there : (d : Domain) (n p : Node) (s : State) (x : Session) (h : List Act) → s.session ≡ Some x → SupplicantStands d n p s h → Holds d n p s.base x h
held_there d n p s x h is st = subst (λ (z : Option Session). HasSession d n p s.base z h) is st.session_is

there_is : (d : Domain) (n p : Node) (s : State) (x : Session) (h : List Act) → s.session ≡ Some x → SupplicantStands d n p s h → IsSessionOf p (ptk_of x) (kept_of x) h
there_is d n p s x h is st = session_of d n p s.base x h (held_there d n p s x h is st)

-- as the frame was judged, so is its message
refused_as : (protected on : Bool) (akm other : Akm) (q : Ptk) (kept : Option ℕ) (f : KeyFields) (octets : List ℕ) (k : KeyMessage) (r : Result CarriedKeys Reason) → protected ≡ on → akm ≡ other → k.fields ≡ f → k.octets ≡ octets → IsG1RefusedBefore (under_g1 protected akm q kept) f octets r
    → IsG1RefusedBefore (under_g1 on other q kept) k.fields k.octets r
refused_as protected on akm other q kept f octets k r same suite fields are is =
    subst (λ (b : Bool). IsG1RefusedBefore (under_g1 b other q kept) k.fields k.octets r) same
    (subst (λ (a : Akm). IsG1RefusedBefore (under_g1 protected a q kept) k.fields k.octets r) suite
    (subst (λ (g : KeyFields). IsG1RefusedBefore (under_g1 protected akm q kept) g k.octets r) (sym fields)
    (subst (λ (o : List ℕ). IsG1RefusedBefore (under_g1 protected akm q kept) f o r) (sym are) is)))

verified_as : (protected on : Bool) (akm other : Akm) (q : Ptk) (kept : Option ℕ) (f : KeyFields) (octets : List ℕ) (k : KeyMessage) (r : Result CarriedKeys Reason) → protected ≡ on → akm ≡ other → k.fields ≡ f → k.octets ≡ octets → IsVerifiedG1 (under_g1 protected akm q kept) f octets r
    → IsVerifiedG1 (under_g1 on other q kept) k.fields k.octets r
verified_as protected on akm other q kept f octets k r same suite fields are is =
    subst (λ (b : Bool). IsVerifiedG1 (under_g1 b other q kept) k.fields k.octets r) same
    (subst (λ (a : Akm). IsVerifiedG1 (under_g1 protected a q kept) k.fields k.octets r) suite
    (subst (λ (g : KeyFields). IsVerifiedG1 (under_g1 protected akm q kept) g k.octets r) (sym fields)
    (subst (λ (o : List ℕ). IsVerifiedG1 (under_g1 protected akm q kept) f o r) (sym are) is)))

g1_refused : (f : KeyFrame) (s : State) (ks : Memories) (x : Session) (why : Reason) (r : Reply) → s.session ≡ Some x → IsSilent r → r.verified ≡ None
    → IsG1RefusedBefore (under_g1 s.ends.mfp s.ends.akm (ptk_of x) (kept_of x)) (fields_of f) f.octets.now (Err why) → IsTaken G1 f (both s ks) (both s ks) (Refused why) r
g1_refused f s ks x why r has silent plain judged = taken_refused G1 f s ks why r silent plain
    (λ d first sta a octets k h st from is fields are opens.
    (let q = ptk_of x in
    let kept = kept_of x in
    let j : (o : Outcome) → before_g1_key_data (under_g1 (protects d) d.akm q kept) k.fields k.octets o ≡ Refused why = refused_as s.ends.mfp (protects d) s.ends.akm d.akm q kept (fields_of f) f.octets.now k (Err why) st.ends.mfp_is st.ends.akm fields are judged in
    g1_is d first sta (Ap a) octets k h from is ∙ g1_under d (Ap a) h k q kept (there_is d (Sta sta) (Ap a) s x h has st) ∙ j Accepted))

-- ---- what is known where its MIC verified

knows_x : (p : Node) (h : List Act) (k : KeyMessage) (q : Ptk) (kept : Option ℕ) (facts : Facts) → IsSessionOf p q kept h → KnowsM3 q.kek k facts → (z : Derivation) → session p h ≡ Some z → KnowsM3 z.ptk.kek k facts
knows_x p h k q kept facts l knows z is =
    let same : l.x ≡ z = (let both = sym l.is ∙ is in cc) in
    subst (λ (w : Ptk). KnowsM3 w.kek k facts) (sym l.key ∙ ap (λ (w : Derivation). w.ptk) same) knows

-- G1 is not taken by the association response
no_response_g1 : (akm : Akm) (h : List Act) (p : Node) (facts : Facts) → KnowsResponse akm h p G1 facts
no_response_g1 Psk h p facts = tt
no_response_g1 PskSha256 h p facts = tt
no_response_g1 FtPsk h p facts = tt

knows_g1 : (d : Domain) (first sta : ℕ) (h : List Act) (p : Node) (octets : List ℕ) (k : KeyMessage) (q : Ptk) (kept : Option ℕ) (facts : Facts) → IsMessageFrom d (Sta sta) p octets k → k.message ≡ G1 → IsSessionOf p q kept h → KnowsM3 q.kek k facts
    → Knows d first (Sta sta) h (KeyedReading k) facts
knows_g1 d first sta h p octets k q kept facts from is l knows = λ so other peer.
    (let mine : peer_of d (Sta sta) k.header.a2 ≡ Some p = from.from in
    let same : p ≡ other = (let both = sym mine ∙ peer in cc) in (
      subst (λ (m : Message). KnowsOf d.akm h other m k facts) (sym is) (subst (λ (z : Node). (w : Derivation) → session z h ≡ Some w → KnowsM3 w.ptk.kek k facts) same (knows_x p h k q kept facts l knows)),
      subst (λ (m : Message). KnowsResponse d.akm h other m facts) (sym is) (no_response_g1 d.akm h other facts),
    ))

verdict_g1 : (d : Domain) (first : ℕ) (n p : Node) (h : List Act) (k : KeyMessage) (facts : Facts) (o w : Outcome) → peer_of d n k.header.a2 ≡ Some p → k.message ≡ G1 → first_verdict d first n h (KeyedReading k) ≡ o → g1_wrapped d facts.unwrapped facts.data_ ≡ w
    → verdict d first n h (KeyedReading k) facts ≡ and_then o w
verdict_g1 d first n p h k facts o w from is comes wrapped = rw (comes, from, is, wrapped) refl

comes_g1 : (d : Domain) (first sta : ℕ) (p : Node) (octets : List ℕ) (k : KeyMessage) (h : List Act) (q : Ptk) (kept : Option ℕ) (r : Result CarriedKeys Reason) → IsMessageFrom d (Sta sta) p octets k → k.message ≡ G1 → IsSessionOf p q kept h → IsVerifiedG1 (under_g1 (protects d) d.akm q kept) k.fields k.octets r
    → first_verdict d first (Sta sta) h (KeyedReading k) ≡ Accepted
comes_g1 d first sta p octets k h q kept r from is l v = g1_is d first sta p octets k h from is ∙ g1_under d p h k q kept l ∙ v.comes Accepted

seal_g1 : (d : Domain) (sta : ℕ) (h : List Act) (p : Node) (octets : List ℕ) (k : KeyMessage) (q : Ptk) (kept : Option ℕ) → IsMessageFrom d (Sta sta) p octets k → k.message ≡ G1 → IsSessionOf p q kept h
    → seal_in d (Sta sta) h (KeyedReading k) ≡ Some (frame_seal q.kck k.octets)
seal_g1 d sta h p octets k q kept from is l =
    let mine : peer_of d (Sta sta) k.header.a2 ≡ Some p = from.from in
    ap (λ (m : Message). message_seal d (Sta sta) h k m (peer_of d (Sta sta) k.header.a2)) is
    ∙ ap (λ (o : Option Node). message_seal d (Sta sta) h k G1 o) mine
    ∙ rw (l.is) (ap (λ (w : Ptk). Some (frame_seal w.kck k.octets)) l.key)

-- what comes of its key data
g1_said : (d : Domain) (plain : Option (List ℕ)) (says : Option ElementFields) → g1_wrapped d plain says ≡ wrapped_by (protects d) None plain says
g1_said d None says = refl
g1_said d (Some octets) None = refl
g1_said d (Some octets) (Some e) = refl

-- ---- refused after its MIC

adds_sealed : (d : Domain) (first sta : ℕ) (p : Node) (octets : List ℕ) (k : KeyMessage) (h : List Act) (q : Ptk) (kept : Option ℕ) (why : Reason) → IsMessageFrom d (Sta sta) p octets k → k.message ≡ G1 → IsSessionOf p q kept h → IsVerifiedG1 (under_g1 (protects d) d.akm q kept) k.fields k.octets (Err why)
    → TakeRow (here d first (Sta sta)) h octets (Took (Some p) octets (kind.Key k.message) (Refused why) (Some (frame_seal q.kck k.octets)) ∷ [])
adds_sealed d first sta p octets k h q kept why from is l v =
    let comes = comes_g1 d first sta p octets k h q kept (Err why) from is l v in
    let facts : Facts = facts_of None v.opened in
    let sealed : refused_seal d first (Sta sta) h (KeyedReading k) ≡ Some (frame_seal q.kck k.octets) =
    sym (far_seal d first (Sta sta) h (KeyedReading k) Accepted comes refl) ∙ seal_g1 d sta h p octets k q kept from is l in
    record {
      r = KeyedReading k;
      reads = from.reads;
      facts = facts;
      knows = knows_g1 d first sta h p octets k q kept facts from is l (knows_opened (protects d) None q.kek k None (Err why) v.opened);
      row = By_refusal (record {
        why = why;
        refused = verdict_g1 d first (Sta sta) p h k facts Accepted (Refused why) from.from is comes (g1_said d v.opened.plain v.opened.says ∙ v.opened.is);
        says = ap (λ (o : Option Node). Took o octets (kind.Key k.message) (Refused why) (Some (frame_seal q.kck k.octets)) ∷ []) (sym from.from)
            ∙ ap (λ (o : Option Seal). Took (sender d (Sta sta) (KeyedReading k)) octets (kind.Key k.message) (Refused why) o ∷ []) (sym sealed);
      });
    }

g1_sealed : (f : KeyFrame) (s : State) (ks : Memories) (x : Session) (why : Reason) (r : Reply) → s.session ≡ Some x → IsSilent r → r.verified ≡ Some (ptk_of x).kck
    → IsVerifiedG1 (under_g1 s.ends.mfp s.ends.akm (ptk_of x) (kept_of x)) (fields_of f) f.octets.now (Err why) → IsTaken G1 f (both s ks) (both s ks) (Refused why) r
g1_sealed f s ks x why r has silent seal verified = record {
  steps = λ d first sta a octets k h st remembers from is fields are opens.
      (let q : Ptk = ptk_of x in
      let kept : Option ℕ = kept_of x in
      let v : IsVerifiedG1 (under_g1 (protects d) d.akm q kept) k.fields k.octets (Err why) = verified_as s.ends.mfp (protects d) s.ends.akm d.akm q kept (fields_of f) f.octets.now k (Err why) st.ends.mfp_is st.ends.akm fields are verified in
      steps_by d first (Sta sta) (Ap a) octets k (is_some s.session) (both s ks) (Refused why) r h (Took (Some (Ap a)) octets (kind.Key k.message) (Refused why) (Some (frame_seal q.kck k.octets)) ∷ [])
      (verifies (Some q.kck)) (tells_silent (Ap a) r (Some q.kck) silent seal) tt refl
      (adds_sealed d first sta (Ap a) octets k h q kept why from is (there_is d (Sta sta) (Ap a) s x h has st) v)
      (stands_refused d (Sta sta) (Ap a) s octets (kind.Key k.message) why (Some (frame_seal q.kck k.octets)) h st)
      (remembers_took (Ap a) (Ap a) octets (kind.Key k.message) (Refused why) (Some (frame_seal q.kck k.octets)) ks h remembers));
  refused = λ w e. (refl, silent.installed);
  whole = whole_silent r silent;
  ends = (refl, refl);
  ids = λ ids. ids;
}

refused_by_told : (f : KeyFrame) (s : State) (ks : Memories) (x : Session) (why : Reason) (r : Reply) (v : Option (List ℕ)) → r.verified ≡ v → s.session ≡ Some x → IsSilent r
    → IsG1 (under_g1 s.ends.mfp s.ends.akm (ptk_of x) (kept_of x)) (fields_of f) f.octets.now (Err why) v → IsTaken G1 f (both s ks) (both s ks) (Refused why) r
refused_by_told f s ks x why r None plain has silent judged = g1_refused f s ks x why r has silent plain judged
refused_by_told f s ks x why r (Some kck) seal has silent judged = g1_sealed f s ks x why r has silent (seal ∙ ap (λ (z : List ℕ). Some z) judged.0) judged.1

-- as it was refused to a session
pub g1_refusal : (f : KeyFrame) (s : State) (ks : Memories) (x : Session) (why : Reason) (r : Reply) → s.session ≡ Some x → IsG1Refusal s.ends x f why r → IsTaken G1 f (both s ks) (both s ks) (Refused why) r
g1_refusal f s ks x why r has refusal = refused_by_told f s ks x why r r.verified refl has refusal.1 refusal.0

-- ---- accepted

told_renewed : (took g : Act) (ks : List Act) (m : Act) → took ∷ (((g ∷ ks) ++ []) ++ (m ∷ [])) ≡ took ∷ (g ∷ ks ++ m ∷ [])
told_renewed took g ks m = ap (λ (l : List Act). took ∷ g ∷ (l ++ m ∷ [])) (append-nil ks)

renewing : (d : Domain) (n p : Node) (octets : List ℕ) (k : KeyMessage) (s : Seal) (x : Derivation) (g : Act) (ks gives : List Act) (counter : ℕ) → k.message ≡ G1 → g ∷ ks ≡ gives → counter ≡ k.fields.counter
    → Took (Some p) octets (kind.Key k.message) Accepted (Some s) ∷ (((g ∷ ks) ++ []) ++ (sent_g2 d n p x counter ∷ [])) ≡ renewing_acts d n p octets s gives x k.fields.counter
renewing d n p octets k s x g ks gives counter is same number =
    told_renewed (Took (Some p) octets (kind.Key k.message) Accepted (Some s)) g ks (sent_g2 d n p x counter)
    ∙ ap (λ (m : Message). Took (Some p) octets (kind.Key m) Accepted (Some s) ∷ (g ∷ ks ++ sent_g2 d n p x counter ∷ [])) is
    ∙ ap (λ (l : List Act). renewing_acts d n p octets s l x counter) same ∙ ap (renewing_acts d n p octets s gives x) number

adds_renewed : (d : Domain) (first sta : ℕ) (p : Node) (octets : List ℕ) (k : KeyMessage) (h : List Act) (q : Ptk) (kept : Option ℕ) (c : CarriedKeys) → IsMessageFrom d (Sta sta) p octets k → k.message ≡ G1 → (l : IsSessionOf p q kept h) → (v : IsVerifiedG1 (under_g1 (protects d) d.akm q kept) k.fields k.octets (Ok c))
    → TakeRow (here d first (Sta sta)) h octets (renewing_acts d (Sta sta) p octets (frame_seal q.kck k.octets) (give_all d p (mac d p) (carried_keys v.opened.says) h) l.x k.fields.counter)
adds_renewed d first sta p octets k h q kept c from is l v =
    let facts : Facts = facts_of None v.opened in
    record {
      r = KeyedReading k;
      reads = from.reads;
      facts = facts;
      knows = knows_g1 d first sta h p octets k q kept facts from is l (knows_opened (protects d) None q.kek k None (Ok c) v.opened);
      row = By_g1 (record {
        k = k;
        is = refl;
        message_is = is;
        p = p;
        from = from.from;
        accepted = verdict_g1 d first (Sta sta) p h k facts Accepted Accepted from.from is (comes_g1 d first sta p octets k h q kept (Ok c) from is l v) (g1_said d v.opened.plain v.opened.says ∙ v.opened.is.0);
        x = l.x;
        awaited = l.is;
        says = ap (λ (w : Ptk). renewing_acts d (Sta sta) p octets (frame_seal w.kck k.octets) (give_all d p (mac d p) (carried_keys v.opened.says) h) l.x k.fields.counter) (sym l.key);
      });
    }

-- a G1 that comes so far has a counter above the kept one, where one is kept
counter_high : (protected : Bool) (akm : Akm) (q : Ptk) (kept : Option ℕ) (f : KeyFields) (octets : List ℕ) → ((o : Outcome) → before_g1_key_data (under_g1 protected akm q kept) f octets o ≡ o) → at_least f.counter kept ≡ Some f.counter
counter_high protected akm q None f octets comes = refl
counter_high protected akm q (Some kept) f octets comes = at_least-greater kept f.counter (high_by kept f.counter _ (nat_lt kept f.counter) refl (comes Accepted))

stands_renewed : (d : Domain) (sta a : ℕ) (s : State) (old : Session) (octets : List ℕ) (k : KeyMessage) (x : Derivation) (keys : GivenKeys) (h : List Act) → SupplicantStands d (Sta sta) (Ap a) s h → s.session ≡ Some old → IsMessageFrom d (Sta sta) (Ap a) octets k
    → ((o : Outcome) → before_g1_key_data (under_g1 (protects d) d.akm (ptk_of old) (kept_of old)) k.fields k.octets o ≡ o)
    → SupplicantStands d (Sta sta) (Ap a) (having s.attempt (Some (counted k.fields.counter old)) s) (add (renewing_acts d (Sta sta) (Ap a) octets (frame_seal (ptk_of old).kck k.octets) (give_all d (Ap a) (mac d (Ap a)) keys h) x k.fields.counter) h)
stands_renewed d sta a s old octets k x keys h st has from comes =
    let seal : Seal = frame_seal (ptk_of old).kck k.octets in
    let gives : List Act = give_all d (Ap a) (mac d (Ap a)) keys h in
    let apart : AllByRecursion (IsApart (Ap a)) gives = apart_gives d (Ap a) (Ap a) (mac d (Ap a)) keys h in
    record {
      ends = st.ends;
      attempt_is = attempt_renewed d (Sta sta) (Ap a) s.base old (counted k.fields.counter old) s.attempt octets seal gives x k.fields.counter h apart (subst (λ (z : Option Session). HasAttempt d (Sta sta) (Ap a) s.base z s.attempt h) has st.attempt_is);
      session_is = holds_renewed d (Sta sta) (Ap a) s.base octets seal gives x old k.fields.counter h (held_there d (Sta sta) (Ap a) s old h has st) apart (reads-counter d.akm octets k (message_reads d (Sta sta) (Ap a) octets k from)) (counter_high (protects d) d.akm (ptk_of old) (kept_of old) k.fields k.octets comes);
    }

pub g1_renewed : (f : KeyFrame) (s : State) (old new : Session) (had has : Memories) (r : Reply) → s.session ≡ Some old → Renews s.ends f had has old new r → IsWhole r
    → IsTaken G1 f (both s had) (both (having s.attempt (Some new) s) has) Accepted r
g1_renewed f s old new had has r there done whole = record {
  steps = λ d first sta a octets k h st remembers from is fields are opens.
      (let q : Ptk = ptk_of old in
      let kept : Option ℕ = kept_of old in
      let c : CarriedKeys = done.group in
      let rsc : ℕ = packet_number_of f.rsc in
      let l : IsSessionOf (Ap a) q kept h = there_is d (Sta sta) (Ap a) s old h there st in
      let seal : Seal = frame_seal q.kck k.octets in
      let counter_is : f.counter ≡ k.fields.counter = ap (λ (x : KeyFields). x.counter) (sym fields) in
      let made : counted k.fields.counter old ≡ new = ap (λ (n : ℕ). counted n old) (sym counter_is) ∙ sym done.is in
      let v : IsVerifiedG1 (under_g1 (protects d) d.akm q kept) k.fields k.octets (Ok c) = verified_as s.ends.mfp (protects d) s.ends.akm d.akm q kept (fields_of f) f.octets.now k (Ok c) st.ends.mfp_is st.ends.akm fields are done.verified in
      let keys : GivenKeys = carried_keys v.opened.says in
      let w : AreGiven (protects d) c keys = are_given (protects d) None q.kek k.fields.key_data c v.opened in
      let gives : List Act = give_all d (Ap a) (mac d (Ap a)) keys h in
      let acts : List Act = renewing_acts d (Sta sta) (Ap a) octets seal gives l.x k.fields.counter in
      let reads = message_reads d (Sta sta) (Ap a) octets k from in
      let tells : TellsOf q.kek octets c.igtk = tells_of (protects d) None q.kek octets k.fields.key_data c (reads_key_data d.akm octets k reads) v.opened in
      steps_by d first (Sta sta) (Ap a) octets k (is_some s.session) (both (having s.attempt (Some new) s) has) Accepted r h acts
      (renews q (came c rsc had) (sent_g2 d (Sta sta) (Ap a) l.x f.counter ∷ [])) (done.tells d (Sta sta) (Ap a) l.x st.ends (sym l.key)) tt
      (renewing d (Sta sta) (Ap a) octets k seal l.x (news_act groups.Gtk d (Ap a) (came c rsc had).gtk) (group_acts groups.Igtk d (Ap a) (came c rsc had).igtk) gives f.counter is (keys_acts d (Ap a) c keys rsc had h w remembers) counter_is)
      (adds_renewed d first sta (Ap a) octets k h q kept c from is l v)
      (subst (λ (z : Session). SupplicantStands d (Sta sta) (Ap a) (having s.attempt (Some z) s) (add acts h)) made (stands_renewed d sta a s old octets k l.x keys h st there from v.comes))
      (subst (λ (m : Memories). RemembersAll (Ap a) m (add acts h)) (sym done.memory)
      (remembers_renewed d (Sta sta) (Ap a) octets seal l.x c keys k.fields.counter rsc had h w remembers
      (reads-rsc d.akm octets k reads ∙ ap (λ (z : KeyFields). packet_number_of z.rsc) fields) l.is (subst (λ (z : Ptk). TellsOf z.kek octets c.igtk) (sym l.key) tells))));
  refused = λ w e. cc;
  whole = whole;
  ends = (refl, refl);
  ids = λ ids. ids_after s.ends.mfp None (ptk_of old).kek (fields_of f).key_data done.group (packet_number_of f.rsc) had has done.verified.opened done.memory ids;
}
