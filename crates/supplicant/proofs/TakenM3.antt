-- Each way in which a supplicant takes M3.
use Rattle.std.proofs.Common.{◌≡◌, ℕ, true, false, cond, List, [], ◌∷◌, Option, Some, None, refl, sym, ap, subst, ◌∙◌}
use Rattle.std.specs.Prelude.{Bool, ◌++◌, is_some, option_map, Result, Ok, Err}
use Rattle.std.specs.List.{AllByRecursion}
use Rattle.std.proofs.lemmas.List.{append_assoc}
use Rattle.domain_base.specs.declared.names.Akm.{Akm}
use Rattle.domain_base.specs.declared.names.Akm.TheVariants.{Psk, PskSha256, FtPsk}
use Rattle.domain_base.specs.declared.names.Node.{Node}
use Rattle.domain_base.specs.declared.names.Node.TheVariants.{Ap, Sta}
use Rattle.domain_base.specs.declared.names.Peer.TheVariants.{One}
use Rattle.eapol_key.specs.declared.frame.KeyFrame.{KeyFrame}
use Rattle.eapol_key.specs.declared.messages.Message.{Message}
use Rattle.eapol_key.specs.declared.messages.Message.TheVariants.{M3}
use Rattle.eapol_key.specs.KeyFrame.{KeyFields}
use Rattle.eapol_key.specs.Fields.{fields_of}
use Rattle.run_journal.specs.declared.domain.Domain.{Domain}
use Rattle.run_journal.specs.Events.{protects}
use Rattle.run_journal.specs.declared.acts.Kind.TheVariants as kind
use Rattle.run_journal.specs.declared.acts.Part.TheVariants.{Session as OfSession}
use Rattle.run_journal.specs.declared.acts.Reason.{Reason}
use Rattle.run_journal.specs.declared.acts.Reason.TheVariants as reason
use Rattle.run_journal.specs.declared.acts.Outcome.{Outcome}
use Rattle.run_journal.specs.declared.acts.Outcome.TheVariants.{Accepted, Answered, Refused}
use Rattle.run_journal.specs.declared.acts.Key.TheVariants.{Pairwise}
use Rattle.run_journal.specs.declared.acts.Seal.{Seal}
use Rattle.run_journal.specs.declared.acts.Act.{Act}
use Rattle.run_journal.specs.declared.acts.Act.TheVariants.{Closed, Took, Installed, Finished}
use Rattle.run_journal.specs.declared.reply.Reply.{Reply}
use Rattle.run_journal.specs.declared.reply.Keyed.{Keyed}
use Rattle.run_journal.specs.Replies.{IsEmpty, IsWhole}
use Rattle.run_journal.specs.Questions.{attempt, since, heard, derivation, add}
use Rattle.domain_rules.specs.Network.{mac, peer_of, root_at, station_of}
use Rattle.domain_rules.specs.Frames.{sent_m4, frame_seal}
use Rattle.domain_rules.specs.GroupKeys.{GivenKeys, give_all}
use Rattle.domain_rules.specs.Reading.{KeyMessage, Keyed as KeyedReading, Reads}
use Rattle.domain_rules.specs.Replies.{key_by, group_acts, IsMessageFrom}
use Rattle.domain_rules.specs.Facts.{Facts, is_same}
use Rattle.domain_rules.specs.StationRows.{carried_keys, replaced}
use Rattle.domain_rules.specs.StationKeys.{Keying, KnowsM3, m3_keying, taken_in, m3_wrapped}
use Rattle.domain_rules.specs.Asking.{start_of, in_renewal, replay_counter}
use Rattle.domain_rules.proofs.Parts.{IsApart}
use Rattle.domain_rules.proofs.Starts.{connect_no_renewal}
use Rattle.domain_rules.specs.FastTransition.{r1_name}
use Rattle.domain_rules.specs.TransitionKeyData.{is_domain, responded_fte, ft_m3_key_data, ft_m3_wrapped}
use Rattle.domain_rules.specs.Verdict.{comes_so_far, Knows, KnowsOf, KnowsResponse, and_then, first_verdict, verdict, m3_further}
use Rattle.domain_rules.specs.Rows.{TakeRow, seal_in, message_seal, refused_seal, By_m3, By_repeated_m3, By_refusal}
use Rattle.domain_rules.specs.Closing.{sender}
use Rattle.domain_rules.specs.Here.{here}
use Rattle.domain_rules.proofs.Unprotected.{reads_here}
use Rattle.domain_rules.proofs.SentReads.{reads-counter, reads-rsc}
use Rattle.run_journal.specs.declared.acts.GroupKind.TheVariants as groups
use Rattle.group_key.specs.Keys.{Memories}
use Rattle.group_key.specs.Holds.{RemembersAll}
use Rattle.domain_rules.proofs.Refused.{far_seal}
use Rattle.run_journal.specs.Acts.{Derivation}
use Rattle.supplicant.specs.declared.attempt.Attempt.{Attempt}
use Rattle.supplicant.specs.declared.session.Session.{Session}
use Rattle.supplicant.specs.declared.key_data.CarriedKeys.{CarriedKeys}
use Rattle.supplicant.specs.State.{State, having, both}
use Rattle.supplicant.specs.Stands.{SupplicantStands, IsTrying, HasAttempt, HasSession, IsUnderWay, IsRenewing, IsHeld, Responds}
use Rattle.supplicant.specs.Bases.{fte_in}
use Rattle.supplicant.specs.declared.base.Base.{Base}
use Rattle.supplicant.specs.declared.session.Session.TheVariants.{Connect, Ft}
use Rattle.frame_making.specs.Mobile.{Mobility}
use Rattle.frame_making.proofs.MobileData.{same_mobility}
use Rattle.frame_making.specs.KeyData.{rsne_by, IsMobility}
use Rattle.rsn_elements.specs.Transition.{MdeFields}
use Rattle.rsn_elements.specs.Elements.{ElementFields}
use Rattle.supplicant.specs.KeyData.{packet_number_of, came, keys_said, has_mdid_by, mobile_said, m3_said, wrapped_by, IsOpened}
use Rattle.supplicant.specs.M3.{under, before_key_data, IsVerified, IsRefusedBefore, IsM3}
use Rattle.supplicant.specs.Told.{IsSilent, verifies, repeats, installs}
use Rattle.supplicant.specs.Exchange.{is_under, tried_by, Finishes, Repeats, IsRefusal, IsRepeatRefusal}
use Rattle.supplicant.specs.Held.{key_in, counter_in}
use Rattle.supplicant.specs.Taken.{IsTaken}
use Rattle.supplicant.proofs.KeysGiven.{AreGiven, are_given, reads_key_data, tells_of, ids_after, news_act, keys_acts}
use Rattle.supplicant.proofs.Telling.{steps_by, tells_silent, empty_silent, whole_silent}
use Rattle.supplicant.proofs.Standing.{stands_refused, derivation_part}
use Rattle.supplicant.proofs.Remembering.{remembers_took, remembers_answered, remembers_finished}
use Rattle.supplicant.proofs.Keyings.{IsKeying, IsKeyingAt, attempt_keying, session_keying_is, no_keying, transferred_keying, m3_is, m3_none, m3_under, refused_as, verified_as, counter_high}
use Rattle.supplicant.proofs.Replying.{no_transfer}
use Rattle.supplicant.proofs.Sessions.{finishing_acts, apart_gives, held_finished, held_renewed, none_finished, answering_acts, held_again, none_again, renewing_again}
use Rattle.supplicant.proofs.TakenM1.{taken_refused, mobile_by}
use Rattle.supplicant.proofs.KeyDataRead.{comes_of}

-- ---- refused before its MIC

-- M3 is awaited under no key
abbrev pub AreNoKeyings : KeyFrame → State → Type 0
AreNoKeyings f s = (d : Domain) (sta : ℕ) (p : Node) (h : List Act) → SupplicantStands d (Sta sta) p s h → (k : KeyMessage) → k.fields ≡ fields_of f → m3_keying p h k ≡ None

pub m3_unawaited : (f : KeyFrame) (s : State) (ks : Memories) (r : Reply) → IsEmpty r → AreNoKeyings f s → IsTaken M3 f (both s ks) (both s ks) (Refused reason.Unawaited) r
m3_unawaited f s ks r empty none = taken_refused M3 f s ks reason.Unawaited r (empty_silent r empty) empty.verified
    (λ d first sta a octets k h st from is fields are opens. m3_is d first sta (Ap a) octets k h from is ∙ m3_none d (Ap a) h k (none d sta (Ap a) h st k fields))

-- the key that M3 is taken under, the counter that is kept, and whether it is answered again
abbrev pub AreKeyings : KeyFrame → State → Keyed → Option ℕ → Bool → Type 0
AreKeyings f s y kept again = (d : Domain) (sta : ℕ) (p : Node) (h : List Act) → SupplicantStands d (Sta sta) p s h → (k : KeyMessage) → k.fields ≡ fields_of f → IsKeying d (Sta sta) p s.base h k y kept again

m3_refused : (f : KeyFrame) (s : State) (ks : Memories) (y : Keyed) (kept : Option ℕ) (again : Bool) (why : Reason) (r : Reply) → IsSilent r → r.verified ≡ None → AreKeyings f s y kept again
    → IsRefusedBefore (under s.ends.mfp s.base y kept) (fields_of f) f.octets.now (Err why) → IsTaken M3 f (both s ks) (both s ks) (Refused why) r
m3_refused f s ks y kept again why r silent plain keying judged = taken_refused M3 f s ks why r silent plain
    (λ d first sta a octets k h st from is fields are opens.
    (let j : (o : Outcome) → before_key_data (under (protects d) s.base y kept) k.fields k.octets o ≡ Refused why = refused_as s.ends.mfp (protects d) s.base y kept (fields_of f) f.octets.now k (Err why) st.ends.mfp_is fields are judged in
    m3_is d first sta (Ap a) octets k h from is ∙ m3_under d sta (Ap a) s.base h k y kept again (keying d sta (Ap a) h st k fields) ∙ j (taken_in again)))

-- ---- what it reads as

pub message_reads : (d : Domain) (n p : Node) (octets : List ℕ) (k : KeyMessage) → IsMessageFrom d n p octets k → Reads d.akm octets (KeyedReading k)
message_reads d n p octets k from = reads_here d octets (KeyedReading k) (λ is. cc is) from.reads

-- ---- what comes of its key data

-- what it says with suite 4, as the definitions have it
domain_is : (d : Domain) (name fte : List ℕ) (o : Option MdeFields) → is_domain d o ≡ has_mdid_by (Some (record { name = name; mdid = d.mdid; fte = fte })) o
domain_is d name fte None = refl
domain_is d name fte (Some f) = refl

said_mobile : (d : Domain) (name fte : List ℕ) (responded says : Option ElementFields) → responded_fte responded ≡ Some fte → ft_m3_key_data d name responded says ≡ mobile_said (protects d) FtPsk (record { name = name; mdid = d.mdid; fte = fte }) says
said_mobile d name fte responded None is = refl
said_mobile d name fte responded (Some e) is =
    let named : Bool = is_same e.rsne_octets (Some (rsne_by (protects d) FtPsk (Some name))) in
    let keys : Outcome = keys_said (protects d) e in
    ap (λ (b : Bool). comes_of named b (is_same e.fte_octets (responded_fte responded)) keys) (domain_is d name fte e.mde)
    ∙ ap (λ (o : Option (List ℕ)). comes_of named (has_mdid_by (Some (record { name = name; mdid = d.mdid; fte = fte })) e.mde) (is_same e.fte_octets o) keys) is

-- and of its wrap
abbrev wrapped_said : Bool → Akm → Option Mobility → Option (List ℕ) → Option ElementFields → Outcome
wrapped_said protected akm o None says = Refused reason.Wrap
wrapped_said protected akm o (Some plain) says = m3_said protected akm o says

wrapped_is : (protected : Bool) (b : Base) (plain : Option (List ℕ)) (says : Option ElementFields) → wrapped_said protected b.akm b.mobility plain says ≡ wrapped_by protected (Some b) plain says
wrapped_is protected b None says = refl
wrapped_is protected b (Some plain) says = refl

wrapped_mobile : (d : Domain) (name fte : List ℕ) (responded : Option ElementFields) (plain : Option (List ℕ)) (says : Option ElementFields) → responded_fte responded ≡ Some fte
    → ft_m3_wrapped d name responded plain says ≡ wrapped_said (protects d) FtPsk (Some (record { name = name; mdid = d.mdid; fte = fte })) plain says
wrapped_mobile d name fte responded None says is = refl
wrapped_mobile d name fte responded (Some plain) says is = said_mobile d name fte responded says is

-- the base is that of the suite
mobility_is : (d : Domain) (z : Derivation) (fte : List ℕ) (o : Option Mobility) → d.akm ≡ FtPsk → IsMobility d z.inputs fte o → o ≡ Some (record { name = r1_name z.inputs; mdid = d.mdid; fte = fte })
mobility_is d z fte None suite is = absurd (is suite)
mobility_is d z fte (Some m) suite is = ap (λ (x : Mobility). Some x) (same_mobility m (r1_name z.inputs) d.mdid fte is.1 is.2 is.3)

none_mobile : (d : Domain) (z : Derivation) (fte : List ℕ) (o : Option Mobility) → (d.akm ≡ FtPsk → ⊥) → IsMobility d z.inputs fte o → o ≡ None
none_mobile d z fte None suite is = refl
none_mobile d z fte (Some m) suite is = absurd (suite is.0)

abbrev pub m3_facts : Option ElementFields → Option (List ℕ) → Option ElementFields → Facts
m3_facts responded plain says = record { requested = None; responded = responded; unwrapped = plain; data_ = says; pulled = None; opened = None; unwrapped_igtk = None; kept = 0 }

plain_wrapped : (akm : Akm) (d : Domain) (plain : Option (List ℕ)) (says : Option ElementFields) → m3_wrapped akm d plain says ≡ wrapped_said (protects d) akm None plain says
plain_wrapped akm d None says = refl
plain_wrapped akm d (Some plain) None = refl
plain_wrapped akm d (Some plain) (Some e) = refl

further_by : (akm : Akm) (d : Domain) (y : Keying) (octets : Option (List ℕ)) (b : Base) (responded : Option ElementFields) (plain : Option (List ℕ)) (says : Option ElementFields) → d.akm ≡ akm → IsMobility d y.key.inputs (fte_in b) b.mobility → Responds akm octets responded b
    → m3_further akm d (Some y) (m3_facts responded plain says) ≡ wrapped_said (protects d) akm b.mobility plain says
further_by Psk d y octets b responded plain says suite is responds =
    plain_wrapped Psk d plain says ∙ ap (λ (o : Option Mobility). wrapped_said (protects d) Psk o plain says) (sym (none_mobile d y.key (fte_in b) b.mobility (λ e. cc (suite, e)) is))
further_by PskSha256 d y octets b responded plain says suite is responds =
    plain_wrapped PskSha256 d plain says ∙ ap (λ (o : Option Mobility). wrapped_said (protects d) PskSha256 o plain says) (sym (none_mobile d y.key (fte_in b) b.mobility (λ e. cc (suite, e)) is))
further_by FtPsk d y octets b responded plain says suite is responds =
    wrapped_mobile d (r1_name y.key.inputs) (fte_in b) responded plain says responds.1
    ∙ ap (λ (o : Option Mobility). wrapped_said (protects d) FtPsk o plain says) (sym (mobility_is d y.key (fte_in b) b.mobility suite is))

further_is : (d : Domain) (n p : Node) (b : Base) (h : List Act) (k : KeyMessage) (y : Keyed) (kept : Option ℕ) (again : Bool) (plain : Option (List ℕ)) (says : Option ElementFields) → (x : IsKeying d n p b h k y kept again)
    → m3_further d.akm d (m3_keying p h k) (m3_facts x.based.says plain says) ≡ wrapped_by (protects d) (Some b) plain says
further_is d n p b h k y kept again plain says x =
    ap (λ (o : Option Keying). m3_further d.akm d o (m3_facts x.based.says plain says)) x.is
    ∙ further_by d.akm d (record { key = key_by d (root_at d (station_of n p) b.r0kh_id) n p y; is_session = again }) (heard p kind.AssocResp (since p h)) b x.based.says plain says refl (mobile_by d n p b y b.mobility x.based.of.mobility) x.based.responds
    ∙ ap (λ (a : Akm). wrapped_said (protects d) a b.mobility plain says) (sym x.based.of.akm)
    ∙ wrapped_is (protects d) b plain says

-- ---- what is known where its MIC verified

abbrev pub facts_of : {protected : Bool} {asked : Option Base} {kek octets : List ℕ} {r : Result CarriedKeys Reason} → Option ElementFields → IsOpened protected asked kek octets r → Facts
facts_of responded o = m3_facts responded o.plain o.says

knows_y : (d : Domain) (n p : Node) (b : Base) (h : List Act) (k : KeyMessage) (y : Keyed) (kept : Option ℕ) (again : Bool) (facts : Facts) → IsKeying d n p b h k y kept again → KnowsM3 y.ptk.kek k facts → (z : Keying) → m3_keying p h k ≡ Some z → KnowsM3 z.key.ptk.kek k facts
knows_y d n p b h k y kept again facts x knows z is =
    let same : record { key = key_by d (root_at d (station_of n p) b.r0kh_id) n p y; is_session = again } ≡ z = (let both = sym x.is ∙ is in cc) in
    subst (λ (w : Keying). KnowsM3 w.key.ptk.kek k facts) same knows

-- the association response
response_m3 : (akm : Akm) (h : List Act) (p : Node) (b : Base) (facts : Facts) → Responds akm (heard p kind.AssocResp (since p h)) facts.responded b → KnowsResponse akm h p M3 facts
response_m3 Psk h p b facts responds = tt
response_m3 PskSha256 h p b facts responds = tt
response_m3 FtPsk h p b facts responds = responds.0

knows_m3 : (d : Domain) (first sta : ℕ) (h : List Act) (p : Node) (b : Base) (octets : List ℕ) (k : KeyMessage) (y : Keyed) (kept : Option ℕ) (again : Bool) (facts : Facts) → IsMessageFrom d (Sta sta) p octets k → k.message ≡ M3 → (x : IsKeying d (Sta sta) p b h k y kept again) → facts.responded ≡ x.based.says → KnowsM3 y.ptk.kek k facts
    → Knows d first (Sta sta) h (KeyedReading k) facts
knows_m3 d first sta h p b octets k y kept again facts from is x says knows = λ so q peer.
    (let mine : peer_of d (Sta sta) k.header.a2 ≡ Some p = from.from in
    let same : p ≡ q = (let both = sym mine ∙ peer in cc) in
    let responds : KnowsResponse d.akm h p M3 facts = response_m3 d.akm h p b facts (subst (λ (o : Option ElementFields). Responds d.akm (heard p kind.AssocResp (since p h)) o b) (sym says) x.based.responds) in (
      subst (λ (m : Message). KnowsOf d.akm h q m k facts) (sym is) (subst (λ (z : Node). (w : Keying) → m3_keying z h k ≡ Some w → KnowsM3 w.key.ptk.kek k facts) same (knows_y d (Sta sta) p b h k y kept again facts x knows)),
      subst (λ (m : Message). KnowsResponse d.akm h q m facts) (sym is) (subst (λ (z : Node). KnowsResponse d.akm h z M3 facts) same responds),
    ))

pub knows_opened : (protected : Bool) (asked : Option Base) (kek : List ℕ) (k : KeyMessage) (responded : Option ElementFields) (r : Result CarriedKeys Reason) (o : IsOpened protected asked kek k.fields.key_data r) → KnowsM3 kek k (facts_of responded o)
knows_opened protected asked kek k responded r o = record { unwrapped = o.unwrapped; data_ = o.reads }

verdict_m3 : (d : Domain) (first : ℕ) (n p : Node) (h : List Act) (k : KeyMessage) (facts : Facts) (o w : Outcome) → peer_of d n k.header.a2 ≡ Some p → k.message ≡ M3 → first_verdict d first n h (KeyedReading k) ≡ o → m3_further d.akm d (m3_keying p h k) facts ≡ w
    → verdict d first n h (KeyedReading k) facts ≡ and_then o w
verdict_m3 d first n p h k facts o w from is comes further = rw (comes, from, is) (ap (and_then o) further)

comes_m3 : (d : Domain) (first sta : ℕ) (p : Node) (b : Base) (octets : List ℕ) (k : KeyMessage) (h : List Act) (y : Keyed) (kept : Option ℕ) (again : Bool) (r : Result CarriedKeys Reason) → IsMessageFrom d (Sta sta) p octets k → k.message ≡ M3 → IsKeying d (Sta sta) p b h k y kept again → IsVerified (under (protects d) b y kept) k.fields k.octets r
    → first_verdict d first (Sta sta) h (KeyedReading k) ≡ taken_in again
comes_m3 d first sta p b octets k h y kept again r from is x v = m3_is d first sta p octets k h from is ∙ m3_under d sta p b h k y kept again x ∙ v.comes (taken_in again)

-- its key data refuses acceptance and answer alike
refused_by : (again : Bool) (why : Reason) → and_then (taken_in again) (Refused why) ≡ Refused why
refused_by true why = refl
refused_by false why = refl

taken_far : (again : Bool) → comes_so_far (taken_in again) ≡ true
taken_far true = refl
taken_far false = refl

seal_m3 : (d : Domain) (sta : ℕ) (h : List Act) (p : Node) (b : Base) (octets : List ℕ) (k : KeyMessage) (y : Keyed) (kept : Option ℕ) (again : Bool) → IsMessageFrom d (Sta sta) p octets k → k.message ≡ M3 → IsKeying d (Sta sta) p b h k y kept again
    → seal_in d (Sta sta) h (KeyedReading k) ≡ Some (frame_seal y.ptk.kck k.octets)
seal_m3 d sta h p b octets k y kept again from is x =
    let mine : peer_of d (Sta sta) k.header.a2 ≡ Some p = from.from in
    ap (λ (m : Message). message_seal d (Sta sta) h k m (peer_of d (Sta sta) k.header.a2)) is
    ∙ ap (λ (o : Option Node). message_seal d (Sta sta) h k M3 o) mine
    ∙ rw (x.is) refl

-- ---- refused after its MIC

adds_sealed : (d : Domain) (first sta : ℕ) (p : Node) (b : Base) (octets : List ℕ) (k : KeyMessage) (h : List Act) (y : Keyed) (kept : Option ℕ) (again : Bool) (why : Reason) → IsMessageFrom d (Sta sta) p octets k → k.message ≡ M3 → IsKeying d (Sta sta) p b h k y kept again → IsVerified (under (protects d) b y kept) k.fields k.octets (Err why)
    → TakeRow (here d first (Sta sta)) h octets (Took (Some p) octets (kind.Key k.message) (Refused why) (Some (frame_seal y.ptk.kck k.octets)) ∷ [])
adds_sealed d first sta p b octets k h y kept again why from is x v =
    let comes = comes_m3 d first sta p b octets k h y kept again (Err why) from is x v in
    let facts : Facts = facts_of x.based.says v.opened in
    let sealed : refused_seal d first (Sta sta) h (KeyedReading k) ≡ Some (frame_seal y.ptk.kck k.octets) =
    sym (far_seal d first (Sta sta) h (KeyedReading k) (taken_in again) comes (taken_far again)) ∙ seal_m3 d sta h p b octets k y kept again from is x in
    record {
      r = KeyedReading k;
      reads = from.reads;
      facts = facts;
      knows = knows_m3 d first sta h p b octets k y kept again facts from is x refl (knows_opened (protects d) (Some b) y.ptk.kek k x.based.says (Err why) v.opened);
      row = By_refusal (record {
        why = why;
        refused = verdict_m3 d first (Sta sta) p h k facts (taken_in again) (Refused why) from.from is comes (further_is d (Sta sta) p b h k y kept again v.opened.plain v.opened.says x ∙ v.opened.is) ∙ refused_by again why;
        says = ap (λ (o : Option Node). Took o octets (kind.Key k.message) (Refused why) (Some (frame_seal y.ptk.kck k.octets)) ∷ []) (sym from.from)
            ∙ ap (λ (o : Option Seal). Took (sender d (Sta sta) (KeyedReading k)) octets (kind.Key k.message) (Refused why) o ∷ []) (sym sealed);
      });
    }

m3_sealed : (f : KeyFrame) (s : State) (ks : Memories) (y : Keyed) (kept : Option ℕ) (again : Bool) (why : Reason) (r : Reply) → IsSilent r → r.verified ≡ Some y.ptk.kck → AreKeyings f s y kept again
    → IsVerified (under s.ends.mfp s.base y kept) (fields_of f) f.octets.now (Err why) → IsTaken M3 f (both s ks) (both s ks) (Refused why) r
m3_sealed f s ks y kept again why r silent seal keying verified = record {
  steps = λ d first sta a octets k h st remembers from is fields are opens.
      (let v : IsVerified (under (protects d) s.base y kept) k.fields k.octets (Err why) = verified_as s.ends.mfp (protects d) s.base y kept (fields_of f) f.octets.now k (Err why) st.ends.mfp_is fields are verified in
      let x = keying d sta (Ap a) h st k fields in
      steps_by d first (Sta sta) (Ap a) octets k (is_some s.session) (both s ks) (Refused why) r h (Took (Some (Ap a)) octets (kind.Key k.message) (Refused why) (Some (frame_seal y.ptk.kck k.octets)) ∷ [])
      (verifies (Some y.ptk.kck)) (tells_silent (Ap a) r (Some y.ptk.kck) silent seal) tt refl
      (adds_sealed d first sta (Ap a) s.base octets k h y kept again why from is x v)
      (stands_refused d (Sta sta) (Ap a) s octets (kind.Key k.message) why (Some (frame_seal y.ptk.kck k.octets)) h st)
      (remembers_took (Ap a) (Ap a) octets (kind.Key k.message) (Refused why) (Some (frame_seal y.ptk.kck k.octets)) ks h remembers));
  refused = λ w e. (refl, silent.installed);
  whole = whole_silent r silent;
  ends = (refl, refl);
  ids = λ ids. ids;
}

refused_by_told : (f : KeyFrame) (s : State) (ks : Memories) (y : Keyed) (kept : Option ℕ) (again : Bool) (why : Reason) (r : Reply) (v : Option (List ℕ)) → r.verified ≡ v → IsSilent r → AreKeyings f s y kept again
    → IsM3 (under s.ends.mfp s.base y kept) (fields_of f) f.octets.now (Err why) v → IsTaken M3 f (both s ks) (both s ks) (Refused why) r
refused_by_told f s ks y kept again why r None plain silent keying judged = m3_refused f s ks y kept again why r silent plain keying judged
refused_by_told f s ks y kept again why r (Some kck) seal silent keying judged = m3_sealed f s ks y kept again why r silent (seal ∙ ap (λ (x : List ℕ). Some x) judged.0) keying judged.1

-- as it was refused to an attempt or a session
pub m3_refusal : (f : KeyFrame) (s : State) (ks : Memories) (key : Option Keyed) (kept : Option ℕ) (again : Bool) (why : Reason) (r : Reply)
    → ((d : Domain) (sta : ℕ) (p : Node) (h : List Act) → SupplicantStands d (Sta sta) p s h → (k : KeyMessage) → k.fields ≡ fields_of f → IsKeyingAt d (Sta sta) p s.base h k key kept again)
    → IsRefusal s.ends s.base key kept f why r → IsTaken M3 f (both s ks) (both s ks) (Refused why) r
m3_refusal f s ks None kept again why r keying refusal = subst (λ (w : Reason). IsTaken M3 f (both s ks) (both s ks) (Refused w) r) (sym refusal.0) (m3_unawaited f s ks r refusal.1 keying)
m3_refusal f s ks (Some y) kept again why r keying refusal = refused_by_told f s ks y kept again why r r.verified refl refusal.1 keying refusal.0

-- the nonce of the message is that of the frame
nonce_as : (f : KeyFrame) (k : KeyMessage) (o : Option Attempt) (x : Option Session) (r : Option Attempt) → k.fields ≡ fields_of f → tried_by f.nonce o x ≡ r → tried_by k.fields.nonce o x ≡ r
nonce_as f k o x r fields is = ap (λ (g : KeyFields). tried_by g.nonce o x) fields ∙ is

-- under the key of an attempt
pub m3_attempt_refusal : (f : KeyFrame) (s : State) (ks : Memories) (a : Attempt) (why : Reason) (r : Reply) → tried_by f.nonce s.attempt s.session ≡ Some a → IsRefusal s.ends s.base a.key (counter_in s.session) f why r → IsTaken M3 f (both s ks) (both s ks) (Refused why) r
m3_attempt_refusal f s ks a why r is refusal =
    m3_refusal f s ks a.key (counter_in s.session) false why r (λ d sta p h st k fields. attempt_keying d sta p s.base s.session s.attempt a h k (nonce_as f k s.attempt s.session (Some a) fields is) st.attempt_is st.session_is) refusal

-- in a session
pub m3_again_refusal : (f : KeyFrame) (s : State) (ks : Memories) (x : Session) (why : Reason) (r : Reply) → tried_by f.nonce s.attempt s.session ≡ None → s.session ≡ Some x → IsRepeatRefusal s.ends s.base x f why r → IsTaken M3 f (both s ks) (both s ks) (Refused why) r
m3_again_refusal f s ks (Connect y counter) why r none has refusal = m3_refusal f s ks (Some y) (Some counter) true why r
    (λ d sta p h st k fields. session_keying_is d sta p s.base s.attempt s.session y counter h k (nonce_as f k s.attempt s.session None fields none) has st.attempt_is st.session_is) refusal
m3_again_refusal f s ks (Ft q counter) why r none has refusal =
    subst (λ (w : Reason). IsTaken M3 f (both s ks) (both s ks) (Refused w) r) (sym refusal.0)
    (m3_unawaited f s ks r refusal.1 (λ d sta p h st k fields. transferred_keying d sta p s.base s.attempt s.session q counter h k (nonce_as f k s.attempt s.session None fields none) has st.attempt_is st.session_is))

-- or without one
pub m3_nowhere : (f : KeyFrame) (s : State) (ks : Memories) (r : Reply) → IsEmpty r → tried_by f.nonce s.attempt s.session ≡ None → s.session ≡ None → IsTaken M3 f (both s ks) (both s ks) (Refused reason.Unawaited) r
m3_nowhere f s ks r empty none silent =
    m3_unawaited f s ks r empty (λ d sta p h st k fields. no_keying d sta p s.base s.attempt s.session h k (nonce_as f k s.attempt s.session None fields none) silent st.attempt_is st.session_is)

-- ---- accepted

told_finished : (took : Act) (p : Node) (had : Bool) (i g : Act) (ks : List Act) (f m : Act) → took ∷ (((((replaced p had ++ (i ∷ [])) ++ (g ∷ [])) ++ ks) ++ (f ∷ [])) ++ (m ∷ [])) ≡ took ∷ (replaced p had ++ i ∷ (g ∷ ks ++ f ∷ m ∷ []))
told_finished took p true i g ks f m = ap (λ (l : List Act). took ∷ Closed p OfSession ∷ i ∷ g ∷ l) (append_assoc ks (f ∷ []) (m ∷ []))
told_finished took p false i g ks f m = ap (λ (l : List Act). took ∷ i ∷ g ∷ l) (append_assoc ks (f ∷ []) (m ∷ []))

finishing : (d : Domain) (n p : Node) (octets : List ℕ) (k : KeyMessage) (s : Seal) (x : Derivation) (had : Bool) (g : Act) (ks gives : List Act) (counter : ℕ) → k.message ≡ M3 → g ∷ ks ≡ gives → counter ≡ k.fields.counter
    → Took (Some p) octets (kind.Key k.message) Accepted (Some s) ∷ (((((replaced p had ++ (Installed (One p) (Pairwise x.ptk.tk x.inputs) ∷ [])) ++ (g ∷ [])) ++ ks) ++ (Finished p x.inputs ∷ [])) ++ (sent_m4 d n p x counter ∷ []))
    ≡ finishing_acts d n p octets s x had gives k.fields.counter
finishing d n p octets k s x had g ks gives counter is same number =
    told_finished (Took (Some p) octets (kind.Key k.message) Accepted (Some s)) p had (Installed (One p) (Pairwise x.ptk.tk x.inputs)) g ks (Finished p x.inputs) (sent_m4 d n p x counter)
    ∙ ap (λ (m : Message). Took (Some p) octets (kind.Key m) Accepted (Some s) ∷ (replaced p had ++ Installed (One p) (Pairwise x.ptk.tk x.inputs) ∷ (g ∷ ks ++ Finished p x.inputs ∷ sent_m4 d n p x counter ∷ []))) is
    ∙ ap (λ (l : List Act). finishing_acts d n p octets s x had l counter) same
    ∙ ap (finishing_acts d n p octets s x had gives) number

adds_finished : (d : Domain) (first sta : ℕ) (p : Node) (b : Base) (octets : List ℕ) (k : KeyMessage) (h : List Act) (y : Keyed) (kept : Option ℕ) (had : Bool) (c : CarriedKeys) → IsMessageFrom d (Sta sta) p octets k → k.message ≡ M3 → IsKeying d (Sta sta) p b h k y kept false
    → in_renewal (attempt p h) ≡ had → (v : IsVerified (under (protects d) b y kept) k.fields k.octets (Ok c))
    → TakeRow (here d first (Sta sta)) h octets
    (finishing_acts d (Sta sta) p octets (frame_seal y.ptk.kck k.octets) (key_by d (root_at d (Sta sta) b.r0kh_id) (Sta sta) p y) had (give_all d p (mac d p) (carried_keys v.opened.says) h) k.fields.counter)
adds_finished d first sta p b octets k h y kept had c from is x renews v =
    let facts : Facts = facts_of x.based.says v.opened in
    let z : Derivation = key_by d (root_at d (Sta sta) b.r0kh_id) (Sta sta) p y in
    record {
      r = KeyedReading k;
      reads = from.reads;
      facts = facts;
      knows = knows_m3 d first sta h p b octets k y kept false facts from is x refl (knows_opened (protects d) (Some b) y.ptk.kek k x.based.says (Ok c) v.opened);
      row = By_m3 (record {
        k = k;
        is = refl;
        message_is = is;
        p = p;
        from = from.from;
        accepted = verdict_m3 d first (Sta sta) p h k facts Accepted Accepted from.from is (comes_m3 d first sta p b octets k h y kept false (Ok c) from is x v) (further_is d (Sta sta) p b h k y kept false v.opened.plain v.opened.says x ∙ v.opened.is.0);
        y = record { key = z; is_session = false };
        awaited = x.is;
        says = ap (λ (o : Bool). finishing_acts d (Sta sta) p octets (frame_seal y.ptk.kck k.octets) z o (give_all d p (mac d p) (carried_keys v.opened.says) h) k.fields.counter) (sym renews);
      });
    }

-- beside a session the attempt renews its key
renews_beside : (d : Domain) (n p : Node) (b : Base) (x : Option Session) (a : Attempt) (h : List Act) → IsTrying d n p b x a h → in_renewal (attempt p h) ≡ is_some x
renews_beside d n p b None a h u = ap in_renewal u.is ∙ connect_no_renewal (start_of u.part) u.begun
renews_beside d n p b (Some z) a h u = ap in_renewal u.is ∙ u.begun

there : (p : Node) (h part : List Act) → attempt p h ≡ Some part → attempt p h ≡ None → ⊥
there p h part is none = cc

-- there is an attempt
some_attempt : (d : Domain) (n p : Node) (b : Base) (x : Option Session) (a : Attempt) (h : List Act) → IsTrying d n p b x a h → attempt p h ≡ None → ⊥
some_attempt d n p b None a h u none = there p h u.part u.is none
some_attempt d n p b (Some z) a h u none = there p h u.part u.is none

-- the session that M3 made
held_after : (d : Domain) (sta a : ℕ) (b : Base) (x : Option Session) (old : Attempt) (octets : List ℕ) (s : Seal) (y : Keyed) (gives : List Act) (f : KeyFields) (message : List ℕ) (h : List Act) → old.key ≡ Some y → IsTrying d (Sta sta) (Ap a) b x old h → HasSession d (Sta sta) (Ap a) b x h → AllByRecursion (IsApart (Ap a)) gives → replay_counter octets ≡ f.counter
    → ((o : Outcome) → before_key_data (under (protects d) b y (counter_in x)) f message o ≡ o)
    → IsHeld d (Sta sta) (Ap a) b y f.counter (add (finishing_acts d (Sta sta) (Ap a) octets s (key_by d (root_at d (Sta sta) b.r0kh_id) (Sta sta) (Ap a) y) (is_some x) gives f.counter) h)
held_after d sta a b None old octets s y gives f message h has u none apart is comes =
    held_finished d sta a b old.snonce octets s y gives f.counter h (subst (λ (o : Option Keyed). IsUnderWay d (Sta sta) (Ap a) b old.snonce o h) has u) apart is
held_after d sta a b (Some (Connect z was)) old octets s y gives f message h has u l apart is comes =
    held_renewed d sta a b old.snonce octets s y gives was f.counter h (subst (λ (o : Option Keyed). IsRenewing d (Sta sta) (Ap a) b old.snonce o h) has u) l.based l.keeps apart is (counter_high (protects d) b y was f message comes)
held_after d sta a b (Some (Ft q was)) old octets s y gives f message h has u l apart is comes = absurd (no_transfer d (Sta sta) (Ap a) b old.snonce old.key h u l.last)

stands_finished : (d : Domain) (sta a : ℕ) (s : State) (old : Attempt) (octets : List ℕ) (k : KeyMessage) (y : Keyed) (keys : GivenKeys) (h : List Act) → SupplicantStands d (Sta sta) (Ap a) s h → IsTrying d (Sta sta) (Ap a) s.base s.session old h → old.key ≡ Some y → IsMessageFrom d (Sta sta) (Ap a) octets k
    → ((o : Outcome) → before_key_data (under (protects d) s.base y (counter_in s.session)) k.fields k.octets o ≡ o)
    → SupplicantStands d (Sta sta) (Ap a) (having None (Some (Connect y k.fields.counter)) s)
    (add (finishing_acts d (Sta sta) (Ap a) octets (frame_seal y.ptk.kck k.octets) (key_by d (root_at d (Sta sta) s.base.r0kh_id) (Sta sta) (Ap a) y) (is_some s.session) (give_all d (Ap a) (mac d (Ap a)) keys h) k.fields.counter) h)
stands_finished d sta a s old octets k y keys h st u has from comes =
    let b = s.base in
    let gives : List Act = give_all d (Ap a) (mac d (Ap a)) keys h in
    let seal : Seal = frame_seal y.ptk.kck k.octets in
    record {
      ends = st.ends;
      attempt_is = none_finished d sta a octets seal (key_by d (root_at d (Sta sta) b.r0kh_id) (Sta sta) (Ap a) y) (is_some s.session) gives k.fields.counter h;
      session_is = held_after d sta a b s.session old octets seal y gives k.fields k.octets h has u st.session_is (apart_gives d (Ap a) (Ap a) (mac d (Ap a)) keys h) (reads-counter d.akm octets k (message_reads d (Sta sta) (Ap a) octets k from)) comes;
    }

-- the key of the attempt was derived last
derived_last : (d : Domain) (n p : Node) (b : Base) (x : Option Session) (old : Attempt) (y : Keyed) (h : List Act) → old.key ≡ Some y → IsTrying d n p b x old h → derivation p h ≡ Some (key_by d (root_at d (station_of n p) b.r0kh_id) n p y)
derived_last d n p b None old y h has u =
    derivation_part p h u.part (key_by d (root_at d (station_of n p) b.r0kh_id) n p y) u.is (u.keyed ∙ ap (λ (o : Option Keyed). option_map (key_by d (root_at d (station_of n p) b.r0kh_id) n p) o) has)
derived_last d n p b (Some z) old y h has u =
    derivation_part p h u.part (key_by d (root_at d (station_of n p) b.r0kh_id) n p y) u.is (u.keyed ∙ ap (λ (o : Option Keyed). option_map (key_by d (root_at d (station_of n p) b.r0kh_id) n p) o) has)

-- the key of a session that M3 made is that of the attempt
own_key : (x : Session) (o : Option Keyed) (y : Keyed) (counter : ℕ) → x ≡ Connect y counter → o ≡ key_in x → o ≡ Some y
own_key x o y counter is same = same ∙ ap key_in is

-- the attempt under which M3 is judged is that of the supplicant
pub tried_is : (nonce : List ℕ) (o : Option Attempt) (x : Option Session) (a : Attempt) → tried_by nonce o x ≡ Some a → o ≡ Some a
tried_is nonce None x a is = absurd (cc is)
tried_is nonce (Some o) None a is = is
tried_is nonce (Some o) (Some z) a is = chosen (is_under nonce o.key) o a is
  where
    chosen : (c : Bool) (o a : Attempt) → cond c (Some o) None ≡ Some a → ◌≡◌ {A = Option Attempt} (Some o) (Some a)
    chosen true o a is = is
    chosen false o a is = absurd (cc is)

pub m3_finished : (f : KeyFrame) (s : State) (old : Attempt) (had has : Memories) (x : Session) (r : Reply) → tried_by f.nonce s.attempt s.session ≡ Some old → old.key ≡ key_in x → Finishes s.ends s.base f (counter_in s.session) had has x r → IsWhole r
    → IsTaken M3 f (both s had) (both (having None (Some x) s) has) Accepted r
m3_finished f s old had has x r is key done whole = record {
  steps = λ d first sta a octets k h st remembers from three fields are opens.
      (let y = done.key in
      let b = s.base in
      let c : CarriedKeys = done.group in
      let there_was : Bool = is_some s.session in
      let kept : Option ℕ = counter_in s.session in
      let rsc : ℕ = packet_number_of f.rsc in
      let has_y : old.key ≡ Some y = own_key x old.key y f.counter done.is key in
      let u : IsTrying d (Sta sta) (Ap a) b s.session old h = subst (λ (o : Option Attempt). HasAttempt d (Sta sta) (Ap a) b s.session o h) (tried_is f.nonce s.attempt s.session old is) st.attempt_is in
      let der : Derivation = key_by d (root_at d (Sta sta) b.r0kh_id) (Sta sta) (Ap a) y in
      let seal : Seal = frame_seal y.ptk.kck k.octets in
      let counter_is : f.counter ≡ k.fields.counter = ap (λ (z : KeyFields). z.counter) (sym fields) in
      let made : Connect y k.fields.counter ≡ x = ap (Connect y) (sym counter_is) ∙ sym done.is in
      let v : IsVerified (under (protects d) b y kept) k.fields k.octets (Ok c) = verified_as s.ends.mfp (protects d) b y kept (fields_of f) f.octets.now k (Ok c) st.ends.mfp_is fields are done.verified in
      let keying : IsKeying d (Sta sta) (Ap a) b h k y kept false = subst (λ (o : Option Keyed). IsKeyingAt d (Sta sta) (Ap a) b h k o kept false) has_y
      (attempt_keying d sta (Ap a) b s.session s.attempt old h k (nonce_as f k s.attempt s.session (Some old) fields is) st.attempt_is st.session_is) in
      let keys : GivenKeys = carried_keys v.opened.says in
      let w : AreGiven (protects d) c keys = are_given (protects d) (Some b) y.ptk.kek k.fields.key_data c v.opened in
      let gives : List Act = give_all d (Ap a) (mac d (Ap a)) keys h in
      let acts : List Act = finishing_acts d (Sta sta) (Ap a) octets seal der there_was gives k.fields.counter in
      let reads = message_reads d (Sta sta) (Ap a) octets k from in
      steps_by d first (Sta sta) (Ap a) octets k there_was (both (having None (Some x) s) has) Accepted r h acts
      (installs y (came c rsc had) (sent_m4 d (Sta sta) (Ap a) der f.counter ∷ [])) (done.tells d (Sta sta) (Ap a) der st.ends refl) (some_attempt d (Sta sta) (Ap a) b s.session old h u, refl, ap key_in done.is)
      (finishing d (Sta sta) (Ap a) octets k seal der there_was (news_act groups.Gtk d (Ap a) (came c rsc had).gtk) (group_acts groups.Igtk d (Ap a) (came c rsc had).igtk) gives f.counter three (keys_acts d (Ap a) c keys rsc had h w remembers) counter_is)
      (adds_finished d first sta (Ap a) b octets k h y kept there_was c from three keying (renews_beside d (Sta sta) (Ap a) b s.session old h u) v)
      (subst (λ (z : Session). SupplicantStands d (Sta sta) (Ap a) (having None (Some z) s) (add acts h)) made (stands_finished d sta a s old octets k y keys h st u has_y from v.comes))
      (subst (λ (m : Memories). RemembersAll (Ap a) m (add acts h)) (sym done.memory)
      (remembers_finished d (Sta sta) (Ap a) octets seal der there_was c keys k.fields.counter rsc had h w remembers
      (reads-rsc d.akm octets k reads ∙ ap (λ (z : KeyFields). packet_number_of z.rsc) fields) (derived_last d (Sta sta) (Ap a) b s.session old y h has_y u)
      (tells_of (protects d) (Some b) y.ptk.kek octets k.fields.key_data c (reads_key_data d.akm octets k reads) v.opened))));
  refused = λ w e. cc;
  whole = whole;
  ends = (refl, refl);
  ids = λ ids. ids_after s.ends.mfp (Some s.base) done.key.ptk.kek (fields_of f).key_data done.group (packet_number_of f.rsc) had has done.verified.opened done.memory ids;
}

-- ---- answered once more

answering : (d : Domain) (n p : Node) (octets : List ℕ) (k : KeyMessage) (s : Seal) (x : Derivation) (counter : ℕ) → k.message ≡ M3 → counter ≡ k.fields.counter
    → Took (Some p) octets (kind.Key k.message) Answered (Some s) ∷ sent_m4 d n p x counter ∷ [] ≡ answering_acts d n p octets s x k.fields.counter
answering d n p octets k s x counter is number =
    ap (λ (m : Message). Took (Some p) octets (kind.Key m) Answered (Some s) ∷ sent_m4 d n p x counter ∷ []) is ∙ ap (answering_acts d n p octets s x) number

adds_answered : (d : Domain) (first sta : ℕ) (p : Node) (b : Base) (octets : List ℕ) (k : KeyMessage) (h : List Act) (y : Keyed) (was : ℕ) (c : CarriedKeys) → IsMessageFrom d (Sta sta) p octets k → k.message ≡ M3 → IsKeying d (Sta sta) p b h k y (Some was) true → IsVerified (under (protects d) b y (Some was)) k.fields k.octets (Ok c)
    → TakeRow (here d first (Sta sta)) h octets (answering_acts d (Sta sta) p octets (frame_seal y.ptk.kck k.octets) (key_by d (root_at d (Sta sta) b.r0kh_id) (Sta sta) p y) k.fields.counter)
adds_answered d first sta p b octets k h y was c from is x v =
    let facts : Facts = facts_of x.based.says v.opened in
    record {
      r = KeyedReading k;
      reads = from.reads;
      facts = facts;
      knows = knows_m3 d first sta h p b octets k y (Some was) true facts from is x refl (knows_opened (protects d) (Some b) y.ptk.kek k x.based.says (Ok c) v.opened);
      row = By_repeated_m3 (record {
        k = k;
        is = refl;
        message_is = is;
        p = p;
        from = from.from;
        answered = verdict_m3 d first (Sta sta) p h k facts Answered Accepted from.from is (comes_m3 d first sta p b octets k h y (Some was) true (Ok c) from is x v) (further_is d (Sta sta) p b h k y (Some was) true v.opened.plain v.opened.says x ∙ v.opened.is.0);
        y = record { key = key_by d (root_at d (Sta sta) b.r0kh_id) (Sta sta) p y; is_session = true };
        awaited = x.is;
        says = refl;
      });
    }

-- an attempt beside the session goes on
attempt_again : (d : Domain) (n p : Node) (b : Base) (z w : Session) (o : Option Attempt) (octets : List ℕ) (s : Seal) (x : Derivation) (counter : ℕ) (h : List Act) → HasAttempt d n p b (Some z) o h → HasAttempt d n p b (Some w) o (add (answering_acts d n p octets s x counter) h)
attempt_again d n p b z w None octets s x counter h none = none_again d n p octets s x counter h none
attempt_again d n p b z w (Some a) octets s x counter h u = renewing_again d n p b a.snonce a.key octets s x counter h u

stands_answered : (d : Domain) (sta : ℕ) (p : Node) (s : State) (y : Keyed) (was : ℕ) (octets : List ℕ) (k : KeyMessage) (h : List Act) → SupplicantStands d (Sta sta) p s h → s.session ≡ Some (Connect y was) → IsMessageFrom d (Sta sta) p octets k
    → ((o : Outcome) → before_key_data (under (protects d) s.base y (Some was)) k.fields k.octets o ≡ o)
    → SupplicantStands d (Sta sta) p (having s.attempt (Some (Connect y k.fields.counter)) s) (add (answering_acts d (Sta sta) p octets (frame_seal y.ptk.kck k.octets) (key_by d (root_at d (Sta sta) s.base.r0kh_id) (Sta sta) p y) k.fields.counter) h)
stands_answered d sta p s y was octets k h st has from comes =
    let b = s.base in
    let l : IsHeld d (Sta sta) p b y was h = subst (λ (x : Option Session). HasSession d (Sta sta) p b x h) has st.session_is in
    let seal : Seal = frame_seal y.ptk.kck k.octets in
    let x : Derivation = key_by d (root_at d (Sta sta) b.r0kh_id) (Sta sta) p y in
    record {
      ends = st.ends;
      attempt_is = attempt_again d (Sta sta) p b (Connect y was) (Connect y k.fields.counter) s.attempt octets seal x k.fields.counter h (subst (λ (z : Option Session). HasAttempt d (Sta sta) p b z s.attempt h) has st.attempt_is);
      session_is = held_again d (Sta sta) p b octets seal x y was k.fields.counter h l (reads-counter d.akm octets k (message_reads d (Sta sta) p octets k from)) (counter_high (protects d) b y was k.fields k.octets comes);
    }

pub m3_answered : (f : KeyFrame) (s : State) (old new : Session) (ks : Memories) (r : Reply) → tried_by f.nonce s.attempt s.session ≡ None → s.session ≡ Some old → Repeats s.ends s.base f old new r → IsWhole r
    → IsTaken M3 f (both s ks) (both (having s.attempt (Some new) s) ks) Answered r
m3_answered f s old new ks r none has done whole = record {
  steps = λ d first sta a octets k h st remembers from is fields are opens.
      (let y = done.key in
      let b = s.base in
      let holds : s.session ≡ Some (Connect y done.was) = has ∙ ap (λ (z : Session). Some z) done.is_old in
      let der : Derivation = key_by d (root_at d (Sta sta) b.r0kh_id) (Sta sta) (Ap a) y in
      let seal : Seal = frame_seal y.ptk.kck k.octets in
      let counter_is : f.counter ≡ k.fields.counter = ap (λ (x : KeyFields). x.counter) (sym fields) in
      let made : Connect y k.fields.counter ≡ new = ap (Connect y) (sym counter_is) ∙ sym done.is in
      let v : IsVerified (under (protects d) b y (Some done.was)) k.fields k.octets (Ok done.group) = verified_as s.ends.mfp (protects d) b y (Some done.was) (fields_of f) f.octets.now k (Ok done.group) st.ends.mfp_is fields are done.verified in
      let x : IsKeying d (Sta sta) (Ap a) b h k y (Some done.was) true = session_keying_is d sta (Ap a) b s.attempt s.session y done.was h k (nonce_as f k s.attempt s.session None fields none) holds st.attempt_is st.session_is in
      let acts : List Act = answering_acts d (Sta sta) (Ap a) octets seal der k.fields.counter in
      steps_by d first (Sta sta) (Ap a) octets k (is_some s.session) (both (having s.attempt (Some new) s) ks) Answered r h acts
      (repeats y (sent_m4 d (Sta sta) (Ap a) der f.counter ∷ [])) (done.tells d (Sta sta) (Ap a) der st.ends refl) tt
      (answering d (Sta sta) (Ap a) octets k seal der f.counter is counter_is)
      (adds_answered d first sta (Ap a) b octets k h y done.was done.group from is x v)
      (subst (λ (z : Session). SupplicantStands d (Sta sta) (Ap a) (having s.attempt (Some z) s) (add acts h)) made (stands_answered d sta (Ap a) s y done.was octets k h st holds from v.comes))
      (remembers_answered d (Sta sta) (Ap a) octets seal der k.fields.counter ks h remembers));
  refused = λ w e. cc;
  whole = whole;
  ends = (refl, refl);
  ids = λ ids. ids;
}
