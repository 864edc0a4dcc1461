-- Each way in which a supplicant takes an M1 that begins to renew the key of its session.
use Rattle.std.proofs.Common.{◌≡◌, ℕ, ◌+◌, Bool, true, false, List, [], ◌∷◌, Option, Some, None, refl, sym, ap, subst, ◌∙◌}
use Rattle.std.specs.Prelude.{is_some, not, ◌&&◌, nat_lt, if◌then◌else◌}
use Rattle.std.proofs.lemmas.Bool.{lt-ltb, le-ltb}
use Rattle.domain_base.specs.declared.names.Akm.{Akm}
use Rattle.domain_base.specs.declared.names.Akm.TheVariants.{Psk, PskSha256, FtPsk}
use Rattle.domain_base.specs.declared.names.Node.{Node}
use Rattle.domain_base.specs.declared.names.Node.TheVariants.{Ap, Sta}
use Rattle.eapol_key.specs.declared.frame.KeyFrame.{KeyFrame}
use Rattle.eapol_key.specs.declared.messages.Message.{Message}
use Rattle.eapol_key.specs.declared.messages.Message.TheVariants.{M1}
use Rattle.eapol_key.specs.KeyFrame.{KeyFields}
use Rattle.key_hierarchy.specs.Keys.{ptk}
use Rattle.key_hierarchy.specs.declared.inputs.Inputs.{Inputs}
use Rattle.key_hierarchy.specs.declared.inputs.Ptk.{Ptk}
use Rattle.run_journal.specs.declared.domain.Domain.{Domain}
use Rattle.run_journal.specs.declared.acts.Start.TheVariants.{Renew}
use Rattle.run_journal.specs.declared.acts.Drawn.TheVariants.{Nonce}
use Rattle.run_journal.specs.declared.acts.Kind.TheVariants as kind
use Rattle.run_journal.specs.declared.acts.Reason.{Reason}
use Rattle.run_journal.specs.declared.acts.Reason.TheVariants as reason
use Rattle.run_journal.specs.declared.acts.Outcome.TheVariants.{Accepted, Refused}
use Rattle.run_journal.specs.declared.acts.Act.{Act}
use Rattle.run_journal.specs.declared.acts.Act.TheVariants.{Opened, Drew, Took, Derived}
use Rattle.run_journal.specs.declared.reply.Reply.{Reply}
use Rattle.run_journal.specs.declared.reply.Keyed.{Keyed}
use Rattle.run_journal.specs.Replies.{IsEmpty, IsWhole}
use Rattle.run_journal.specs.Acts.{Derivation}
use Rattle.run_journal.specs.Events.{can_renew}
use Rattle.run_journal.specs.Questions.{pending, attempt, chain, session, draws, add}
use Rattle.domain_rules.specs.Network.{renews, draw_end, peer_of, root_by, root_at}
use Rattle.domain_rules.specs.Frames.{sent_m2_by, keyed_by}
use Rattle.domain_rules.specs.Closing.{next_nonce}
use Rattle.domain_rules.specs.Reading.{KeyMessage, Keyed as KeyedReading}
use Rattle.domain_rules.specs.Replies.{IsMessageFrom, key_by, inputs_by, taken_as}
use Rattle.domain_rules.specs.Verdict.{KnowsResponse, first_verdict}
use Rattle.domain_rules.specs.Asking.{has_four_way, session_start, kept_counter, above}
use Rattle.domain_rules.specs.StationKeys.{opens_renewal, m1_verdict_in, m1_verdict}
use Rattle.domain_rules.specs.Rows.{TakeRow, By_opening_m1}
use Rattle.domain_rules.specs.Here.{here}
use Rattle.group_key.specs.Holds.{RemembersAll}
use Rattle.node_base.specs.PairwiseKeys.{IsKeyOf}
use Rattle.node_base.proofs.EndsKeys.{key_is, is_key_of}
use Rattle.supplicant.specs.declared.attempt.Attempt.{Attempt}
use Rattle.supplicant.specs.declared.session.Session.{Session}
use Rattle.supplicant.specs.declared.session.Session.TheVariants.{Connect, Ft}
use Rattle.supplicant.specs.declared.base.Base.{Base}
use Rattle.supplicant.specs.Bases.{fte_in}
use Rattle.supplicant.specs.Held.{counter_in, is_connected}
use Rattle.supplicant.specs.M3.{IsAbove, IsNotAbove}
use Rattle.supplicant.specs.State.{State, having}
use Rattle.supplicant.specs.Stands.{SupplicantStands, HasAttempt, HasSession, IsHeld}
use Rattle.supplicant.specs.Exchange.{Answers}
use Rattle.supplicant.specs.Told.{verifies, derives}
use Rattle.supplicant.specs.Steps.{opening_told, SupplicantOpens}
use Rattle.supplicant.specs.Taken.{may_renew, IsOpening}
use Rattle.supplicant.proofs.Telling.{acts_told, tells_silent, empty_silent, whole_empty}
use Rattle.supplicant.proofs.Standing.{can_renew_in, stands_refused}
use Rattle.supplicant.proofs.KeyDataRead.{low_counter, high_counter}
use Rattle.supplicant.proofs.Replying.{opening_acts, renewing_opened, held_opened}
use Rattle.supplicant.proofs.Remembering.{remembers_took, remembers_opened}
use Rattle.supplicant.proofs.TakenM1.{m1_is, adds_refused, responded_facts, knows_m1, accepted_m1, made_of, mobile_by}

-- ---- a supplicant that may begin

-- it has a session of a four-way handshake, and no attempt
pub record IsReady (s : State) : Type 0 where
  pub none : s.attempt ≡ None
  pub key : Keyed
  pub was : ℕ
  pub is : s.session ≡ Some (Connect key was)

none_by : (o : Option Attempt) (c : Bool) → (not (is_some o) && c) ≡ true → (o ≡ None) × (c ≡ true)
none_by None c is = (refl, is)
none_by (Some a) c is = absurd (cc is)

connected_by : (o : Option Session) → is_connected o ≡ true → (y : Keyed) × ((was : ℕ) × (o ≡ Some (Connect y was)))
connected_by None is = absurd (cc is)
connected_by (Some (Connect y was)) is = (y, (was, refl))
connected_by (Some (Ft q was)) is = absurd (cc is)

pub ready_by : (s : State) → may_renew s ≡ true → IsReady s
ready_by s is =
    let two = none_by s.attempt (is_connected s.session) is in
    let x = connected_by s.session two.1 in
    record { none = two.0; key = x.0; was = x.1.0; is = x.1.1 }

none_there : (d : Domain) (n p : Node) (s : State) (h : List Act) → IsReady s → SupplicantStands d n p s h → attempt p h ≡ None
none_there d n p s h w st = subst (λ (o : Option Attempt). HasAttempt d n p s.base s.session o h) w.none st.attempt_is

held_there : (d : Domain) (n p : Node) (s : State) (h : List Act) → (w : IsReady s) → SupplicantStands d n p s h → IsHeld d n p s.base w.key w.was h
held_there d n p s h w st = subst (λ (x : Option Session). HasSession d n p s.base x h) w.is st.session_is

-- M1 is judged by the counter of the session, and by what was drawn
opening_verdict : (d : Domain) (drawn sta : ℕ) (p : Node) (s : State) (h : List Act) (k : KeyMessage) → IsReady s → SupplicantStands d (Sta sta) p s h → renews d ≡ true → pending h ≡ None
    → m1_verdict d drawn h p k ≡ above (counter_in s.session) k.fields.counter (if nat_lt drawn draw_end then Accepted else Refused reason.Spent)
opening_verdict d drawn sta p s h k w st renewed nobody =
    let l : IsHeld d (Sta sta) p s.base w.key w.was h = held_there d (Sta sta) p s h w st in
    let opens : opens_renewal d h p ≡ true =
    ap (λ (c : Bool). c && (not (is_some (pending h)) && (is_some (session p h) && has_four_way (session_start p h)))) renewed
    ∙ ap (λ (o : Option Node). not (is_some o) && (is_some (session p h) && has_four_way (session_start p h))) nobody
    ∙ ap (λ (y : Option Derivation). is_some y && has_four_way (session_start p h)) l.is ∙ l.begun in
    ap (m1_verdict_in d drawn h p k) (none_there d (Sta sta) p s h w st)
    ∙ ap (λ (c : Bool). if c then above (kept_counter p (chain p h)) k.fields.counter (if nat_lt drawn draw_end then Accepted else Refused reason.Spent) else Refused reason.Unawaited) opens
    ∙ ap (λ (o : Option ℕ). above o k.fields.counter (if nat_lt drawn draw_end then Accepted else Refused reason.Spent)) (l.keeps ∙ sym (ap counter_in w.is))

-- ---- refused

opened_none : (d : Domain) (first sta a : ℕ) (s : State) (v : Option (List ℕ)) (why : Reason) (octets : List ℕ) (k : KeyMessage) (r : Reply) (h : List Act) → IsEmpty r → SupplicantStands d (Sta sta) (Ap a) s h → IsMessageFrom d (Sta sta) (Ap a) octets k
    → first_verdict d first (Sta sta) h (KeyedReading k) ≡ Refused why → SupplicantOpens (here d first (Sta sta)) (Ap a) v (taken_as octets k (Refused why)) s r h
opened_none d first sta a s v why octets k r h empty st from refused =
    let took : Act = Took (Some (Ap a)) octets (kind.Key k.message) (Refused why) None in
    let told : opening_told (here d first (Sta sta)) (Ap a) s.base.r0kh_id v (taken_as octets k (Refused why)) r ≡ took ∷ [] =
    acts_told [] d (root_at d (Sta sta) s.base.r0kh_id) (Sta sta) (Ap a) octets k (Refused why) false r (verifies None) (tells_silent (Ap a) r None (empty_silent r empty) empty.verified) in
    record {
      adds = subst (λ (l : List Act). TakeRow (here d first (Sta sta)) h octets l) (sym told) (adds_refused d first sta (Ap a) octets k h why from refused);
      stands = subst (λ (l : List Act). SupplicantStands d (Sta sta) (Ap a) s (add l h)) (sym told) (stands_refused d (Sta sta) (Ap a) s octets (kind.Key k.message) why None h st);
      remembers = λ q ks remembers. subst (λ (l : List Act). RemembersAll q ks (add l h)) (sym told) (remembers_took q (Ap a) octets (kind.Key k.message) (Refused why) None ks h remembers);
    }

pub opening_low : (f : KeyFrame) (v : Option (List ℕ)) (s : State) (was : ℕ) (r : Reply) → IsReady s → IsEmpty r → IsNotAbove (counter_in s.session) f.counter was → IsOpening f v s s (Refused (reason.Counter was)) r
opening_low f v s was r w empty low = record {
  steps = λ d first sta a octets k h st from is fields renewed nobody next.
      opened_none d first sta a s v (reason.Counter was) octets k r h empty st from
      (m1_is d first sta (Ap a) octets k h from is ∙ opening_verdict d (first + draws h) sta (Ap a) s h k w st renewed nobody
      ∙ ap (λ (g : KeyFields). above (counter_in s.session) g.counter (if nat_lt (first + draws h) draw_end then Accepted else Refused reason.Spent)) fields
      ∙ low_counter (counter_in s.session) f.counter was low (if nat_lt (first + draws h) draw_end then Accepted else Refused reason.Spent));
  refused = λ y e. refl;
  whole = whole_empty r empty;
  installs = empty.installed;
  ends = (refl, refl);
}

-- no nonce can be drawn
pub opening_spent : (f : KeyFrame) (s : State) (r : Reply) → IsReady s → IsEmpty r → IsAbove (counter_in s.session) f.counter → IsOpening f None s s (Refused reason.Spent) r
opening_spent f s r w empty high = record {
  steps = λ d first sta a octets k h st from is fields renewed nobody next.
      opened_none d first sta a s None reason.Spent octets k r h empty st from
      (m1_is d first sta (Ap a) octets k h from is ∙ opening_verdict d (first + draws h) sta (Ap a) s h k w st renewed nobody
      ∙ ap (λ (g : KeyFields). above (counter_in s.session) g.counter (if nat_lt (first + draws h) draw_end then Accepted else Refused reason.Spent)) fields
      ∙ high_counter (counter_in s.session) f.counter high (if nat_lt (first + draws h) draw_end then Accepted else Refused reason.Spent)
      ∙ ap (λ (c : Bool). if c then Accepted else Refused reason.Spent) (le-ltb (first + draws h) draw_end next));
  refused = λ y e. refl;
  whole = whole_empty r empty;
  installs = empty.installed;
  ends = (refl, refl);
}

-- ---- accepted

-- keys do not go back to an R0KH-ID, and the association response is not asked
root_plain : (akm : Akm) (d : Domain) (s : Node) (id other : List ℕ) → can_renew akm ≡ true → root_by akm d s id ≡ root_by akm d s other
root_plain Psk d s id other can = refl
root_plain PskSha256 d s id other can = refl
root_plain FtPsk d s id other can = absurd (cc can)

response_plain : (akm : Akm) (h : List Act) (p : Node) → can_renew akm ≡ true → KnowsResponse akm h p M1 (responded_facts None)
response_plain Psk h p can = tt
response_plain PskSha256 h p can = tt
response_plain FtPsk h p can = absurd (cc can)

adds_opened : (d : Domain) (first sta : ℕ) (p : Node) (b : Base) (octets v : List ℕ) (k : KeyMessage) (h : List Act) (y : Keyed) → IsMessageFrom d (Sta sta) p octets k → k.message ≡ M1 → attempt p h ≡ None → renews d ≡ true → first_verdict d first (Sta sta) h (KeyedReading k) ≡ Accepted
    → v ≡ next_nonce d first (Sta sta) h → y.snonce ≡ v → y.anonce ≡ k.fields.nonce → y.ptk ≡ ptk (inputs_by d (root_at d (Sta sta) b.r0kh_id) (Sta sta) p y)
    → TakeRow (here d first (Sta sta)) h octets (opening_acts d (Sta sta) p octets v (key_by d (root_at d (Sta sta) b.r0kh_id) (Sta sta) p y) k.fields.counter)
adds_opened d first sta p b octets v k h y from is none renewed accepted next drawn theirs keyed =
    let can : can_renew d.akm ≡ true = can_renew_in d renewed in
    let i : Inputs = inputs_by d (root_at d (Sta sta) b.r0kh_id) (Sta sta) p y in
    record {
      r = KeyedReading k;
      reads = from.reads;
      facts = responded_facts None;
      knows = λ so q peer. knows_m1 d h k p q None is (let mine_is : peer_of d (Sta sta) k.header.a2 ≡ Some p = from.from in let both = sym mine_is ∙ peer in cc) (response_plain d.akm h p can);
      row = By_opening_m1 (record {
        k = k;
        is = refl;
        message_is = is;
        p = p;
        from = from.from;
        accepted = accepted_m1 d first (Sta sta) p h k (responded_facts None) is from.from accepted;
        none = none;
        i = i;
        inputs_are = made_of d (root_at d (Sta sta) b.r0kh_id) (root_at d (Sta sta) []) sta p y (next_nonce d first (Sta sta) h) v k (root_plain d.akm d (Sta sta) b.r0kh_id [] can) drawn (sym next) theirs;
        says = ap (λ (q : Ptk). opening_acts d (Sta sta) p octets v (record { inputs = i; ptk = q }) k.fields.counter) keyed
            ∙ ap (λ (w : List ℕ). opening_acts d (Sta sta) p octets w (keyed_by i) k.fields.counter) next;
      });
    }

-- the acts of the reply are those of the row
opened_as : (d : Domain) (n p : Node) (octets v : List ℕ) (k : KeyMessage) (z : Derivation) (counter : ℕ) (fte : List ℕ) → k.message ≡ M1 → counter ≡ k.fields.counter
    → Took (Some p) octets (kind.Key k.message) Accepted None ∷ Opened p Renew ∷ Drew (Nonce v) ∷ Derived p z.inputs z.ptk ∷ sent_m2_by true d n p z counter fte ∷ [] ≡ opening_acts d n p octets v z k.fields.counter
opened_as d n p octets v k z counter fte is same =
    ap (λ (m : Message). Took (Some p) octets (kind.Key m) Accepted None ∷ Opened p Renew ∷ Drew (Nonce v) ∷ Derived p z.inputs z.ptk ∷ sent_m2_by true d n p z counter fte ∷ []) is
    ∙ ap (opening_acts d n p octets v z) same

pub opening_accepted : (f : KeyFrame) (v : List ℕ) (s : State) (new : Attempt) (r : Reply) → IsReady s → IsAbove (counter_in s.session) f.counter → Answers s.ends s.base f true (record { snonce = v; key = None }) new r → IsWhole r → r.installed ≡ None
    → IsOpening f (Some v) s (having (Some new) s.session s) Accepted r
opening_accepted f v s new r w high answers whole plain = record {
  steps = λ d first sta a octets k h st from is fields renewed nobody next.
      (let y = answers.key in
      let b = s.base in
      let l : IsHeld d (Sta sta) (Ap a) b w.key w.was h = held_there d (Sta sta) (Ap a) s h w st in
      let of : IsKeyOf s.ends b.pmk y = is_key_of s.ends b.pmk f.nonce v y answers.key_is in
      let keyed : y.ptk ≡ ptk (inputs_by d (root_at d (Sta sta) b.r0kh_id) (Sta sta) (Ap a) y) = key_is d (root_at d (Sta sta) b.r0kh_id) (Sta sta) (Ap a) s.ends b.pmk y st.ends l.based.of.pmk of in
      let drawn : y.snonce ≡ v = ap (λ (z : Keyed). z.snonce) answers.key_is in
      let nonce_is : y.anonce ≡ k.fields.nonce = ap (λ (z : Keyed). z.anonce) answers.key_is ∙ ap (λ (g : KeyFields). g.nonce) (sym fields) in
      let counter_is : f.counter ≡ k.fields.counter = ap (λ (g : KeyFields). g.counter) (sym fields) in
      let accepted : first_verdict d first (Sta sta) h (KeyedReading k) ≡ Accepted = m1_is d first sta (Ap a) octets k h from is ∙ opening_verdict d (first + draws h) sta (Ap a) s h k w st renewed nobody
      ∙ ap (λ (c : ℕ). above (counter_in s.session) c (if nat_lt (first + draws h) draw_end then Accepted else Refused reason.Spent)) (sym counter_is)
      ∙ high_counter (counter_in s.session) f.counter high (if nat_lt (first + draws h) draw_end then Accepted else Refused reason.Spent)
      ∙ ap (λ (c : Bool). if c then Accepted else Refused reason.Spent) (lt-ltb (first + draws h) draw_end next.0) in
      let z : Derivation = key_by d (root_at d (Sta sta) b.r0kh_id) (Sta sta) (Ap a) y in
      let acts : List Act = opening_acts d (Sta sta) (Ap a) octets v z k.fields.counter in
      let told : opening_told (here d first (Sta sta)) (Ap a) b.r0kh_id (Some v) (taken_as octets k Accepted) r ≡ acts =
      acts_told (Opened (Ap a) Renew ∷ Drew (Nonce v) ∷ []) d (root_at d (Sta sta) b.r0kh_id) (Sta sta) (Ap a) octets k Accepted false r (derives y (sent_m2_by true d (Sta sta) (Ap a) z f.counter (fte_in b) ∷ []))
      (answers.tells d (Sta sta) (Ap a) z st.ends refl refl (mobile_by d (Sta sta) (Ap a) b y b.mobility l.based.of.mobility) renewed)
      ∙ opened_as d (Sta sta) (Ap a) octets v k z f.counter (fte_in b) is counter_is in
      record {
        adds = subst (λ (g : List Act). TakeRow (here d first (Sta sta)) h octets g) (sym told) (adds_opened d first sta (Ap a) b octets v k h y from is (none_there d (Sta sta) (Ap a) s h w st) renewed accepted next.1 drawn nonce_is keyed);
        stands = subst (λ (g : List Act). SupplicantStands d (Sta sta) (Ap a) (having (Some new) s.session s) (add g h)) (sym told) (record {
          ends = st.ends;
          attempt_is = subst (λ (x : Option Session). HasAttempt d (Sta sta) (Ap a) b x (Some new) (add acts h)) (sym w.is)
              (subst (λ (x : Attempt). HasAttempt d (Sta sta) (Ap a) b (Some (Connect w.key w.was)) (Some x) (add acts h)) (sym answers.is) (renewing_opened d (Sta sta) (Ap a) b v octets y k.fields.counter h renewed));
          session_is = subst (λ (x : Option Session). HasSession d (Sta sta) (Ap a) b x (add acts h)) (sym w.is) (held_opened d (Sta sta) (Ap a) b w.key w.was v octets z k.fields.counter h renewed l);
        });
        remembers = λ q ks remembers. subst (λ (g : List Act). RemembersAll q ks (add g h)) (sym told) (remembers_opened d (Sta sta) (Ap a) q octets v z k.fields.counter ks h remembers);
      });
  refused = λ y e. cc;
  whole = whole;
  installs = plain;
  ends = (refl, refl);
}
