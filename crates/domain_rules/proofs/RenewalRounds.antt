-- The rounds of an example of the group key handshake: a new key is drawn and given, and becomes current.
use Rattle.domain_base.specs.declared.names.Node.{Node}
use Rattle.domain_base.specs.declared.names.Node.TheVariants.{Ap, Sta}
use Rattle.domain_base.specs.declared.names.Peer.TheVariants.{One, All}
use Rattle.domain_rules.proofs.Refused.{no_facts}
use Rattle.domain_rules.proofs.Exchange.{length-nonce, length-gtk, octets-gtk, g1-in, g2-in, take_step, same_octets, nothing_further, stands, IsPair, Stage, after_sta, after_ap}
use Rattle.domain_rules.proofs.Parts.{same-refl, attempt_more}
use Rattle.domain_rules.proofs.Peers.{not_same}
use Rattle.domain_rules.proofs.CarriedKey.{IsGroupKey, wrapped_g1, says_g1}
use Rattle.domain_rules.proofs.KeyOctets.{octets-kek}
use Rattle.domain_rules.proofs.SentReads.{g1_message, g1_fields, reads-g1, fits-g1, g2_message, g2_fields, reads-g2, fits-g2, mic-sealed, reads-counter, reads-m3, few-m3, m3_message}
use Rattle.domain_rules.proofs.Verdicts.{verified-same, keyed-from}
use Rattle.domain_rules.specs.Asking.{in_renewal, greatest, kept_counter, offered, verified, replay_counter}
use Rattle.domain_rules.specs.Counters.{next_in_attempt, first_in_session, next_in_session}
use Rattle.domain_rules.specs.Explained.{push}
use Rattle.domain_rules.specs.Facts.{Facts, ReadsKeyData}
use Rattle.domain_rules.specs.Frames.{g1_key_data, sent_m3, sent_g1, sent_g2, keyed_by}
use Rattle.domain_rules.specs.GroupKeys.{find_key, memory, give_by, give_all, News, gtk_news, news}
use Rattle.domain_rules.specs.Network.{mac, gtk, draw_end, peer_of}
use Rattle.domain_rules.specs.Owing.{is_open, owing, any_owes, current_acts, switch_acts}
use Rattle.domain_rules.specs.StationRows.{carried_keys}
use Rattle.domain_rules.specs.Reading.{KeyMessage, Keyed, Reads}
use Rattle.domain_rules.specs.Rows.{TakeRow, Adds, By_g1, By_g2}
use Rattle.domain_rules.specs.Rows as event
use Rattle.domain_rules.specs.AccessPointRows.{g1_to, to_session, to_sessions, rekey_acts, RekeyRow, Renews}
use Rattle.domain_rules.specs.StationKeys.{KnowsM3, g1_wrapped}
use Rattle.domain_rules.proofs.OneOutcome.{from_named}
use Rattle.domain_rules.proofs.SuiteWords.{no_response}
use Rattle.domain_rules.specs.Verdict.{is_mine, key_further, further, first_verdict, verdict}
use Rattle.domain_rules.specs.Here.{here}
use Rattle.eapol_key.specs.declared.messages.Message.TheVariants.{M2, M4, G1, G2}
use Rattle.key_hierarchy.specs.Keys.{ptk}
use Rattle.key_hierarchy.specs.declared.inputs.Inputs.{Inputs}
use Rattle.rsn_elements.specs.Elements.{ElementFields}
use Rattle.rsn_elements.specs.Pieces.{SentGtkKde, said}
use Rattle.rsn_elements.specs.declared.framing.Within.TheVariants.{KeyData}
use Rattle.run_journal.specs.declared.acts.GroupKind.TheVariants as groups
use Rattle.run_journal.specs.Acts.{Derivation, GroupKey}
use Rattle.run_journal.specs.Questions.{attempt, chain, session, handshake, add}
use Rattle.run_journal.specs.declared.acts.Act.TheVariants.{Drew, Derived, Took, Installed, Finished}
use Rattle.run_journal.specs.declared.acts.Act.{Act}
use Rattle.run_journal.specs.declared.acts.Drawn.TheVariants as draw
use Rattle.run_journal.specs.declared.acts.Key.TheVariants.{Pairwise, Group}
use Rattle.run_journal.specs.declared.acts.Kind.TheVariants as kind
use Rattle.run_journal.specs.declared.acts.Outcome.TheVariants.{Accepted}
use Rattle.run_journal.specs.declared.acts.Seal.{Seal}
use Rattle.run_journal.specs.declared.domain.Domain.{Domain}
use Rattle.run_journal.specs.declared.domain.Event.TheVariants.{Deliver, Rekey}
use Rattle.run_journal.specs.declared.domain.Event.{Event}
use Rattle.std.proofs.Common.{◌≡◌, ℕ, zero, suc, ◌<◌, ◌≤◌, Bool, true, false, List, [], ◌∷◌, length, Option, Some, None, is_some, refl, sym, ap, subst, ◌∙◌, arith, inl, inr}
use Rattle.std.proofs.lemmas.Bool.{eqb-true, cases_lt, cases_Bool}
use Rattle.std.specs.Prelude.{not, ◌||◌, ◌++◌, ◌==◌, cond}
use Rattle.domain_rules.proofs.Journals.{AtOne}
use Rattle.domain_rules.proofs.Unprotected.{news_off, give_off, draw_off, last_draw_off, current_off, reads_so}
use Rattle.domain_rules.proofs.RenewalActs as w
use Rattle.domain_rules.proofs.HandshakeActs as first
use Rattle.domain_rules.proofs.KeyRounds.{stage9}

-- ---- of many stations one has a session

-- no other station has one
abbrev pub Alone : ℕ → List Act → Type 0
Alone m h = (j : ℕ) → (j == m) ≡ false → session (Sta j) h ≡ None

apart_from : (j m : ℕ) → (j ≡ m → ⊥) → (j == m) ≡ false
apart_from j m other = elim (cases_Bool (j == m)) [ inl is ↦ absurd (other (eqb-true j m is)) | inr none ↦ none ]

to_none : (d : Domain) (n : Node) (p : Node) (h : List Act) → session p h ≡ None → to_session d n p h (session p h) ≡ []
to_none d n p h none = ap (to_session d n p h) none

below_none : (d : Domain) (n : Node) (m : ℕ) (h : List Act) → Alone m h → (k : ℕ) → k ≤ m → to_sessions d n k h ≡ []
below_none d n m h alone zero low = refl
below_none d n m h alone (suc k) low =
    let none = below_none d n m h alone k (omega (arith, low)) in
    ap (λ (l : List Act). l ++ to_session d n (Sta k) (add l h) (session (Sta k) (add l h))) none ∙ to_none d n (Sta k) h (alone k (apart_from k m (λ is. omega (arith, is, low))))

pub only_one : (d : Domain) (n : Node) (m : ℕ) (h : List Act) (x : Derivation) → Alone m h → session (Sta m) h ≡ Some x → (k : ℕ) → m < k → to_sessions d n k h ≡ g1_to d n (Sta m) h x ∷ []
only_one d n m h x alone has zero low = absurd (omega (arith, low))
only_one d n m h x alone has (suc k) low = elim (cases_lt m k) [
  | inl less ↦
      let one = only_one d n m h x alone has k less in
      ap (λ (l : List Act). l ++ to_session d n (Sta k) (add l h) (session (Sta k) (add l h))) one
      ∙ ap (λ (l : List Act). (g1_to d n (Sta m) h x ∷ []) ++ l) (to_none d n (Sta k) (g1_to d n (Sta m) h x ∷ h) (alone k (apart_from k m (λ is. omega (arith, is, less)))))
  | inr most ↦
      let none = below_none d n m h alone k most in
      let same : k ≡ m = omega (arith, low, most) in
      ap (λ (l : List Act). l ++ to_session d n (Sta k) (add l h) (session (Sta k) (add l h))) none
      ∙ ap (λ (j : ℕ). to_session d n (Sta j) h (session (Sta j) h)) same ∙ ap (to_session d n (Sta m) h) has
]

-- and so at most that one owes
pub owes_no_more : (k : ℕ) (h : List Act) → ((j : ℕ) → owing groups.Gtk (Sta j) h ≡ None) → any_owes groups.Gtk k h ≡ false
owes_no_more zero h none = refl
owes_no_more (suc k) h none = rw (none k) (owes_no_more k h none)

either : (b c : Bool) → c ≡ true → (b || c) ≡ true
either true c is = refl
either false c is = is

pub owes_still : (m : ℕ) (h : List Act) (x : Derivation) → owing groups.Gtk (Sta m) h ≡ Some x → (k : ℕ) → m < k → any_owes groups.Gtk k h ≡ true
owes_still m h x owes zero low = absurd (omega (arith, low))
owes_still m h x owes (suc k) low = elim (cases_lt m k) [
  | inl less ↦ either (is_some (owing groups.Gtk (Sta k) h)) (any_owes groups.Gtk k h) (owes_still m h x owes k less)
  | inr most ↦
      let same : k ≡ m = omega (arith, low, most) in
      ap (λ (j : ℕ). is_some (owing groups.Gtk (Sta j) h) || any_owes groups.Gtk k h) same ∙ ap (λ (o : Option Derivation). is_some o || any_owes groups.Gtk k h) owes
]

pub not_owing : (b : Bool) (o : Option Derivation) → o ≡ None → cond b o None ≡ None
not_owing true o is = is
not_owing false o is = refl

-- the session begins
pub next-begun : (p : Node) (i : Inputs) (h : List Act) → in_renewal (attempt p h) ≡ false → next_in_session p (Finished p i ∷ h) ≡ first_in_session p (attempt p h)
next-begun p i h other = rw (same-refl p, other) refl

module _ (d : Domain) (k m : ℕ) (pair : IsPair d k m) (listed : m < length d.stas) (differ : gtk d (Ap k) 2 ≡ gtk d (Ap k) 0 → ⊥) where
  abbrev a : Node
  a = w.a d k m

  abbrev s : Node
  s = w.s d k m

  abbrev i : Inputs
  i = w.i d k m

  abbrev key : Derivation
  key = w.key d k m

  abbrev new : GroupKey
  new = w.new d k m

  abbrev octets9 : List ℕ
  octets9 = w.octets9 d k m

  abbrev octets10 : List ℕ
  octets10 = w.octets10 d k m

  abbrev seal9 : Seal
  seal9 = w.seal9 d k m

  abbrev seal10 : Seal
  seal10 = w.seal10 d k m

  abbrev acts10 : List Act
  acts10 = w.acts10 d k m

  abbrev acts11 : List Act
  acts11 = w.acts11 d k m

  abbrev taken12 : List Act
  taken12 = w.taken12 d k m

  abbrev acts12 : List Act
  acts12 = w.acts12 d k m

  abbrev sta8 : List Act
  sta8 = w.sta8 d k m

  abbrev sta11 : List Act
  sta11 = w.sta11 d k m

  abbrev ap9 : List Act
  ap9 = w.ap9 d k m

  abbrev ap10 : List Act
  ap10 = w.ap10 d k m

  abbrev ap12 : List Act
  ap12 = w.ap12 d k m

  abbrev rounds9 : List (List Event)
  rounds9 = w.rounds9 d k m

  abbrev rounds10 : List (List Event)
  rounds10 = w.rounds10 d k m

  abbrev rounds11 : List (List Event)
  rounds11 = w.rounds11 d k m

  abbrev rounds12 : List (List Event)
  rounds12 = w.rounds12 d k m

  st : Stage d k m rounds9 sta8 ap9 8 (first.octets8 d k m)
  st = stage9 d k m pair

  is_key : IsGroupKey new
  is_key = record { octets = octets-gtk d a 2; size = length-gtk d a 2; low = omega arith }

  -- round 10: the access point draws a new group key, and gives it to its one session
  abbrev drew : List Act
  drew = Drew (draw.Group groups.Gtk new.key) ∷ ap9

  has10 : session s drew ≡ Some key
  has10 = rw (same-refl s) refl

  alone10 : Alone m drew
  alone10 = λ j other. rw other refl

  -- the attempt that became the session had one M1 and two M3
  abbrev before : List Act
  before = Installed (One s) (Pairwise (ptk i).tk i) ∷ Took (Some s) (first.octets8 d k m) (kind.Key M4) Accepted (Some (first.seal8 d k m)) ∷ first.ap7 d k m

  abbrev part10 : List Act
  part10 = Installed (One s) (Pairwise (ptk i).tk i) ∷ Took (Some s) (first.octets8 d k m) (kind.Key M4) Accepted (Some (first.seal8 d k m)) ∷ first.part7 d k m

  attempt2 : attempt s (first.ap2 d k m) ≡ Some (first.part2 d k m)
  attempt2 = rw (same-refl s) refl

  attempt5 : attempt s (first.ap5 d k m) ≡ Some (first.part5 d k m)
  attempt5 = attempt_more s (sent_m3 d a s (keyed_by i) 2 (gtk_news (first.g d k m) 0)) (Derived s i (ptk i) ∷ Took (Some s) (first.octets4 d k m) (kind.Key M2) Accepted (Some (first.seal4 d k m)) ∷ first.ap2 d k m) (Derived s i (ptk i) ∷ Took (Some s) (first.octets4 d k m) (kind.Key M2) Accepted (Some (first.seal4 d k m)) ∷ first.part2 d k m) refl refl
      (attempt_more s (Derived s i (ptk i)) (Took (Some s) (first.octets4 d k m) (kind.Key M2) Accepted (Some (first.seal4 d k m)) ∷ first.ap2 d k m) (Took (Some s) (first.octets4 d k m) (kind.Key M2) Accepted (Some (first.seal4 d k m)) ∷ first.part2 d k m) refl refl
      (attempt_more s (Took (Some s) (first.octets4 d k m) (kind.Key M2) Accepted (Some (first.seal4 d k m))) (first.ap2 d k m) (first.part2 d k m) refl refl attempt2))

  attempt10 : attempt s before ≡ Some part10
  attempt10 = attempt_more s (Installed (One s) (Pairwise (ptk i).tk i)) (Took (Some s) (first.octets8 d k m) (kind.Key M4) Accepted (Some (first.seal8 d k m)) ∷ first.ap7 d k m) (Took (Some s) (first.octets8 d k m) (kind.Key M4) Accepted (Some (first.seal8 d k m)) ∷ first.part7 d k m) refl refl
      (attempt_more s (Took (Some s) (first.octets8 d k m) (kind.Key M4) Accepted (Some (first.seal8 d k m))) (first.ap7 d k m) (first.part7 d k m) refl refl
      (attempt_more s (sent_m3 d a s (keyed_by i) 3 (gtk_news (first.g d k m) 0)) (first.ap5 d k m) (first.part5 d k m) refl refl attempt5))

  sends_first : next_in_attempt s part10 ≡ 4
  sends_first = rw (same-refl s) refl

  counter10 : next_in_session s drew ≡ 4
  counter10 = next-begun s i before (ap in_renewal attempt10) ∙ ap (first_in_session s) attempt10 ∙ sends_first

  sends10 : to_sessions d a (length d.stas) drew ≡ sent_g1 d a s (keyed_by i) 4 (gtk_news new 0) ∷ []
  sends10 = only_one d a m drew key alone10 has10 (length d.stas) listed ∙ ap (λ (c : ℕ). sent_g1 d a s (keyed_by i) c (news d drew) ∷ []) counter10
      ∙ ap (λ (x : News). sent_g1 d a s (keyed_by i) 4 x ∷ []) (news_off d drew pair.unprotected)

  says10 : acts10 ≡ rekey_acts (here d 0 a) ap9
  says10 = ap (λ (l : List Act). Drew (draw.Group groups.Gtk new.key) ∷ l) (sym sends10)
      ∙ ap (λ (drawn : List Act). drawn ++ to_sessions d a (length d.stas) (add drawn ap9)) (sym (draw_off d a 2 pair.unprotected))

  row10 : RekeyRow (here d 0 a) ap9 acts10
  row10 = Renews refl refl (subst (λ (n : ℕ). n < draw_end) (sym (last_draw_off d 2 pair.unprotected)) (omega arith)) says10

  owes10 : owing groups.Gtk s ap10 ≡ Some key
  owes10 = rw (same-refl s) refl

  still10 : switch_acts d k ap10 ≡ []
  still10 = ap (λ (b : Bool). cond b [] (current_acts d a ap10)) (owes_still m ap10 key owes10 (length d.stas) listed)

  step10 : AtOne d 10 (Rekey k) st.journal (push 10 a acts10 st.journal)
  step10 = record {
    node = a;
    at_node = event.Rekey;
    happens = (refl, refl);
    acts = acts10;
    group = subst (λ (h : List Act). Adds (here d 0 a) h event.Rekey acts10) (sym st.ap_is) (record { acts = acts10; row = row10; is = sym (ap (λ (l : List Act). acts10 ++ l) still10) });
    is = refl;
  }

  stage10 : Stage d k m rounds10 sta8 ap10 9 octets9
  stage10 = after_ap d k m rounds9 sta8 ap9 8 (first.octets8 d k m) st (Rekey k) acts10 9 octets9 step10 (ap suc st.count)
      (record { entry = _; there = inl refl; earlier = omega arith; is = ap suc st.count; act = (_, (_, (_, refl))) })

  -- round 11: the station installs it and answers
  abbrev g1 : KeyMessage
  g1 = g1_message d a s (keyed_by i) 4 new 0

  has11 : session a sta8 ≡ Some key
  has11 = rw (same-refl a) refl

  since11 : chain a sta8 ≡ sta8
  since11 = rw (same-refl a) refl

  first_key : IsGroupKey (first.g d k m)
  first_key = record { octets = octets-gtk d a 0; size = length-gtk d a 0; low = omega arith }

  reads5 : Reads d.akm (first.octets5 d k m) (Keyed (m3_message d a s (keyed_by i) 2 (first.g d k m) 0))
  reads5 = reads-m3 d a s (keyed_by i) 2 (first.g d k m) 0 pair.has_mic pair.ap_whole pair.sta_whole (omega arith) (length-nonce d a 1) (few-m3 d a (keyed_by i) (gtk_news (first.g d k m) 0) pair.suite pair.unprotected refl (octets-kek i) first_key)

  reads7 : Reads d.akm (first.octets7 d k m) (Keyed (m3_message d a s (keyed_by i) 3 (first.g d k m) 0))
  reads7 = reads-m3 d a s (keyed_by i) 3 (first.g d k m) 0 pair.has_mic pair.ap_whole pair.sta_whole (omega arith) (length-nonce d a 1) (few-m3 d a (keyed_by i) (gtk_news (first.g d k m) 0) pair.suite pair.unprotected refl (octets-kek i) first_key)

  counter11 : kept_counter a (chain a sta8) ≡ Some 3
  counter11 = ap (kept_counter a) since11 ∙ rw (same-refl a)
      (ap (λ (c : ℕ). greatest (c ∷ replay_counter (first.octets5 d k m) ∷ [])) (reads-counter d.akm (first.octets7 d k m) (m3_message d a s (keyed_by i) 3 (first.g d k m) 0) reads7)
      ∙ ap (λ (c : ℕ). greatest (3 ∷ c ∷ [])) (reads-counter d.akm (first.octets5 d k m) (m3_message d a s (keyed_by i) 2 (first.g d k m) 0) reads5))

  reads11 : Reads d.akm octets9 (Keyed g1)
  reads11 = reads-g1 d a s (keyed_by i) 4 new 0 pair.has_mic pair.ap_whole pair.sta_whole (omega arith) (octets-kek i) is_key

  verifies11 : verified d.akm (ptk i).kck g1 Accepted ≡ Accepted
  verifies11 = verified-same d.akm (ptk i).kck g1 Accepted (mic-sealed d.akm (ptk i).kck (g1_fields d (keyed_by i) 4 new 0) pair.has_mic (fits-g1 d (keyed_by i) 4 new 0 (omega arith) (octets-kek i) is_key))

  mine11 : (not (is_mine d s g1.header) || false) ≡ false
  mine11 = rw (same_octets d s) refl

  first11 : first_verdict d 0 s sta8 (Keyed g1) ≡ Accepted
  first11 = keyed-from d 0 s sta8 g1 a mine11 pair.finds_ap ∙ g1-in d sta8 a g1 key 3 has11 counter11 refl ∙ verifies11

  abbrev said_by_g1 : ElementFields
  said_by_g1 = said KeyData (SentGtkKde new.id new.key ∷ [])

  abbrev facts : Facts
  facts = record { requested = None; responded = None; unwrapped = Some (g1_key_data (gtk_news new 0)); data_ = Some said_by_g1; pulled = None; opened = None; unwrapped_igtk = None; kept = 0 }

  said11 : g1_wrapped d facts.unwrapped facts.data_ ≡ Accepted
  said11 = rw (length-gtk d a 2, pair.unprotected) refl

  further11 : further d 0 s sta8 (Keyed g1) facts ≡ Accepted
  further11 = from_named (peer_of d s g1.header.a2) a (λ p. key_further d s sta8 p g1 G1 facts) pair.finds_ap ∙ said11

  accepted11 : verdict d 0 s sta8 (Keyed g1) facts ≡ Accepted
  accepted11 = stands Accepted _ _ first11 further11 refl

  knows11 : KnowsM3 (ptk i).kek g1 facts
  knows11 = record {
    unwrapped = (octets-kek i, wrapped_g1 (ptk i).kek new is_key);
    data_ = λ plain e. (let same : g1_key_data (gtk_news new 0) ≡ plain = cc e in subst (λ (x : List ℕ). ReadsKeyData x facts.data_) same (says_g1 new is_key));
  }

  -- it is none that the station has
  fresh11 : find_key new.key (memory groups.Gtk a sta8) ≡ None
  fresh11 = rw (same-refl a, not_same (gtk d a 2) (gtk d a 0) differ) refl

  says11 : acts11 ≡ Took (Some a) octets9 (kind.Key G1) Accepted (Some seal9) ∷ (give_all d a (mac d a) (carried_keys facts.data_) sta8 ++ sent_g2 d s a (keyed_by i) 4 ∷ [])
  says11 = ap (λ (o : Option GroupKey). Took (Some a) octets9 (kind.Key G1) Accepted (Some seal9) ∷ give_by groups.Gtk a (mac d a) new o ∷ sent_g2 d s a (keyed_by i) 4 ∷ []) (sym fresh11)
      ∙ ap (λ (given : List Act). Took (Some a) octets9 (kind.Key G1) Accepted (Some seal9) ∷ (given ++ sent_g2 d s a (keyed_by i) 4 ∷ [])) (sym (give_off d a (mac d a) (carried_keys facts.data_) sta8 pair.unprotected))

  row11 : TakeRow (here d 0 s) sta8 octets9 acts11
  row11 = record {
    r = Keyed g1;
    reads = reads_so d octets9 (Keyed g1) refl reads11;
    facts = facts;
    knows = λ came p from. (
      λ x awaited.
          (let same : a ≡ p = cc (from, pair.finds_ap) in
          let one : key ≡ x = cc (has11, subst (λ (q : Node). session q sta8 ≡ Some x) (sym same) awaited) in
          subst (λ (y : Derivation). KnowsM3 y.ptk.kek g1 facts) one knows11),
      no_response d.akm sta8 p G1 facts pair.suite,
    );
    row = By_g1 (record { k = g1; is = refl; message_is = refl; p = a; from = pair.finds_ap; accepted = accepted11; x = key; awaited = has11; says = says11 });
  }

  step11 : AtOne d 11 (Deliver 9 s) stage10.journal (push 11 s acts11 stage10.journal)
  step11 = take_step d 11 9 s octets9 stage10.journal sta8 acts11 stage10.sta_is stage10.was row11 refl

  stage11 : Stage d k m rounds11 sta11 ap10 10 octets10
  stage11 = after_sta d k m rounds10 sta8 ap10 9 octets9 stage10 (Deliver 9 s) acts11 10 octets10 step11 (ap suc stage10.count)
      (record { entry = _; there = inl refl; earlier = omega arith; is = ap suc stage10.count; act = (_, (_, (_, refl))) })

  -- round 12: the access point takes the answer, and the new key becomes current
  abbrev g2 : KeyMessage
  g2 = g2_message d s a (keyed_by i) 4

  offers12 : offered s G1 (handshake groups.Gtk s ap10) ≡ 4 ∷ []
  offers12 = rw (same-refl s) (ap (λ (c : ℕ). c ∷ []) (reads-counter d.akm octets9 g1 reads11))

  verifies12 : verified d.akm (ptk i).kck g2 Accepted ≡ Accepted
  verifies12 = verified-same d.akm (ptk i).kck g2 Accepted (mic-sealed d.akm (ptk i).kck (g2_fields d 4) pair.has_mic (fits-g2 d 4 (omega arith)))

  mine12 : (not (is_mine d a g2.header) || false) ≡ false
  mine12 = rw (same_octets d a) refl

  accepted12 : verdict d 0 a ap10 (Keyed g2) no_facts ≡ Accepted
  accepted12 = stands Accepted _ _ (keyed-from d 0 a ap10 g2 s mine12 pair.finds_sta ∙ g2-in d ap10 s g2 key (4 ∷ []) owes10 offers12 refl ∙ verifies12)
      (nothing_further (peer_of d a g2.header.a2) (λ p. key_further d a ap10 p g2 G2 no_facts) (λ p. refl)) refl

  row12 : TakeRow (here d 0 a) ap10 octets10 taken12
  row12 = record {
    r = Keyed g2;
    reads = reads_so d octets10 (Keyed g2) refl (reads-g2 d s a (keyed_by i) 4 pair.has_mic pair.sta_whole pair.ap_whole (omega arith));
    facts = no_facts;
    knows = λ came p from. (tt, no_response d.akm ap10 p G2 no_facts pair.suite);
    row = By_g2 (record { k = g2; is = refl; message_is = refl; p = s; from = pair.finds_sta; accepted = accepted12; x = key; awaited = owes10; says = refl });
  }

  none12 : (j : ℕ) → owing groups.Gtk (Sta j) (add taken12 ap10) ≡ None
  none12 j = none_by (j == m) refl
    where
      none_by : (b : Bool) → (j == m) ≡ b → owing groups.Gtk (Sta j) (add taken12 ap10) ≡ None
      none_by true is = rw is refl
      none_by false is = not_owing (is_open (Sta j) (handshake groups.Gtk (Sta j) (add taken12 ap10))) (session (Sta j) (add taken12 ap10)) (rw is refl)

  switches12 : switch_acts d k (add taken12 ap10) ≡ Installed All (Group groups.Gtk new.key new.id (mac d a)) ∷ []
  switches12 = ap (λ (b : Bool). cond b [] (current_acts d a (add taken12 ap10))) (owes_no_more (length d.stas) (add taken12 ap10) none12) ∙ current_off d a (add taken12 ap10) pair.unprotected

  step12 : AtOne d 12 (Deliver 10 a) stage11.journal (push 12 a acts12 stage11.journal)
  step12 = record {
    node = a;
    at_node = event.Take octets10;
    happens = (octets10, (stage11.was, (refl, refl)));
    acts = acts12;
    group = subst (λ (h : List Act). Adds (here d 0 a) h (event.Take octets10) acts12) (sym stage11.ap_is) (record { acts = taken12; row = row12; is = sym (ap (λ (l : List Act). taken12 ++ l) switches12) });
    is = refl;
  }

  pub stage12 : Stage d k m rounds12 sta11 ap12 10 octets10
  stage12 = after_ap d k m rounds11 sta11 ap10 10 octets10 stage11 (Deliver 10 a) acts12 10 octets10 step12 stage11.count
      (record { entry = stage11.was.entry; there = inr (inr stage11.was.there); earlier = omega (arith, stage11.was.earlier); is = stage11.was.is; act = stage11.was.act })
