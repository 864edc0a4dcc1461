-- The rounds of that example in which M3 is sent again with the new group key, and both ends begin a session of the new pairwise key.
use Rattle.std.proofs.Common.{◌≡◌, ◌≢◌, ℕ, suc, ◌<◌, true, false, List, [], ◌∷◌, ◌++◌, length, Option, Some, None, refl, sym, ap, subst, ◌∙◌, arith, inl}
use Rattle.std.specs.Prelude.{not, ◌||◌, nat_lt}
use Rattle.std.proofs.lemmas.Slice.Eq.{bytes_eq-Decides}
use Rattle.domain_base.specs.declared.names.Node.{Node}
use Rattle.domain_base.specs.declared.names.Node.TheVariants.{Ap}
use Rattle.domain_base.specs.declared.names.Peer.TheVariants.{One, All}
use Rattle.eapol_key.specs.declared.messages.Message.TheVariants.{M2, M3, M4, G2}
use Rattle.key_hierarchy.specs.Keys.{ptk}
use Rattle.key_hierarchy.specs.declared.inputs.Inputs.{Inputs}
use Rattle.rsn_elements.specs.Elements.{ElementFields}
use Rattle.rsn_elements.specs.Pieces.{SentRsne, SentGtkKde, said}
use Rattle.rsn_elements.specs.declared.framing.Within.TheVariants.{KeyData}
use Rattle.run_journal.specs.Acts.{Derivation, GroupKey}
use Rattle.run_journal.specs.Questions.{attempt, chain, derivation, session, before_sent, add}
use Rattle.run_journal.specs.declared.acts.Act.TheVariants.{Closed, Derived, Took, Installed, Finished}
use Rattle.run_journal.specs.declared.acts.Act.{Act}
use Rattle.run_journal.specs.declared.acts.GroupKind.TheVariants as groups
use Rattle.run_journal.specs.declared.acts.Key.TheVariants.{Pairwise, Group}
use Rattle.run_journal.specs.declared.acts.Kind.TheVariants as kind
use Rattle.run_journal.specs.declared.acts.Outcome.TheVariants.{Accepted}
use Rattle.run_journal.specs.declared.acts.Part.TheVariants.{Session}
use Rattle.run_journal.specs.declared.acts.Seal.{Seal}
use Rattle.run_journal.specs.declared.domain.Domain.{Domain}
use Rattle.run_journal.specs.declared.domain.Event.TheVariants.{Deliver, Retry}
use Rattle.run_journal.specs.declared.domain.Event.{Event}
use Rattle.domain_rules.proofs.DataRounds.{IsSender}
use Rattle.domain_rules.specs.DataExample.{IsPayload}
use Rattle.domain_rules.specs.AccessPointKeys.{m4_keying}
use Rattle.domain_rules.specs.AccessPointRows.{carried_older, m4_acts, newer_acts, retry_acts, most_sends}
use Rattle.domain_rules.specs.Asking.{greatest, kept_counter, has_heard, offered, verified, replay_counter}
use Rattle.domain_rules.specs.Counters.{sent_count, next_in_session}
use Rattle.domain_rules.specs.Explained.{push}
use Rattle.domain_rules.specs.Facts.{Facts, ReadsKeyData}
use Rattle.domain_rules.specs.Frames.{sent_m3, sent_m4, sent_g1, keyed_by}
use Rattle.domain_rules.specs.GroupKeys.{find_key, memory, give_by, give_all, News, gtk_news}
use Rattle.domain_rules.specs.Here.{here}
use Rattle.domain_rules.specs.KeyHolders.{put_acts}
use Rattle.domain_rules.specs.Network.{mac, gtk, renews, peer_of}
use Rattle.domain_rules.specs.Reading.{KeyMessage, Keyed, Reads}
use Rattle.domain_rules.specs.Rows as event
use Rattle.domain_rules.specs.Rows.{Adds, TakeRow, By_g1, By_g2, By_m3, By_m4}
use Rattle.domain_rules.specs.StationRows.{carried_keys}
use Rattle.domain_rules.specs.StationKeys.{Keying, m3_keying, KnowsM3}
use Rattle.domain_rules.specs.Verdict.{is_mine, key_further, further, first_verdict, verdict}
use Rattle.domain_rules.proofs.CarriedKey.{IsGroupKey, says}
use Rattle.domain_rules.proofs.Exchange.{length-nonce, length-gtk, octets-gtk, some-injective, m4-keyed, m3-again, m4-in, key_data-same, take_step, same_octets, nothing_further, stands, IsPair, Stage, after_sta, after_ap}
use Rattle.domain_rules.proofs.Journals.{AtOne}
use Rattle.domain_rules.proofs.KeyOctets.{octets-kek}
use Rattle.domain_rules.proofs.OneOutcome.{from_named}
use Rattle.domain_rules.proofs.Parts.{same-refl}
use Rattle.domain_rules.proofs.Refused.{no_facts}
use Rattle.domain_rules.proofs.RenewedReads.{m3-keyed_renewal, is-replaced, retries-renewal, counter_taken, counter_left, counter_kept}
use Rattle.domain_rules.proofs.SentReads.{wraps-m3, m3_message, m3_fields, reads-m3, fits-m3, few-m3, m4_message, m4_fields, reads-m4, fits-m4, mic-sealed, reads-counter}
use Rattle.domain_rules.proofs.SuiteWords.{plain_key_data, m3_further_suite, put_suite, no_response}
use Rattle.domain_rules.proofs.Unprotected.{news_off, give_off, reads_so}
use Rattle.domain_rules.proofs.Verdicts.{verified-same, keyed-from}
use Rattle.domain_rules.proofs.HandshakeActs as first
use Rattle.example_domains.proofs.UsedActs as w
use Rattle.domain_rules.proofs.RenewedRounds.{counted5, counted7}
use Rattle.example_domains.proofs.UsedGroup.{is_key, counter_g1, counted13, stage17}

module _ (d : Domain) (k m : ℕ) (up : List ℕ) (pair : IsPair d k m) (from : IsSender d k m) (fit : IsPayload up) (begins : renews d ≡ true) (listed : m < length d.stas) (differ : gtk d (Ap k) 3 ≢ gtk d (Ap k) 0) where
  abbrev a : Node
  a = w.a d k m up

  abbrev s : Node
  s = w.s d k m up

  abbrev i2 : Inputs
  i2 = w.i2 d k m up

  abbrev key : Derivation
  key = w.key d k m up

  abbrev key2 : Derivation
  key2 = w.key2 d k m up

  abbrev g : GroupKey
  g = w.g d k m up

  abbrev new : GroupKey
  new = w.new d k m up

  abbrev octets11 : List ℕ
  octets11 = w.octets11 d k m up

  abbrev octets14 : List ℕ
  octets14 = w.octets14 d k m up

  abbrev octets15 : List ℕ
  octets15 = w.octets15 d k m up

  abbrev octets16 : List ℕ
  octets16 = w.octets16 d k m up

  abbrev octets17 : List ℕ
  octets17 = w.octets17 d k m up

  abbrev seal11 : Seal
  seal11 = w.seal11 d k m up

  abbrev seal14 : Seal
  seal14 = w.seal14 d k m up

  abbrev seal15 : Seal
  seal15 = w.seal15 d k m up

  abbrev seal16 : Seal
  seal16 = w.seal16 d k m up

  abbrev acts18 : List Act
  acts18 = w.acts18 d k m up

  abbrev acts19 : List Act
  acts19 = w.acts19 d k m up

  abbrev taken20 : List Act
  taken20 = w.taken20 d k m up

  abbrev acts20 : List Act
  acts20 = w.acts20 d k m up

  abbrev sta16 : List Act
  sta16 = w.sta16 d k m up

  abbrev sta19 : List Act
  sta19 = w.sta19 d k m up

  abbrev ap12 : List Act
  ap12 = w.ap12 d k m up

  abbrev ap15 : List Act
  ap15 = w.ap15 d k m up

  abbrev ap17 : List Act
  ap17 = w.ap17 d k m up

  abbrev ap18 : List Act
  ap18 = w.ap18 d k m up

  abbrev ap20 : List Act
  ap20 = w.ap20 d k m up

  abbrev asked16 : List Act
  asked16 = w.asked16 d k m up

  abbrev part17 : List Act
  part17 = w.part17 d k m up

  abbrev part18 : List Act
  part18 = w.part18 d k m up

  abbrev rounds17 : List (List Event)
  rounds17 = w.rounds17 d k m up

  abbrev rounds18 : List (List Event)
  rounds18 = w.rounds18 d k m up

  abbrev rounds19 : List (List Event)
  rounds19 = w.rounds19 d k m up

  abbrev rounds20 : List (List Event)
  rounds20 = w.rounds20 d k m up

  st : Stage d k m rounds17 sta16 ap17 14 octets14
  st = stage17 d k m up pair from fit begins listed differ

  key_is : IsGroupKey new
  key_is = is_key d k m up pair from fit begins listed differ

  -- ---- round 18: the access point sends M3 again, with the new group key

  attempt17 : attempt s ap17 ≡ Some part17
  attempt17 = rw (same-refl s) refl

  heard18 : has_heard s (kind.Key M2) part17 ≡ true
  heard18 = rw (same-refl s) refl

  few18 : nat_lt (sent_count s M3 part17) most_sends ≡ true
  few18 = rw (same-refl s) refl

  derives18 : derivation s part17 ≡ Some key2
  derives18 = rw (same-refl s) refl

  abbrev past14 : List Act
  past14 = Derived s i2 (ptk i2) ∷ Took (Some s) octets11 (kind.Key M2) Accepted (Some seal11) ∷ ap12

  before18 : before_sent s (kind.Key M3) ap17 ≡ Some past14
  before18 = rw (same-refl s) refl

  took17 : next_in_session s (Took (Some s) octets14 (kind.Key G2) Accepted (Some seal14) ∷ ap15) ≡ 7
  took17 = counter_left s (Took (Some s) octets14 (kind.Key G2) Accepted (Some seal14)) ap15 7 refl refl (counter_g1 d k m up pair from fit begins listed differ)

  counter17 : next_in_session s ap17 ≡ 7
  counter17 = counter_left s (Installed All (Group groups.Gtk new.key new.id (mac d a))) (Took (Some s) octets14 (kind.Key G2) Accepted (Some seal14) ∷ ap15) 7 refl refl took17

  retries18 : acts18 ≡ retry_acts d a ap17 s (attempt s ap17)
  retries18 = ap (λ (c : ℕ). sent_m3 d a s (keyed_by i2) c (gtk_news new 0) ∷ []) (sym counter17)
      ∙ ap (λ (x : News). sent_m3 d a s (keyed_by i2) (next_in_session s ap17) x ∷ []) (sym (news_off d ap17 pair.unprotected))
      ∙ sym (retries-renewal d a ap17 s part17 past14 key2 attempt17 refl refl heard18 few18 derives18 before18)

  step18 : AtOne d 18 (Retry k m) st.journal (push 18 a acts18 st.journal)
  step18 = record {
    node = a;
    at_node = event.Retry m;
    happens = (refl, refl);
    acts = acts18;
    group = subst (λ (h : List Act). Adds (here d 0 a) h (event.Retry m) acts18) (sym st.ap_is) (record { acts = acts18; row = retries18; is = refl });
    is = refl;
  }

  stage18 : Stage d k m rounds18 sta16 ap18 15 octets15
  stage18 = after_ap d k m rounds17 sta16 ap17 14 octets14 st (Retry k m) acts18 15 octets15 step18 (ap suc st.count)
      (record { entry = _; there = inl refl; earlier = omega arith; is = ap suc st.count; act = (_, (_, (_, refl))) })

  counter18 : next_in_session s ap18 ≡ 8
  counter18 = counter_taken s (sent_m3 d a s (keyed_by i2) 7 (gtk_news new 0)) ap17 7 refl (rw (same-refl s) refl) counter17

  -- ---- round 19: the station installs the pairwise key by M3 in place of the session's, and resumes the group key

  abbrev m3 : KeyMessage
  m3 = m3_message d a s (keyed_by i2) 7 new 0

  abbrev keying : Keying
  keying = record { key = key2; is_session = false }

  attempt16 : attempt a sta16 ≡ Some asked16
  attempt16 = rw (same-refl a) refl

  derives19 : derivation a asked16 ≡ Some key2
  derives19 = rw (same-refl a) refl

  keying19 : m3_keying a sta16 m3 ≡ Some keying
  keying19 = m3-keyed_renewal a sta16 asked16 m3 key2 attempt16 refl derives19 refl

  since19 : chain a sta16 ≡ sta16
  since19 = rw (same-refl a) refl

  counter19 : kept_counter a (chain a sta16) ≡ Some 6
  counter19 = ap (kept_counter a) since19 ∙ rw (same-refl a)
      (ap (λ (c : ℕ). greatest (c ∷ replay_counter (first.octets5 d k m) ∷ replay_counter (w.octets13 d k m up) ∷ [])) (counted7 d k m pair begins)
      ∙ ap (λ (c : ℕ). greatest (3 ∷ c ∷ replay_counter (w.octets13 d k m up) ∷ [])) (counted5 d k m pair begins)
      ∙ ap (λ (c : ℕ). greatest (3 ∷ 2 ∷ c ∷ [])) (counted13 d k m up pair from fit begins listed differ))

  reads19 : Reads d.akm octets15 (Keyed m3)
  reads19 = reads-m3 d a s (keyed_by i2) 7 new 0 pair.has_mic pair.ap_whole pair.sta_whole (omega arith) (length-nonce d a 2) (few-m3 d a (keyed_by i2) (gtk_news new 0) pair.suite pair.unprotected refl (octets-kek i2) key_is)

  verifies19 : verified d.akm (ptk i2).kck m3 Accepted ≡ Accepted
  verifies19 = verified-same d.akm (ptk i2).kck m3 Accepted (mic-sealed d.akm (ptk i2).kck (m3_fields d a (keyed_by i2) 7 new 0) pair.has_mic (fits-m3 d a (keyed_by i2) 7 new 0 (omega arith) (length-nonce d a 2) (few-m3 d a (keyed_by i2) (gtk_news new 0) pair.suite pair.unprotected refl (octets-kek i2) key_is)))

  mine19 : (not (is_mine d s m3.header) || false) ≡ false
  mine19 = rw (same_octets d s) refl

  first19 : first_verdict d 0 s sta16 (Keyed m3) ≡ Accepted
  first19 = keyed-from d 0 s sta16 m3 a mine19 pair.finds_ap ∙ m3-again d sta16 a m3 keying 6 keying19 counter19 refl refl ∙ verifies19

  abbrev said_by_m3 : ElementFields
  said_by_m3 = said KeyData (SentRsne d.akm None ∷ SentGtkKde new.id new.key ∷ [])

  abbrev facts19 : Facts
  facts19 = record { requested = None; responded = None; unwrapped = Some (plain_key_data d new); data_ = Some said_by_m3; pulled = None; opened = None; unwrapped_igtk = None; kept = 0 }

  further19 : further d 0 s sta16 (Keyed m3) facts19 ≡ Accepted
  further19 = from_named (peer_of d s m3.header.a2) a (λ p. key_further d s sta16 p m3 M3 facts19) pair.finds_ap ∙ m3_further_suite d.akm d (m3_keying a sta16 m3) facts19 pair.suite ∙ key_data-same d.akm d new.key 2 pair.unprotected (length-gtk d a 3) refl

  accepted19 : verdict d 0 s sta16 (Keyed m3) facts19 ≡ Accepted
  accepted19 = stands Accepted _ _ first19 further19 refl

  knows19 : KnowsM3 (ptk i2).kek m3 facts19
  knows19 = record {
    unwrapped = (octets-kek i2, wraps-m3 d a (keyed_by i2) (gtk_news new 0) pair.suite pair.unprotected refl key_is);
    data_ = λ plain e. (let same : plain_key_data d new ≡ plain = cc e in subst (λ (x : List ℕ). ReadsKeyData x facts19.data_) same (says d new key_is));
  }

  -- the station has it from G1
  kept19 : find_key new.key (memory groups.Gtk a sta16) ≡ Some new
  kept19 = rw (same-refl a, (bytes_eq-Decides new.key new.key).1 refl) refl

  abbrev after19 : List Act → List Act
  after19 given = Installed (One a) (Pairwise (ptk i2).tk i2) ∷ (given ++ Finished a i2 ∷ sent_m4 d s a (keyed_by i2) 7 ∷ [])

  says19 : acts19 ≡ Took (Some a) octets15 (kind.Key M3) Accepted (Some seal15) ∷ Closed a Session ∷ after19 (give_all d a (mac d a) (carried_keys facts19.data_) sta16)
  says19 = ap (λ (o : Option GroupKey). Took (Some a) octets15 (kind.Key M3) Accepted (Some seal15) ∷ Closed a Session ∷ after19 (give_by groups.Gtk a (mac d a) new o ∷ [])) (sym kept19)
      ∙ ap (λ (given : List Act). Took (Some a) octets15 (kind.Key M3) Accepted (Some seal15) ∷ Closed a Session ∷ after19 given) (sym (give_off d a (mac d a) (carried_keys facts19.data_) sta16 pair.unprotected))

  row19 : TakeRow (here d 0 s) sta16 octets15 acts19
  row19 = record {
    r = Keyed m3;
    reads = reads_so d octets15 (Keyed m3) refl reads19;
    facts = facts19;
    knows = λ came p from. (
      λ y awaited.
          (let same : a ≡ p = cc (from, pair.finds_ap) in
          let one : keying ≡ y = some-injective keying y (sym keying19 ∙ subst (λ (x : Node). m3_keying x sta16 m3 ≡ Some y) (sym same) awaited) in
          subst (λ (x : Keying). KnowsM3 x.key.ptk.kek m3 facts19) one knows19),
      no_response d.akm sta16 p M3 facts19 pair.suite,
    );
    row = By_m3 (record { k = m3; is = refl; message_is = refl; p = a; from = pair.finds_ap; accepted = accepted19; y = keying; awaited = keying19; says = says19 ∙ is-replaced a sta16 asked16 _ _ attempt16 refl });
  }

  step19 : AtOne d 19 (Deliver 15 s) stage18.journal (push 19 s acts19 stage18.journal)
  step19 = take_step d 19 15 s octets15 stage18.journal sta16 acts19 stage18.sta_is stage18.was row19 refl

  stage19 : Stage d k m rounds19 sta19 ap18 16 octets16
  stage19 = after_sta d k m rounds18 sta16 ap18 15 octets15 stage18 (Deliver 15 s) acts19 16 octets16 step19 (ap suc stage18.count)
      (record { entry = _; there = inl refl; earlier = omega arith; is = ap suc stage18.count; act = (_, (_, (_, refl))) })

  -- ---- round 20: the access point installs it by M4, and sends G1: its first M3 carried an older group key

  abbrev m4 : KeyMessage
  m4 = m4_message d s a (keyed_by i2) 7

  attempt18 : attempt s ap18 ≡ Some part18
  attempt18 = rw (same-refl s) refl

  heard20 : has_heard s (kind.Key M2) part18 ≡ true
  heard20 = rw (same-refl s) refl

  derives20 : derivation s part18 ≡ Some key2
  derives20 = rw (same-refl s) refl

  keying20 : m4_keying s part18 ≡ Some key2
  keying20 = m4-keyed s part18 key2 refl heard20 derives20

  reads12 : Reads d.akm (w.octets12 d k m up) (Keyed (m3_message d a s (keyed_by i2) 5 g 0))
  reads12 = reads-m3 d a s (keyed_by i2) 5 g 0 pair.has_mic pair.ap_whole pair.sta_whole (omega arith) (length-nonce d a 2) (few-m3 d a (keyed_by i2) (gtk_news g 0) pair.suite pair.unprotected refl (octets-kek i2) (record { octets = octets-gtk d a 0; size = length-gtk d a 0; low = omega arith }))

  counters20 : replay_counter octets15 ∷ replay_counter (w.octets12 d k m up) ∷ [] ≡ 7 ∷ 5 ∷ []
  counters20 = ap (λ (c : ℕ). c ∷ replay_counter (w.octets12 d k m up) ∷ []) (reads-counter d.akm octets15 m3 reads19)
      ∙ ap (λ (c : ℕ). 7 ∷ c ∷ []) (reads-counter d.akm (w.octets12 d k m up) (m3_message d a s (keyed_by i2) 5 g 0) reads12)

  offers20 : offered s M3 part18 ≡ 7 ∷ 5 ∷ []
  offers20 = rw (same-refl s) counters20

  verifies20 : verified d.akm (ptk i2).kck m4 Accepted ≡ Accepted
  verifies20 = verified-same d.akm (ptk i2).kck m4 Accepted (mic-sealed d.akm (ptk i2).kck (m4_fields d 7) pair.has_mic (fits-m4 d 7 (omega arith)))

  mine20 : (not (is_mine d a m4.header) || false) ≡ false
  mine20 = rw (same_octets d a) refl

  accepted20 : verdict d 0 a ap18 (Keyed m4) no_facts ≡ Accepted
  accepted20 = stands Accepted _ _ (keyed-from d 0 a ap18 m4 s mine20 pair.finds_sta ∙ m4-in d ap18 s m4 part18 key2 (7 ∷ 5 ∷ []) attempt18 keying20 offers20 refl ∙ verifies20)
      (nothing_further (peer_of d a m4.header.a2) (λ p. key_further d a ap18 p m4 M4 no_facts) (λ p. refl)) refl

  before20 : before_sent s (kind.Key M3) ap18 ≡ Some past14
  before20 = rw (same-refl s) refl

  has20 : session s ap18 ≡ Some key
  has20 = rw (same-refl s) refl

  put20 : put_acts d a ap18 s key2 ≡ []
  put20 = put_suite d.akm d a ap18 s key2 pair.suite

  -- the counters went on
  abbrev closed20 : List Act
  closed20 = Closed s Session ∷ Took (Some s) octets16 (kind.Key M4) Accepted (Some seal16) ∷ ap18

  took20 : next_in_session s (Took (Some s) octets16 (kind.Key M4) Accepted (Some seal16) ∷ ap18) ≡ 8
  took20 = counter_left s (Took (Some s) octets16 (kind.Key M4) Accepted (Some seal16)) ap18 8 refl refl counter18

  left20 : next_in_session s closed20 ≡ 8
  left20 = counter_left s (Closed s Session) (Took (Some s) octets16 (kind.Key M4) Accepted (Some seal16) ∷ ap18) 8 refl refl took20

  installed20 : next_in_session s (Installed (One s) (Pairwise (ptk i2).tk i2) ∷ closed20) ≡ 8
  installed20 = counter_left s (Installed (One s) (Pairwise (ptk i2).tk i2)) closed20 8 refl refl left20

  counter20 : next_in_session s (add taken20 ap18) ≡ 8
  counter20 = counter_kept s (Finished s i2) (Installed (One s) (Pairwise (ptk i2).tk i2) ∷ closed20) 8 (same-refl s) (rw (same-refl s) refl) installed20

  abbrev ends20 : Option Derivation → List Act → Option (List Act) → List Act
  ends20 old put past = m4_acts octets16 m4 s key2 old put ++ newer_acts d a s (add (m4_acts octets16 m4 s key2 old put) ap18) key2 (carried_older s ap18 past)

  says20 : acts20 ≡ ends20 (session s ap18) (put_acts d a ap18 s key2) (before_sent s (kind.Key M3) ap18)
  says20 = ap (λ (c : ℕ). taken20 ++ sent_g1 d a s (keyed_by i2) c (gtk_news new 0) ∷ []) (sym counter20)
      ∙ ap (λ (x : News). taken20 ++ sent_g1 d a s (keyed_by i2) (next_in_session s (add taken20 ap18)) x ∷ []) (sym (news_off d (add taken20 ap18) pair.unprotected))
      ∙ ap (λ (o : Option (List Act)). ends20 (Some key) [] o) (sym before20)
      ∙ ap (λ (o : Option Derivation). ends20 o [] (before_sent s (kind.Key M3) ap18)) (sym has20)
      ∙ ap (λ (put : List Act). ends20 (session s ap18) put (before_sent s (kind.Key M3) ap18)) (sym put20)

  row20 : TakeRow (here d 0 a) ap18 octets16 acts20
  row20 = record {
    r = Keyed m4;
    reads = reads_so d octets16 (Keyed m4) refl (reads-m4 d s a (keyed_by i2) 7 pair.has_mic pair.sta_whole pair.ap_whole (omega arith));
    facts = no_facts;
    knows = λ came p from. (tt, no_response d.akm ap18 p M4 no_facts pair.suite);
    row = By_m4 (record { k = m4; is = refl; message_is = refl; p = s; from = pair.finds_sta; accepted = accepted20; part = part18; awaited = attempt18; x = key2; keyed = keying20; says = says20 });
  }

  step20 : AtOne d 20 (Deliver 16 a) stage19.journal (push 20 a acts20 stage19.journal)
  step20 = take_step d 20 16 a octets16 stage19.journal ap18 acts20 stage19.ap_is stage19.was row20 refl

  pub stage20 : Stage d k m rounds20 sta19 ap20 17 octets17
  stage20 = after_ap d k m rounds19 sta19 ap18 16 octets16 stage19 (Deliver 16 a) acts20 17 octets17 step20 (ap suc stage19.count)
      (record { entry = _; there = inl refl; earlier = omega arith; is = ap suc stage19.count; act = (_, (_, (_, refl))) })
