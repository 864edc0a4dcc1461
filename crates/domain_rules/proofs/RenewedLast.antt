-- The last rounds of that example: M3 is sent again with the new group key, and both ends are in a session of the new pairwise key.
use Rattle.std.proofs.Common.{◌≡◌, ◌≢◌, ℕ, suc, ◌<◌, true, false, List, [], ◌∷◌, ◌++◌, length, Option, Some, None, refl, sym, ap, subst, ◌∙◌, arith, inl, inr}
use Rattle.std.specs.Prelude.{not, ◌||◌, nat_lt}
use Rattle.std.proofs.lemmas.Slice.Eq.{bytes_eq-Decides}
use Rattle.domain_base.specs.declared.names.Node.{Node}
use Rattle.domain_base.specs.declared.names.Node.TheVariants.{Ap}
use Rattle.domain_base.specs.declared.names.Peer.TheVariants.{One, All}
use Rattle.eapol_key.specs.declared.messages.Message.TheVariants.{M2, M3, M4, G2}
use Rattle.key_hierarchy.specs.Keys.{ptk}
use Rattle.key_hierarchy.specs.declared.inputs.Inputs.{Inputs}
use Rattle.rsn_elements.specs.Elements.{ElementFields}
use Rattle.rsn_elements.specs.Pieces.{SentRsne, SentGtkKde, said}
use Rattle.rsn_elements.specs.declared.framing.Within.TheVariants.{KeyData}
use Rattle.run_journal.specs.Acts.{Derivation, GroupKey}
use Rattle.run_journal.specs.Questions.{history, attempt, chain, derivation, session, before_sent, add}
use Rattle.run_journal.specs.Premises.{In}
use Rattle.run_journal.specs.declared.acts.Act.TheVariants.{Closed, Derived, Took, Installed, Finished}
use Rattle.run_journal.specs.declared.acts.Act.{Act}
use Rattle.run_journal.specs.declared.acts.GroupKind.TheVariants as groups
use Rattle.run_journal.specs.declared.acts.Key.TheVariants.{Pairwise, Group}
use Rattle.run_journal.specs.declared.acts.Kind.TheVariants as kind
use Rattle.run_journal.specs.declared.acts.Outcome.TheVariants.{Accepted}
use Rattle.run_journal.specs.declared.acts.Part.TheVariants.{Session}
use Rattle.run_journal.specs.declared.acts.Seal.{Seal}
use Rattle.run_journal.specs.declared.domain.Domain.{Domain}
use Rattle.run_journal.specs.declared.domain.Event.TheVariants.{Deliver, Retry}
use Rattle.run_journal.specs.declared.domain.Event.{Event}
use Rattle.domain_rules.specs.AccessPointKeys.{m4_keying}
use Rattle.domain_rules.specs.AccessPointRows.{carried_older, m4_acts, newer_acts, retry_acts, most_sends}
use Rattle.domain_rules.specs.Asking.{greatest, kept_counter, has_heard, offered, verified, replay_counter}
use Rattle.domain_rules.specs.Counters.{sent_count, next_in_session}
use Rattle.domain_rules.specs.Explained.{push}
use Rattle.domain_rules.specs.Facts.{Facts, ReadsKeyData}
use Rattle.domain_rules.specs.Frames.{sent_m3, sent_m4, sent_g1, keyed_by}
use Rattle.domain_rules.specs.GroupKeys.{find_key, memory, give_by, give_all, News, gtk_news}
use Rattle.domain_rules.specs.StationRows.{carried_keys}
use Rattle.domain_rules.specs.Here.{here}
use Rattle.domain_rules.specs.KeyHolders.{put_acts}
use Rattle.domain_rules.specs.Network.{mac, gtk, renews, peer_of}
use Rattle.domain_rules.specs.Reading.{KeyMessage, Keyed, Reads}
use Rattle.domain_rules.specs.RenewedKey.{HasRenewedKey}
use Rattle.domain_rules.specs.Rows as event
use Rattle.domain_rules.specs.Rows.{Adds, TakeRow, By_g1, By_g2, By_m3, By_m4}
use Rattle.domain_rules.specs.StationKeys.{Keying, m3_keying, KnowsM3}
use Rattle.domain_rules.specs.Verdict.{is_mine, key_further, further, first_verdict, verdict}
use Rattle.domain_rules.proofs.CarriedKey.{IsGroupKey, says}
use Rattle.domain_rules.proofs.Exchange.{length-nonce, length-gtk, octets-gtk, some-injective, m4-keyed, m3-again, m4-in, key_data-same, take_step, same_octets, nothing_further, stands, IsPair, Stage, after_sta, after_ap}
use Rattle.domain_rules.proofs.Journals.{AtOne}
use Rattle.domain_rules.proofs.KeyOctets.{octets-kek}
use Rattle.domain_rules.proofs.OneOutcome.{from_named}
use Rattle.domain_rules.proofs.Parts.{same-refl}
use Rattle.domain_rules.proofs.Refused.{no_facts}
use Rattle.domain_rules.proofs.RenewedReads.{m3-keyed_renewal, is-replaced, retries-renewal, counter_taken, counter_left, counter_kept}
use Rattle.domain_rules.proofs.SentReads.{wraps-m3, m3_message, m3_fields, reads-m3, fits-m3, few-m3, m4_message, m4_fields, reads-m4, fits-m4, mic-sealed, reads-counter}
use Rattle.domain_rules.proofs.SuiteWords.{plain_key_data, m3_further_suite, put_suite, no_response}
use Rattle.domain_rules.proofs.Verdicts.{verified-same, keyed-from}
use Rattle.domain_rules.proofs.Unprotected.{news_off, give_off, reads_so}
use Rattle.domain_rules.proofs.HandshakeActs as first
use Rattle.domain_rules.proofs.RenewedActs as w
use Rattle.domain_rules.proofs.RenewedRounds.{counted5, counted7}
use Rattle.domain_rules.proofs.RenewedGroup.{is_key, counter_g1, counted12, stage15}

module _ (d : Domain) (k m : ℕ) (pair : IsPair d k m) (begins : renews d ≡ true) (listed : m < length d.stas) (differ : gtk d (Ap k) 3 ≢ gtk d (Ap k) 0) where
  abbrev a : Node
  a = w.a d k m

  abbrev s : Node
  s = w.s d k m

  abbrev i : Inputs
  i = w.i d k m

  abbrev i2 : Inputs
  i2 = w.i2 d k m

  abbrev key : Derivation
  key = w.key d k m

  abbrev key2 : Derivation
  key2 = w.key2 d k m

  abbrev g : GroupKey
  g = w.g d k m

  abbrev new : GroupKey
  new = w.new d k m

  abbrev octets10 : List ℕ
  octets10 = w.octets10 d k m

  abbrev octets13 : List ℕ
  octets13 = w.octets13 d k m

  abbrev octets14 : List ℕ
  octets14 = w.octets14 d k m

  abbrev octets15 : List ℕ
  octets15 = w.octets15 d k m

  abbrev octets16 : List ℕ
  octets16 = w.octets16 d k m

  abbrev seal10 : Seal
  seal10 = w.seal10 d k m

  abbrev seal13 : Seal
  seal13 = w.seal13 d k m

  abbrev seal14 : Seal
  seal14 = w.seal14 d k m

  abbrev seal15 : Seal
  seal15 = w.seal15 d k m

  abbrev acts16 : List Act
  acts16 = w.acts16 d k m

  abbrev acts17 : List Act
  acts17 = w.acts17 d k m

  abbrev taken18 : List Act
  taken18 = w.taken18 d k m

  abbrev acts18 : List Act
  acts18 = w.acts18 d k m

  abbrev sta14 : List Act
  sta14 = w.sta14 d k m

  abbrev sta17 : List Act
  sta17 = w.sta17 d k m

  abbrev ap10 : List Act
  ap10 = w.ap10 d k m

  abbrev ap13 : List Act
  ap13 = w.ap13 d k m

  abbrev ap15 : List Act
  ap15 = w.ap15 d k m

  abbrev ap16 : List Act
  ap16 = w.ap16 d k m

  abbrev ap18 : List Act
  ap18 = w.ap18 d k m

  abbrev asked14 : List Act
  asked14 = w.asked14 d k m

  abbrev part15 : List Act
  part15 = w.part15 d k m

  abbrev part16 : List Act
  part16 = w.part16 d k m

  abbrev rounds15 : List (List Event)
  rounds15 = w.rounds15 d k m

  abbrev rounds16 : List (List Event)
  rounds16 = w.rounds16 d k m

  abbrev rounds17 : List (List Event)
  rounds17 = w.rounds17 d k m

  abbrev rounds18 : List (List Event)
  rounds18 = w.rounds18 d k m

  st : Stage d k m rounds15 sta14 ap15 13 octets13
  st = stage15 d k m pair begins listed differ

  key_is : IsGroupKey new
  key_is = is_key d k m pair begins listed differ

  -- ---- round 16: the access point sends M3 again, with the new group key

  attempt15 : attempt s ap15 ≡ Some part15
  attempt15 = rw (same-refl s) refl

  heard16 : has_heard s (kind.Key M2) part15 ≡ true
  heard16 = rw (same-refl s) refl

  few16 : nat_lt (sent_count s M3 part15) most_sends ≡ true
  few16 = rw (same-refl s) refl

  derives16 : derivation s part15 ≡ Some key2
  derives16 = rw (same-refl s) refl

  abbrev past12 : List Act
  past12 = Derived s i2 (ptk i2) ∷ Took (Some s) octets10 (kind.Key M2) Accepted (Some seal10) ∷ ap10

  before16 : before_sent s (kind.Key M3) ap15 ≡ Some past12
  before16 = rw (same-refl s) refl

  took15 : next_in_session s (Took (Some s) octets13 (kind.Key G2) Accepted (Some seal13) ∷ ap13) ≡ 7
  took15 = counter_left s (Took (Some s) octets13 (kind.Key G2) Accepted (Some seal13)) ap13 7 refl refl (counter_g1 d k m pair begins listed differ)

  counter15 : next_in_session s ap15 ≡ 7
  counter15 = counter_left s (Installed All (Group groups.Gtk new.key new.id (mac d a))) (Took (Some s) octets13 (kind.Key G2) Accepted (Some seal13) ∷ ap13) 7 refl refl took15

  retries16 : acts16 ≡ retry_acts d a ap15 s (attempt s ap15)
  retries16 = ap (λ (c : ℕ). sent_m3 d a s (keyed_by i2) c (gtk_news new 0) ∷ []) (sym counter15)
      ∙ ap (λ (x : News). sent_m3 d a s (keyed_by i2) (next_in_session s ap15) x ∷ []) (sym (news_off d ap15 pair.unprotected))
      ∙ sym (retries-renewal d a ap15 s part15 past12 key2 attempt15 refl refl heard16 few16 derives16 before16)

  step16 : AtOne d 16 (Retry k m) st.journal (push 16 a acts16 st.journal)
  step16 = record {
    node = a;
    at_node = event.Retry m;
    happens = (refl, refl);
    acts = acts16;
    group = subst (λ (h : List Act). Adds (here d 0 a) h (event.Retry m) acts16) (sym st.ap_is) (record { acts = acts16; row = retries16; is = refl });
    is = refl;
  }

  stage16 : Stage d k m rounds16 sta14 ap16 14 octets14
  stage16 = after_ap d k m rounds15 sta14 ap15 13 octets13 st (Retry k m) acts16 14 octets14 step16 (ap suc st.count)
      (record { entry = _; there = inl refl; earlier = omega arith; is = ap suc st.count; act = (_, (_, (_, refl))) })

  counter16 : next_in_session s ap16 ≡ 8
  counter16 = counter_taken s (sent_m3 d a s (keyed_by i2) 7 (gtk_news new 0)) ap15 7 refl (rw (same-refl s) refl) counter15

  -- ---- round 17: the station installs the pairwise key by M3 in place of the session's, and resumes the group key

  abbrev m3 : KeyMessage
  m3 = m3_message d a s (keyed_by i2) 7 new 0

  abbrev keying : Keying
  keying = record { key = key2; is_session = false }

  attempt14 : attempt a sta14 ≡ Some asked14
  attempt14 = rw (same-refl a) refl

  derives17 : derivation a asked14 ≡ Some key2
  derives17 = rw (same-refl a) refl

  keying17 : m3_keying a sta14 m3 ≡ Some keying
  keying17 = m3-keyed_renewal a sta14 asked14 m3 key2 attempt14 refl derives17 refl

  since17 : chain a sta14 ≡ sta14
  since17 = rw (same-refl a) refl

  counter17 : kept_counter a (chain a sta14) ≡ Some 6
  counter17 = ap (kept_counter a) since17 ∙ rw (same-refl a)
      (ap (λ (c : ℕ). greatest (c ∷ replay_counter (first.octets5 d k m) ∷ replay_counter (w.octets12 d k m) ∷ [])) (counted7 d k m pair begins)
      ∙ ap (λ (c : ℕ). greatest (3 ∷ c ∷ replay_counter (w.octets12 d k m) ∷ [])) (counted5 d k m pair begins)
      ∙ ap (λ (c : ℕ). greatest (3 ∷ 2 ∷ c ∷ [])) (counted12 d k m pair begins listed differ))

  reads17 : Reads d.akm octets14 (Keyed m3)
  reads17 = reads-m3 d a s (keyed_by i2) 7 new 0 pair.has_mic pair.ap_whole pair.sta_whole (omega arith) (length-nonce d a 2) (few-m3 d a (keyed_by i2) (gtk_news new 0) pair.suite pair.unprotected refl (octets-kek i2) key_is)

  verifies17 : verified d.akm (ptk i2).kck m3 Accepted ≡ Accepted
  verifies17 = verified-same d.akm (ptk i2).kck m3 Accepted (mic-sealed d.akm (ptk i2).kck (m3_fields d a (keyed_by i2) 7 new 0) pair.has_mic (fits-m3 d a (keyed_by i2) 7 new 0 (omega arith) (length-nonce d a 2) (few-m3 d a (keyed_by i2) (gtk_news new 0) pair.suite pair.unprotected refl (octets-kek i2) key_is)))

  mine17 : (not (is_mine d s m3.header) || false) ≡ false
  mine17 = rw (same_octets d s) refl

  first17 : first_verdict d 0 s sta14 (Keyed m3) ≡ Accepted
  first17 = keyed-from d 0 s sta14 m3 a mine17 pair.finds_ap ∙ m3-again d sta14 a m3 keying 6 keying17 counter17 refl refl ∙ verifies17

  abbrev said_by_m3 : ElementFields
  said_by_m3 = said KeyData (SentRsne d.akm None ∷ SentGtkKde new.id new.key ∷ [])

  abbrev facts17 : Facts
  facts17 = record { requested = None; responded = None; unwrapped = Some (plain_key_data d new); data_ = Some said_by_m3; pulled = None; opened = None; unwrapped_igtk = None; kept = 0 }

  further17 : further d 0 s sta14 (Keyed m3) facts17 ≡ Accepted
  further17 = from_named (peer_of d s m3.header.a2) a (λ p. key_further d s sta14 p m3 M3 facts17) pair.finds_ap ∙ m3_further_suite d.akm d (m3_keying a sta14 m3) facts17 pair.suite ∙ key_data-same d.akm d new.key 2 pair.unprotected (length-gtk d a 3) refl

  accepted17 : verdict d 0 s sta14 (Keyed m3) facts17 ≡ Accepted
  accepted17 = stands Accepted _ _ first17 further17 refl

  knows17 : KnowsM3 (ptk i2).kek m3 facts17
  knows17 = record {
    unwrapped = (octets-kek i2, wraps-m3 d a (keyed_by i2) (gtk_news new 0) pair.suite pair.unprotected refl key_is);
    data_ = λ plain e. (let same : plain_key_data d new ≡ plain = cc e in subst (λ (x : List ℕ). ReadsKeyData x facts17.data_) same (says d new key_is));
  }

  -- the station has it from G1
  kept17 : find_key new.key (memory groups.Gtk a sta14) ≡ Some new
  kept17 = rw (same-refl a, (bytes_eq-Decides new.key new.key).1 refl) refl

  abbrev after17 : List Act → List Act
  after17 given = Installed (One a) (Pairwise (ptk i2).tk i2) ∷ (given ++ Finished a i2 ∷ sent_m4 d s a (keyed_by i2) 7 ∷ [])

  says17 : acts17 ≡ Took (Some a) octets14 (kind.Key M3) Accepted (Some seal14) ∷ Closed a Session ∷ after17 (give_all d a (mac d a) (carried_keys facts17.data_) sta14)
  says17 = ap (λ (o : Option GroupKey). Took (Some a) octets14 (kind.Key M3) Accepted (Some seal14) ∷ Closed a Session ∷ after17 (give_by groups.Gtk a (mac d a) new o ∷ [])) (sym kept17)
      ∙ ap (λ (given : List Act). Took (Some a) octets14 (kind.Key M3) Accepted (Some seal14) ∷ Closed a Session ∷ after17 given) (sym (give_off d a (mac d a) (carried_keys facts17.data_) sta14 pair.unprotected))

  row17 : TakeRow (here d 0 s) sta14 octets14 acts17
  row17 = record {
    r = Keyed m3;
    reads = reads_so d octets14 (Keyed m3) refl reads17;
    facts = facts17;
    knows = λ came p from. (
      λ y awaited.
          (let same : a ≡ p = cc (from, pair.finds_ap) in
          let one : keying ≡ y = some-injective keying y (sym keying17 ∙ subst (λ (x : Node). m3_keying x sta14 m3 ≡ Some y) (sym same) awaited) in
          subst (λ (x : Keying). KnowsM3 x.key.ptk.kek m3 facts17) one knows17),
      no_response d.akm sta14 p M3 facts17 pair.suite,
    );
    row = By_m3 (record { k = m3; is = refl; message_is = refl; p = a; from = pair.finds_ap; accepted = accepted17; y = keying; awaited = keying17; says = says17 ∙ is-replaced a sta14 asked14 _ _ attempt14 refl });
  }

  step17 : AtOne d 17 (Deliver 14 s) stage16.journal (push 17 s acts17 stage16.journal)
  step17 = take_step d 17 14 s octets14 stage16.journal sta14 acts17 stage16.sta_is stage16.was row17 refl

  stage17 : Stage d k m rounds17 sta17 ap16 15 octets15
  stage17 = after_sta d k m rounds16 sta14 ap16 14 octets14 stage16 (Deliver 14 s) acts17 15 octets15 step17 (ap suc stage16.count)
      (record { entry = _; there = inl refl; earlier = omega arith; is = ap suc stage16.count; act = (_, (_, (_, refl))) })

  -- ---- round 18: the access point installs it by M4, and sends G1: its first M3 carried an older group key

  abbrev m4 : KeyMessage
  m4 = m4_message d s a (keyed_by i2) 7

  attempt16 : attempt s ap16 ≡ Some part16
  attempt16 = rw (same-refl s) refl

  heard18 : has_heard s (kind.Key M2) part16 ≡ true
  heard18 = rw (same-refl s) refl

  derives18 : derivation s part16 ≡ Some key2
  derives18 = rw (same-refl s) refl

  keying18 : m4_keying s part16 ≡ Some key2
  keying18 = m4-keyed s part16 key2 refl heard18 derives18

  reads11 : Reads d.akm (w.octets11 d k m) (Keyed (m3_message d a s (keyed_by i2) 5 g 0))
  reads11 = reads-m3 d a s (keyed_by i2) 5 g 0 pair.has_mic pair.ap_whole pair.sta_whole (omega arith) (length-nonce d a 2) (few-m3 d a (keyed_by i2) (gtk_news g 0) pair.suite pair.unprotected refl (octets-kek i2) (record { octets = octets-gtk d a 0; size = length-gtk d a 0; low = omega arith }))

  counters18 : replay_counter octets14 ∷ replay_counter (w.octets11 d k m) ∷ [] ≡ 7 ∷ 5 ∷ []
  counters18 = ap (λ (c : ℕ). c ∷ replay_counter (w.octets11 d k m) ∷ []) (reads-counter d.akm octets14 m3 reads17)
      ∙ ap (λ (c : ℕ). 7 ∷ c ∷ []) (reads-counter d.akm (w.octets11 d k m) (m3_message d a s (keyed_by i2) 5 g 0) reads11)

  offers18 : offered s M3 part16 ≡ 7 ∷ 5 ∷ []
  offers18 = rw (same-refl s) counters18

  verifies18 : verified d.akm (ptk i2).kck m4 Accepted ≡ Accepted
  verifies18 = verified-same d.akm (ptk i2).kck m4 Accepted (mic-sealed d.akm (ptk i2).kck (m4_fields d 7) pair.has_mic (fits-m4 d 7 (omega arith)))

  mine18 : (not (is_mine d a m4.header) || false) ≡ false
  mine18 = rw (same_octets d a) refl

  accepted18 : verdict d 0 a ap16 (Keyed m4) no_facts ≡ Accepted
  accepted18 = stands Accepted _ _ (keyed-from d 0 a ap16 m4 s mine18 pair.finds_sta ∙ m4-in d ap16 s m4 part16 key2 (7 ∷ 5 ∷ []) attempt16 keying18 offers18 refl ∙ verifies18)
      (nothing_further (peer_of d a m4.header.a2) (λ p. key_further d a ap16 p m4 M4 no_facts) (λ p. refl)) refl

  before18 : before_sent s (kind.Key M3) ap16 ≡ Some past12
  before18 = rw (same-refl s) refl

  has18 : session s ap16 ≡ Some key
  has18 = rw (same-refl s) refl

  put18 : put_acts d a ap16 s key2 ≡ []
  put18 = put_suite d.akm d a ap16 s key2 pair.suite

  -- the counters went on
  abbrev closed18 : List Act
  closed18 = Closed s Session ∷ Took (Some s) octets15 (kind.Key M4) Accepted (Some seal15) ∷ ap16

  took18 : next_in_session s (Took (Some s) octets15 (kind.Key M4) Accepted (Some seal15) ∷ ap16) ≡ 8
  took18 = counter_left s (Took (Some s) octets15 (kind.Key M4) Accepted (Some seal15)) ap16 8 refl refl counter16

  left18 : next_in_session s closed18 ≡ 8
  left18 = counter_left s (Closed s Session) (Took (Some s) octets15 (kind.Key M4) Accepted (Some seal15) ∷ ap16) 8 refl refl took18

  installed18 : next_in_session s (Installed (One s) (Pairwise (ptk i2).tk i2) ∷ closed18) ≡ 8
  installed18 = counter_left s (Installed (One s) (Pairwise (ptk i2).tk i2)) closed18 8 refl refl left18

  counter18 : next_in_session s (add taken18 ap16) ≡ 8
  counter18 = counter_kept s (Finished s i2) (Installed (One s) (Pairwise (ptk i2).tk i2) ∷ closed18) 8 (same-refl s) (rw (same-refl s) refl) installed18

  abbrev ends18 : Option Derivation → List Act → Option (List Act) → List Act
  ends18 old put past = m4_acts octets15 m4 s key2 old put ++ newer_acts d a s (add (m4_acts octets15 m4 s key2 old put) ap16) key2 (carried_older s ap16 past)

  says18 : acts18 ≡ ends18 (session s ap16) (put_acts d a ap16 s key2) (before_sent s (kind.Key M3) ap16)
  says18 = ap (λ (c : ℕ). taken18 ++ sent_g1 d a s (keyed_by i2) c (gtk_news new 0) ∷ []) (sym counter18)
      ∙ ap (λ (x : News). taken18 ++ sent_g1 d a s (keyed_by i2) (next_in_session s (add taken18 ap16)) x ∷ []) (sym (news_off d (add taken18 ap16) pair.unprotected))
      ∙ ap (λ (o : Option (List Act)). ends18 (Some key) [] o) (sym before18)
      ∙ ap (λ (o : Option Derivation). ends18 o [] (before_sent s (kind.Key M3) ap16)) (sym has18)
      ∙ ap (λ (put : List Act). ends18 (session s ap16) put (before_sent s (kind.Key M3) ap16)) (sym put18)

  row18 : TakeRow (here d 0 a) ap16 octets15 acts18
  row18 = record {
    r = Keyed m4;
    reads = reads_so d octets15 (Keyed m4) refl (reads-m4 d s a (keyed_by i2) 7 pair.has_mic pair.sta_whole pair.ap_whole (omega arith));
    facts = no_facts;
    knows = λ came p from. (tt, no_response d.akm ap16 p M4 no_facts pair.suite);
    row = By_m4 (record { k = m4; is = refl; message_is = refl; p = s; from = pair.finds_sta; accepted = accepted18; part = part16; awaited = attempt16; x = key2; keyed = keying18; says = says18 });
  }

  step18 : AtOne d 18 (Deliver 15 a) stage17.journal (push 18 a acts18 stage17.journal)
  step18 = take_step d 18 15 a octets15 stage17.journal ap16 acts18 stage17.ap_is stage17.was row18 refl

  stage18 : Stage d k m rounds18 sta17 ap18 16 octets16
  stage18 = after_ap d k m rounds17 sta17 ap16 15 octets15 stage17 (Deliver 15 a) acts18 16 octets16 step18 (ap suc stage17.count)
      (record { entry = _; there = inl refl; earlier = omega arith; is = ap suc stage17.count; act = (_, (_, (_, refl))) })

  -- ---- what they come to

  counter19 : next_in_session s ap18 ≡ 9
  counter19 = counter_taken s (sent_g1 d a s (keyed_by i2) 8 (gtk_news new 0)) (add taken18 ap16) 8 refl (rw (same-refl s) refl) counter18

  at_sta : (e : Act) → In e sta17 → In e (history s stage18.journal)
  at_sta e there = subst (λ (h : List Act). In e h) (sym stage18.sta_is) there

  at_ap : (e : Act) → In e ap18 → In e (history a stage18.journal)
  at_ap e there = subst (λ (h : List Act). In e h) (sym stage18.ap_is) there

  pub renewed_key : HasRenewedKey d k m
  renewed_key = record {
    journal = stage18.journal;
    explained = stage18.explained;
    i = i;
    of_first = refl;
    j = i2;
    of_second = refl;
    station_first = at_sta _ (inr (inr (inr (inr (inr (inr (inr (inr (inr (inr (inr (inr (inr (inr (inr (inr (inr (inr (inr (inl refl))))))))))))))))))));
    station_begins = at_sta _ (inr (inr (inr (inr (inr (inr (inr (inr (inr (inr (inr (inr (inl refl)))))))))))));
    station_leaves = at_sta _ (inr (inr (inr (inr (inl refl)))));
    station_installs = at_sta _ (inr (inr (inr (inl refl))));
    station_ends = at_sta _ (inr (inl refl));
    station_alone = ap (attempt a) stage18.sta_is;
    station_has = ap (session a) stage18.sta_is ∙ rw (same-refl a) refl;
    access_point_first = at_ap _ (inr (inr (inr (inr (inr (inr (inr (inr (inr (inr (inr (inr (inr (inr (inr (inr (inr (inl refl))))))))))))))))));
    access_point_begins = at_ap _ (inr (inr (inr (inr (inr (inr (inr (inr (inr (inr (inr (inr (inr (inr (inr (inl refl))))))))))))))));
    access_point_leaves = at_ap _ (inr (inr (inr (inl refl))));
    access_point_installs = at_ap _ (inr (inr (inl refl)));
    access_point_ends = at_ap _ (inr (inl refl));
    access_point_alone = ap (attempt s) stage18.ap_is ∙ rw (same-refl s) refl;
    access_point_has = ap (session s) stage18.ap_is ∙ rw (same-refl s) refl;
    new = new;
    is_new = refl;
    given = at_sta _ (inr (inr (inr (inr (inr (inr (inr (inl refl))))))));
    current = at_ap _ (inr (inr (inr (inr (inr (inr (inl refl)))))));
    resumed = at_sta _ (inr (inr (inl refl)));
    counter = ap (next_in_session s) stage18.ap_is ∙ counter19;
  }
