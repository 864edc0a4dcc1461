-- The rounds of an example handshake from M3 to M4: the keys are installed, and M3 is sent and answered twice.
use Rattle.domain_base.specs.declared.names.Node.{Node}
use Rattle.domain_rules.proofs.Refused.{no_facts}
use Rattle.domain_rules.proofs.CarriedKey.{IsGroupKey, says}
use Rattle.domain_rules.proofs.OneOutcome.{from_named}
use Rattle.domain_rules.proofs.SuiteWords.{plain_key_data, put_suite, m3_further_suite, no_response}
use Rattle.domain_rules.specs.KeyHolders.{put_acts}
use Rattle.domain_rules.specs.Network.{mac, peer_of}
use Rattle.domain_rules.proofs.Exchange.{not-replaced, length-nonce, length-gtk, octets-gtk, take_step, some-injective, m3-keyed, m4-keyed, m3-in, m4-in, start-session, m3-keyed_session, m3-again, retries-m3, key_data-same, same_octets, nothing_further, stands, IsPair, Stage, after_sta, after_ap}
use Rattle.domain_rules.proofs.KeyOctets.{octets-kek}
use Rattle.domain_rules.proofs.Parts.{same-refl, attempt_more, chain_part}
use Rattle.domain_rules.proofs.SentReads.{mic-sealed, reads-counter, m3_fields, fits-m3, few-m3, wraps-m3, m3_message, reads-m3, m4_fields, fits-m4, m4_message, reads-m4}
use Rattle.domain_rules.proofs.Verdicts.{verified-same, keyed-from}
use Rattle.domain_rules.specs.Counters.{next_counter, sent_count}
use Rattle.domain_rules.specs.Explained.{push}
use Rattle.domain_rules.specs.Frames.{sent_m2, sent_m3, sent_m4, keyed_by}
use Rattle.domain_rules.specs.StationRows.{carried_keys}
use Rattle.domain_rules.specs.Reading.{KeyMessage, Keyed, Reads}
use Rattle.domain_rules.specs.Rows.{Adds, TakeRow, By_m3, By_m4, By_repeated_m3}
use Rattle.domain_rules.specs.AccessPointRows.{retry_acts, most_sends, m4_acts, newer_acts, carried_older}
use Rattle.domain_rules.specs.Facts.{ReadsKeyData, Facts}
use Rattle.domain_rules.specs.Asking.{has_four_way, session_start, has_heard, kept_counter, offered, verified, replay_counter}
use Rattle.domain_rules.specs.Verdict.{is_mine, key_further, further, first_verdict, verdict}
use Rattle.domain_rules.specs.StationKeys.{KnowsM3, Keying, m3_keying}
use Rattle.domain_rules.specs.AccessPointKeys.{m4_keying}
use Rattle.eapol_key.specs.declared.messages.Message.TheVariants.{M1, M2, M3, M4}
use Rattle.key_hierarchy.specs.Keys.{ptk}
use Rattle.key_hierarchy.specs.declared.inputs.Inputs.{Inputs}
use Rattle.rsn_elements.specs.Elements.{ElementFields}
use Rattle.rsn_elements.specs.Pieces.{SentRsne, SentGtkKde, said}
use Rattle.rsn_elements.specs.declared.framing.Within.TheVariants.{KeyData}
use Rattle.run_journal.specs.Acts.{Derivation, GroupKey}
use Rattle.run_journal.specs.Questions.{attempt, derivation, session, before_sent, chain, add}
use Rattle.domain_base.specs.declared.names.Peer.TheVariants.{One}
use Rattle.run_journal.specs.declared.acts.Key.TheVariants.{Pairwise, Group}
use Rattle.run_journal.specs.declared.acts.Act.TheVariants.{Derived, Took, Installed, Finished}
use Rattle.run_journal.specs.declared.acts.GroupKind.TheVariants as groups
use Rattle.run_journal.specs.declared.acts.Act.{Act}
use Rattle.run_journal.specs.declared.acts.Entry.{Entry}
use Rattle.run_journal.specs.declared.acts.Kind.TheVariants as kind
use Rattle.run_journal.specs.declared.acts.Outcome.TheVariants.{Accepted, Answered}
use Rattle.run_journal.specs.declared.acts.Seal.{Seal}
use Rattle.run_journal.specs.declared.domain.Domain.{Domain}
use Rattle.run_journal.specs.declared.domain.Event.TheVariants.{Deliver, Retry}
use Rattle.run_journal.specs.declared.domain.Event.{Event}
use Rattle.std.proofs.Common.{◌≡◌, ℕ, suc, true, false, List, [], ◌∷◌, Option, Some, None, refl, sym, ap, subst, ◌∙◌, arith, inl, inr}
use Rattle.std.specs.Prelude.{not, ◌||◌, ◌++◌, nat_lt}
use Rattle.domain_rules.proofs.Journals.{AtOne}
use Rattle.domain_rules.proofs.Unprotected.{news_off, give_off, reads_so}
use Rattle.domain_rules.proofs.HandshakeActs as w
use Rattle.domain_rules.proofs.FirstRounds.{stage5}
use Rattle.domain_rules.specs.Rows as again
use Rattle.domain_rules.specs.Here.{here}
use Rattle.domain_rules.specs.GroupKeys.{News, gtk_news, give_all}

module _ (d : Domain) (k m : ℕ) (pair : IsPair d k m) where
  abbrev a : Node
  a = w.a d k m

  abbrev s : Node
  s = w.s d k m

  abbrev i : Inputs
  i = w.i d k m

  abbrev g : GroupKey
  g = w.g d k m

  abbrev key : Derivation
  key = w.key d k m

  abbrev octets2 : List ℕ
  octets2 = w.octets2 d k m

  abbrev octets3 : List ℕ
  octets3 = w.octets3 d k m

  abbrev octets4 : List ℕ
  octets4 = w.octets4 d k m

  abbrev octets5 : List ℕ
  octets5 = w.octets5 d k m

  abbrev octets6 : List ℕ
  octets6 = w.octets6 d k m

  abbrev octets7 : List ℕ
  octets7 = w.octets7 d k m

  abbrev octets8 : List ℕ
  octets8 = w.octets8 d k m

  abbrev seal4 : Seal
  seal4 = w.seal4 d k m

  abbrev acts6 : List Act
  acts6 = w.acts6 d k m

  abbrev acts7 : List Act
  acts7 = w.acts7 d k m

  abbrev acts8 : List Act
  acts8 = w.acts8 d k m

  abbrev acts9 : List Act
  acts9 = w.acts9 d k m

  abbrev sta1 : List Act
  sta1 = w.sta1 d k m

  abbrev sta3 : List Act
  sta3 = w.sta3 d k m

  abbrev sta4 : List Act
  sta4 = w.sta4 d k m

  abbrev sta6 : List Act
  sta6 = w.sta6 d k m

  abbrev sta8 : List Act
  sta8 = w.sta8 d k m

  abbrev ap2 : List Act
  ap2 = w.ap2 d k m

  abbrev ap5 : List Act
  ap5 = w.ap5 d k m

  abbrev ap7 : List Act
  ap7 = w.ap7 d k m

  abbrev ap9 : List Act
  ap9 = w.ap9 d k m

  abbrev part2 : List Act
  part2 = w.part2 d k m

  abbrev part5 : List Act
  part5 = w.part5 d k m

  abbrev part7 : List Act
  part7 = w.part7 d k m

  abbrev rounds5 : List (List Event)
  rounds5 = w.rounds5 d k m

  abbrev rounds6 : List (List Event)
  rounds6 = w.rounds6 d k m

  abbrev rounds7 : List (List Event)
  rounds7 = w.rounds7 d k m

  abbrev rounds8 : List (List Event)
  rounds8 = w.rounds8 d k m

  abbrev rounds9 : List (List Event)
  rounds9 = w.rounds9 d k m

  abbrev past5 : List Entry
  past5 = (stage5 d k m pair).journal

  is_key : IsGroupKey g
  is_key = record { octets = octets-gtk d a 0; size = length-gtk d a 0; low = omega arith }

  -- round 6: the station installs both keys by M3
  abbrev m3 : KeyMessage
  m3 = m3_message d a s (keyed_by i) 2 g 0

  abbrev keying : Keying
  keying = record { key = key; is_session = false }

  attempt_first : attempt a sta3 ≡ Some sta3
  attempt_first = attempt_more a (Took (Some a) octets2 kind.AssocResp Accepted None) sta1 sta1 refl refl (rw (same-refl a) refl)

  attempt6 : attempt a sta4 ≡ Some sta4
  attempt6 = attempt_more a (sent_m2 d s a (keyed_by i) 1 []) (Derived a i (ptk i) ∷ Took (Some a) octets3 (kind.Key M1) Accepted None ∷ sta3) (Derived a i (ptk i) ∷ Took (Some a) octets3 (kind.Key M1) Accepted None ∷ sta3) refl refl
      (attempt_more a (Derived a i (ptk i)) (Took (Some a) octets3 (kind.Key M1) Accepted None ∷ sta3) (Took (Some a) octets3 (kind.Key M1) Accepted None ∷ sta3) refl refl
      (attempt_more a (Took (Some a) octets3 (kind.Key M1) Accepted None) sta3 sta3 refl refl attempt_first))

  heard6 : has_heard a (kind.Key M1) sta4 ≡ true
  heard6 = rw (same-refl a) refl

  derives6 : derivation a sta4 ≡ Some key
  derives6 = rw (same-refl a) refl

  keying6 : m3_keying a sta4 m3 ≡ Some keying
  keying6 = m3-keyed a sta4 sta4 m3 key attempt6 refl refl heard6 derives6

  counter6 : kept_counter a (chain a sta4) ≡ None
  counter6 = ap (kept_counter a) (chain_part a sta4 sta4 attempt6 refl) ∙ rw (same-refl a) refl

  reads6 : Reads d.akm octets5 (Keyed m3)
  reads6 = reads-m3 d a s (keyed_by i) 2 g 0 pair.has_mic pair.ap_whole pair.sta_whole (omega arith) (length-nonce d a 1) (few-m3 d a (keyed_by i) (gtk_news g 0) pair.suite pair.unprotected refl (octets-kek i) is_key)

  verifies6 : verified d.akm (ptk i).kck m3 Accepted ≡ Accepted
  verifies6 = verified-same d.akm (ptk i).kck m3 Accepted (mic-sealed d.akm (ptk i).kck (m3_fields d a (keyed_by i) 2 g 0) pair.has_mic (fits-m3 d a (keyed_by i) 2 g 0 (omega arith) (length-nonce d a 1) (few-m3 d a (keyed_by i) (gtk_news g 0) pair.suite pair.unprotected refl (octets-kek i) is_key)))

  mine6 : (not (is_mine d s m3.header) || false) ≡ false
  mine6 = rw (same_octets d s) refl

  first6 : first_verdict d 0 s sta4 (Keyed m3) ≡ Accepted
  first6 = keyed-from d 0 s sta4 m3 a mine6 pair.finds_ap ∙ m3-in d sta4 a m3 keying keying6 counter6 refl ∙ verifies6

  -- what M3 says, both times
  abbrev said_by_m3 : ElementFields
  said_by_m3 = said KeyData (SentRsne d.akm None ∷ SentGtkKde g.id g.key ∷ [])

  abbrev facts : Facts
  facts = record { requested = None; responded = None; unwrapped = Some (plain_key_data d g); data_ = Some said_by_m3; pulled = None; opened = None; unwrapped_igtk = None; kept = 0 }

  further6 : further d 0 s sta4 (Keyed m3) facts ≡ Accepted
  further6 = from_named (peer_of d s m3.header.a2) a (λ p. key_further d s sta4 p m3 M3 facts) pair.finds_ap ∙ m3_further_suite d.akm d (m3_keying a sta4 m3) facts pair.suite ∙ key_data-same d.akm d g.key 1 pair.unprotected (length-gtk d a 0) refl

  accepted6 : verdict d 0 s sta4 (Keyed m3) facts ≡ Accepted
  accepted6 = stands Accepted _ _ first6 further6 refl

  knows6 : KnowsM3 (ptk i).kek m3 facts
  knows6 = record {
    unwrapped = (octets-kek i, wraps-m3 d a (keyed_by i) (gtk_news g 0) pair.suite pair.unprotected refl is_key);
    data_ = λ plain e. (let same : plain_key_data d g ≡ plain = cc e in subst (λ (x : List ℕ). ReadsKeyData x facts.data_) same (says d g is_key));
  }

  abbrev after6 : List Act → List Act
  after6 given = Installed (One a) (Pairwise (ptk i).tk i) ∷ (given ++ Finished a i ∷ sent_m4 d s a (keyed_by i) 2 ∷ [])

  says6 : acts6 ≡ Took (Some a) octets5 (kind.Key M3) Accepted (Some (w.seal5 d k m)) ∷ after6 (give_all d a (mac d a) (carried_keys facts.data_) sta4)
  says6 = ap (λ (given : List Act). Took (Some a) octets5 (kind.Key M3) Accepted (Some (w.seal5 d k m)) ∷ after6 given) (sym (give_off d a (mac d a) (carried_keys facts.data_) sta4 pair.unprotected))

  row6 : TakeRow (here d 0 s) sta4 octets5 acts6
  row6 = record {
    r = Keyed m3;
    reads = reads_so d octets5 (Keyed m3) refl reads6;
    facts = facts;
    knows = λ came p from. (
      λ y awaited.
          (let same : a ≡ p = cc (from, pair.finds_ap) in
          let one : keying ≡ y = some-injective keying y (sym keying6 ∙ subst (λ (x : Node). m3_keying x sta4 m3 ≡ Some y) (sym same) awaited) in
          subst (λ (x : Keying). KnowsM3 x.key.ptk.kek m3 facts) one knows6),
      no_response d.akm sta4 p M3 facts pair.suite,
    );
    row = By_m3 (record { k = m3; is = refl; message_is = refl; p = a; from = pair.finds_ap; accepted = accepted6; y = keying; awaited = keying6; says = says6 ∙ not-replaced a sta4 sta4 _ _ attempt6 refl });
  }

  step6 : AtOne d 6 (Deliver 5 s) past5 (push 6 s acts6 past5)
  step6 = take_step d 6 5 s octets5 past5 sta4 acts6 (stage5 d k m pair).sta_is (stage5 d k m pair).was row6 refl

  stage6 : Stage d k m rounds6 sta6 ap5 6 octets6
  stage6 = after_sta d k m rounds5 sta4 ap5 5 octets5 (stage5 d k m pair) (Deliver 5 s) acts6 6 octets6 step6 (ap suc (stage5 d k m pair).count)
      (record { entry = _; there = inl refl; earlier = omega arith; is = ap suc (stage5 d k m pair).count; act = (_, (_, (_, refl))) })

  -- round 7: the access point sends M3 once more
  attempt2 : attempt s ap2 ≡ Some part2
  attempt2 = rw (same-refl s) refl

  attempt7 : attempt s ap5 ≡ Some part5
  attempt7 = attempt_more s (sent_m3 d a s (keyed_by i) 2 (gtk_news g 0)) (Derived s i (ptk i) ∷ Took (Some s) octets4 (kind.Key M2) Accepted (Some seal4) ∷ ap2) (Derived s i (ptk i) ∷ Took (Some s) octets4 (kind.Key M2) Accepted (Some seal4) ∷ part2) refl refl
      (attempt_more s (Derived s i (ptk i)) (Took (Some s) octets4 (kind.Key M2) Accepted (Some seal4) ∷ ap2) (Took (Some s) octets4 (kind.Key M2) Accepted (Some seal4) ∷ part2) refl refl
      (attempt_more s (Took (Some s) octets4 (kind.Key M2) Accepted (Some seal4)) ap2 part2 refl refl attempt2))

  heard7 : has_heard s (kind.Key M2) part5 ≡ true
  heard7 = rw (same-refl s) refl

  few7 : nat_lt (sent_count s M3 part5) most_sends ≡ true
  few7 = rw (same-refl s) refl

  derives7 : derivation s part5 ≡ Some key
  derives7 = rw (same-refl s) refl

  before7 : before_sent s (kind.Key M3) ap5 ≡ Some (Derived s i (ptk i) ∷ Took (Some s) octets4 (kind.Key M2) Accepted (Some seal4) ∷ ap2)
  before7 = rw (same-refl s) refl

  counter7 : next_counter s ap5 part5 ≡ 3
  counter7 = rw (same-refl s) refl

  retries7 : acts7 ≡ retry_acts d a ap5 s (attempt s ap5)
  retries7 = ap (λ (c : ℕ). sent_m3 d a s (keyed_by i) c (gtk_news g 0) ∷ []) (sym counter7)
      ∙ ap (λ (x : News). sent_m3 d a s (keyed_by i) (next_counter s ap5 part5) x ∷ []) (sym (news_off d (Derived s i (ptk i) ∷ Took (Some s) octets4 (kind.Key M2) Accepted (Some seal4) ∷ ap2) pair.unprotected))
      ∙ sym (retries-m3 d a ap5 s part5 (Derived s i (ptk i) ∷ Took (Some s) octets4 (kind.Key M2) Accepted (Some seal4) ∷ ap2) key attempt7 refl refl heard7 few7 derives7 before7)

  step7 : AtOne d 7 (Retry k m) stage6.journal (push 7 a acts7 stage6.journal)
  step7 = record {
    node = a;
    at_node = again.Retry m;
    happens = (refl, refl);
    acts = acts7;
    group = subst (λ (h : List Act). Adds (here d 0 a) h (again.Retry m) acts7) (sym stage6.ap_is) (record { acts = acts7; row = retries7; is = refl });
    is = refl;
  }

  stage7 : Stage d k m rounds7 sta6 ap7 7 octets7
  stage7 = after_ap d k m rounds6 sta6 ap5 6 octets6 stage6 (Retry k m) acts7 7 octets7 step7 (ap suc stage6.count)
      (record { entry = _; there = inl refl; earlier = omega arith; is = ap suc stage6.count; act = (_, (_, (_, refl))) })

  -- round 8: the station answers it, and installs nothing
  abbrev m3_again : KeyMessage
  m3_again = m3_message d a s (keyed_by i) 3 g 0

  abbrev keyed : Keying
  keyed = record { key = key; is_session = true }

  since8 : chain a sta6 ≡ sta6
  since8 = rw (same-refl a) refl

  abbrev before8 : List Act
  before8 = Installed (One a) (Group groups.Gtk g.key g.id (mac d a)) ∷ Installed (One a) (Pairwise (ptk i).tk i) ∷ Took (Some a) octets5 (kind.Key M3) Accepted (Some (w.seal5 d k m)) ∷ sta4

  begun8 : has_four_way (session_start a sta6) ≡ true
  begun8 = ap has_four_way (start-session a sta6 before8 before8 (rw (same-refl a) refl) (rw (same-refl a) refl))

  session8 : session a sta6 ≡ Some key
  session8 = rw (same-refl a) refl

  keying8 : m3_keying a sta6 m3_again ≡ Some keyed
  keying8 = m3-keyed_session a sta6 m3_again key refl begun8 session8

  counter8 : kept_counter a (chain a sta6) ≡ Some 2
  counter8 = ap (kept_counter a) since8 ∙ rw (same-refl a) (ap (λ (c : ℕ). Some c) (reads-counter d.akm octets5 m3 reads6))

  reads8 : Reads d.akm octets7 (Keyed m3_again)
  reads8 = reads-m3 d a s (keyed_by i) 3 g 0 pair.has_mic pair.ap_whole pair.sta_whole (omega arith) (length-nonce d a 1) (few-m3 d a (keyed_by i) (gtk_news g 0) pair.suite pair.unprotected refl (octets-kek i) is_key)

  verifies8 : verified d.akm (ptk i).kck m3_again Answered ≡ Answered
  verifies8 = verified-same d.akm (ptk i).kck m3_again Answered (mic-sealed d.akm (ptk i).kck (m3_fields d a (keyed_by i) 3 g 0) pair.has_mic (fits-m3 d a (keyed_by i) 3 g 0 (omega arith) (length-nonce d a 1) (few-m3 d a (keyed_by i) (gtk_news g 0) pair.suite pair.unprotected refl (octets-kek i) is_key)))

  mine8 : (not (is_mine d s m3_again.header) || false) ≡ false
  mine8 = rw (same_octets d s) refl

  first8 : first_verdict d 0 s sta6 (Keyed m3_again) ≡ Answered
  first8 = keyed-from d 0 s sta6 m3_again a mine8 pair.finds_ap ∙ m3-again d sta6 a m3_again keyed 2 keying8 counter8 refl refl ∙ verifies8

  further8 : further d 0 s sta6 (Keyed m3_again) facts ≡ Accepted
  further8 = from_named (peer_of d s m3_again.header.a2) a (λ p. key_further d s sta6 p m3_again M3 facts) pair.finds_ap ∙ m3_further_suite d.akm d (m3_keying a sta6 m3_again) facts pair.suite ∙ key_data-same d.akm d g.key 1 pair.unprotected (length-gtk d a 0) refl

  answered8 : verdict d 0 s sta6 (Keyed m3_again) facts ≡ Answered
  answered8 = stands Answered _ _ first8 further8 refl

  knows8 : KnowsM3 (ptk i).kek m3_again facts
  knows8 = record {
    unwrapped = (octets-kek i, wraps-m3 d a (keyed_by i) (gtk_news g 0) pair.suite pair.unprotected refl is_key);
    data_ = λ plain e. (let same : plain_key_data d g ≡ plain = cc e in subst (λ (x : List ℕ). ReadsKeyData x facts.data_) same (says d g is_key));
  }

  row8 : TakeRow (here d 0 s) sta6 octets7 acts8
  row8 = record {
    r = Keyed m3_again;
    reads = reads_so d octets7 (Keyed m3_again) refl reads8;
    facts = facts;
    knows = λ came p from. (
      λ y awaited.
          (let same : a ≡ p = cc (from, pair.finds_ap) in
          let one : keyed ≡ y = some-injective keyed y (sym keying8 ∙ subst (λ (x : Node). m3_keying x sta6 m3_again ≡ Some y) (sym same) awaited) in
          subst (λ (x : Keying). KnowsM3 x.key.ptk.kek m3_again facts) one knows8),
      no_response d.akm sta6 p M3 facts pair.suite,
    );
    row = By_repeated_m3 (record { k = m3_again; is = refl; message_is = refl; p = a; from = pair.finds_ap; answered = answered8; y = keyed; awaited = keying8; says = refl });
  }

  step8 : AtOne d 8 (Deliver 7 s) stage7.journal (push 8 s acts8 stage7.journal)
  step8 = take_step d 8 7 s octets7 stage7.journal sta6 acts8 stage7.sta_is stage7.was row8 refl

  stage8 : Stage d k m rounds8 sta8 ap7 8 octets8
  stage8 = after_sta d k m rounds7 sta6 ap7 7 octets7 stage7 (Deliver 7 s) acts8 8 octets8 step8 (ap suc stage7.count)
      (record { entry = _; there = inl refl; earlier = omega arith; is = ap suc stage7.count; act = (_, (_, (_, refl))) })

  -- round 9: the access point installs the pairwise key by M4
  abbrev m4 : KeyMessage
  m4 = m4_message d s a (keyed_by i) 3

  attempt9 : attempt s ap7 ≡ Some part7
  attempt9 = attempt_more s (sent_m3 d a s (keyed_by i) 3 (gtk_news g 0)) ap5 part5 refl refl attempt7

  heard9 : has_heard s (kind.Key M2) part7 ≡ true
  heard9 = rw (same-refl s) refl

  derives9 : derivation s part7 ≡ Some key
  derives9 = rw (same-refl s) refl

  keying9 : m4_keying s part7 ≡ Some key
  keying9 = m4-keyed s part7 key refl heard9 derives9

  counters9 : replay_counter octets7 ∷ replay_counter octets5 ∷ [] ≡ 3 ∷ 2 ∷ []
  counters9 = ap (λ (c : ℕ). c ∷ replay_counter octets5 ∷ []) (reads-counter d.akm octets7 m3_again reads8) ∙ ap (λ (c : ℕ). 3 ∷ c ∷ []) (reads-counter d.akm octets5 m3 reads6)

  offers9 : offered s M3 part7 ≡ 3 ∷ 2 ∷ []
  offers9 = rw (same-refl s) counters9

  verifies9 : verified d.akm (ptk i).kck m4 Accepted ≡ Accepted
  verifies9 = verified-same d.akm (ptk i).kck m4 Accepted (mic-sealed d.akm (ptk i).kck (m4_fields d 3) pair.has_mic (fits-m4 d 3 (omega arith)))

  mine9 : (not (is_mine d a m4.header) || false) ≡ false
  mine9 = rw (same_octets d a) refl

  accepted9 : verdict d 0 a ap7 (Keyed m4) no_facts ≡ Accepted
  accepted9 = stands Accepted _ _ (keyed-from d 0 a ap7 m4 s mine9 pair.finds_sta ∙ m4-in d ap7 s m4 part7 key (3 ∷ 2 ∷ []) attempt9 keying9 offers9 refl ∙ verifies9)
      (nothing_further (peer_of d a m4.header.a2) (λ p. key_further d a ap7 p m4 M4 no_facts) (λ p. refl)) refl

  -- the group key that went with M3 is the newest still
  before9 : before_sent s (kind.Key M3) ap7 ≡ Some (Derived s i (ptk i) ∷ Took (Some s) octets4 (kind.Key M2) Accepted (Some seal4) ∷ ap2)
  before9 = rw (same-refl s) refl

  put9 : put_acts d a ap7 s key ≡ []
  put9 = put_suite d.akm d a ap7 s key pair.suite

  says9 : acts9 ≡ m4_acts octets8 m4 s key None (put_acts d a ap7 s key) ++ newer_acts d a s (add (m4_acts octets8 m4 s key None (put_acts d a ap7 s key)) ap7) key (carried_older s ap7 (before_sent s (kind.Key M3) ap7))
  says9 = ap (λ (o : Option (List Act)). m4_acts octets8 m4 s key None [] ++ newer_acts d a s (add (m4_acts octets8 m4 s key None []) ap7) key (carried_older s ap7 o)) (sym before9)
      ∙ ap (λ (put : List Act). m4_acts octets8 m4 s key None put ++ newer_acts d a s (add (m4_acts octets8 m4 s key None put) ap7) key (carried_older s ap7 (before_sent s (kind.Key M3) ap7))) (sym put9)

  row9 : TakeRow (here d 0 a) ap7 octets8 acts9
  row9 = record {
    r = Keyed m4;
    reads = reads_so d octets8 (Keyed m4) refl (reads-m4 d s a (keyed_by i) 3 pair.has_mic pair.sta_whole pair.ap_whole (omega arith));
    facts = no_facts;
    knows = λ came p from. (tt, no_response d.akm ap7 p M4 no_facts pair.suite);
    row = By_m4 (record { k = m4; is = refl; message_is = refl; p = s; from = pair.finds_sta; accepted = accepted9; part = part7; awaited = attempt9; x = key; keyed = keying9; says = says9 });
  }

  step9 : AtOne d 9 (Deliver 8 a) stage8.journal (push 9 a acts9 stage8.journal)
  step9 = take_step d 9 8 a octets8 stage8.journal ap7 acts9 stage8.ap_is stage8.was row9 refl

  pub stage9 : Stage d k m rounds9 sta8 ap9 8 octets8
  stage9 = after_ap d k m rounds8 sta8 ap7 8 octets8 stage8 (Deliver 8 a) acts9 8 octets8 step9 stage8.count
      (record { entry = stage8.was.entry; there = inr (inr (inr stage8.was.there)); earlier = omega (arith, stage8.was.earlier); is = stage8.was.is; act = stage8.was.act })
