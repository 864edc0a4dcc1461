-- The rounds of that example in which a new group key is given beside the renewal.
use Rattle.std.proofs.Common.{◌≡◌, ◌≢◌, ℕ, suc, ◌<◌, Bool, true, false, cond, List, [], ◌∷◌, ◌++◌, length, Option, Some, None, refl, sym, ap, subst, ◌∙◌, arith, inl, inr}
use Rattle.std.specs.Prelude.{not, ◌||◌, ◌==◌}
use Rattle.domain_base.specs.declared.names.Node.{Node}
use Rattle.domain_base.specs.declared.names.Node.TheVariants.{Sta, Ap}
use Rattle.domain_base.specs.declared.names.Peer.TheVariants.{All}
use Rattle.eapol_key.specs.declared.messages.Message.TheVariants.{M2, G1, G2}
use Rattle.key_hierarchy.specs.Keys.{ptk}
use Rattle.key_hierarchy.specs.declared.inputs.Inputs.{Inputs}
use Rattle.rsn_elements.specs.Elements.{ElementFields}
use Rattle.rsn_elements.specs.Pieces.{SentGtkKde, said}
use Rattle.rsn_elements.specs.declared.framing.Within.TheVariants.{KeyData}
use Rattle.run_journal.specs.Acts.{Derivation, GroupKey}
use Rattle.run_journal.specs.Questions.{attempt, chain, session, handshake, add}
use Rattle.run_journal.specs.declared.acts.Act.TheVariants.{Drew, Derived, Took, Installed}
use Rattle.run_journal.specs.declared.acts.Act.{Act}
use Rattle.run_journal.specs.declared.acts.Drawn.TheVariants as draw
use Rattle.run_journal.specs.declared.acts.GroupKind.TheVariants as groups
use Rattle.run_journal.specs.declared.acts.Key.TheVariants.{Group}
use Rattle.run_journal.specs.declared.acts.Kind.TheVariants as kind
use Rattle.run_journal.specs.declared.acts.Outcome.TheVariants.{Accepted}
use Rattle.run_journal.specs.declared.acts.Seal.{Seal}
use Rattle.run_journal.specs.declared.domain.Domain.{Domain}
use Rattle.run_journal.specs.declared.domain.Event.TheVariants.{Deliver, Rekey}
use Rattle.run_journal.specs.declared.domain.Event.{Event}
use Rattle.domain_rules.specs.AccessPointRows.{to_sessions, rekey_acts, RekeyRow, Renews}
use Rattle.domain_rules.specs.Asking.{in_renewal, greatest, kept_counter, offered, verified, replay_counter}
use Rattle.domain_rules.specs.Counters.{takes_counter, next_in_session}
use Rattle.domain_rules.specs.Explained.{push}
use Rattle.domain_rules.specs.Facts.{Facts, ReadsKeyData}
use Rattle.domain_rules.specs.Frames.{g1_key_data, sent_m3, sent_g1, sent_g2, keyed_by}
use Rattle.domain_rules.specs.GroupKeys.{find_key, memory, give_by, give_all, News, gtk_news, news}
use Rattle.domain_rules.specs.Here.{here}
use Rattle.domain_rules.specs.Network.{mac, gtk, draw_end, renews, peer_of}
use Rattle.domain_rules.specs.Owing.{is_open, owing, current_acts, switch_acts}
use Rattle.domain_rules.specs.StationRows.{carried_keys}
use Rattle.domain_rules.specs.Reading.{KeyMessage, Keyed, Reads}
use Rattle.domain_rules.specs.Rows as event
use Rattle.domain_rules.specs.Rows.{Adds, TakeRow, By_g1, By_g2, By_m3, By_m4}
use Rattle.domain_rules.specs.StationKeys.{KnowsM3, g1_wrapped}
use Rattle.domain_rules.specs.Verdict.{is_mine, key_further, further, first_verdict, verdict}
use Rattle.domain_rules.proofs.CarriedKey.{IsGroupKey, wrapped_g1, says_g1}
use Rattle.domain_rules.proofs.Exchange.{length-gtk, octets-gtk, g1-in, g2-in, take_step, same_octets, nothing_further, stands, IsPair, Stage, after_sta, after_ap}
use Rattle.domain_rules.proofs.Journals.{AtOne}
use Rattle.domain_rules.proofs.KeyOctets.{octets-kek}
use Rattle.domain_rules.proofs.OneOutcome.{from_named}
use Rattle.domain_rules.proofs.Parts.{same-refl}
use Rattle.domain_rules.proofs.Peers.{not_same}
use Rattle.domain_rules.proofs.Refused.{no_facts}
use Rattle.domain_rules.proofs.RenewalRounds.{Alone, only_one, owes_no_more, owes_still, not_owing}
use Rattle.domain_rules.proofs.RenewedReads.{counter_taken, counter_left}
use Rattle.domain_rules.proofs.SentReads.{g1_message, g1_fields, reads-g1, fits-g1, g2_message, g2_fields, reads-g2, fits-g2, mic-sealed, reads-counter}
use Rattle.domain_rules.proofs.SuiteWords.{no_response}
use Rattle.domain_rules.proofs.Unprotected.{news_off, give_off, draw_off, last_draw_off, current_off, reads_so}
use Rattle.domain_rules.proofs.Verdicts.{verified-same, keyed-from}
use Rattle.domain_rules.proofs.HandshakeActs as first
use Rattle.domain_rules.proofs.RenewedActs as w
use Rattle.domain_rules.proofs.RenewedRounds.{counter10, counted5, counted7, stage12}

module _ (d : Domain) (k m : ℕ) (pair : IsPair d k m) (begins : renews d ≡ true) (listed : m < length d.stas) (differ : gtk d (Ap k) 3 ≢ gtk d (Ap k) 0) where
  abbrev a : Node
  a = w.a d k m

  abbrev s : Node
  s = w.s d k m

  abbrev i : Inputs
  i = w.i d k m

  abbrev i2 : Inputs
  i2 = w.i2 d k m

  abbrev key : Derivation
  key = w.key d k m

  abbrev key2 : Derivation
  key2 = w.key2 d k m

  abbrev g : GroupKey
  g = w.g d k m

  abbrev new : GroupKey
  new = w.new d k m

  abbrev octets10 : List ℕ
  octets10 = w.octets10 d k m

  abbrev octets11 : List ℕ
  octets11 = w.octets11 d k m

  abbrev octets12 : List ℕ
  octets12 = w.octets12 d k m

  abbrev octets13 : List ℕ
  octets13 = w.octets13 d k m

  abbrev seal10 : Seal
  seal10 = w.seal10 d k m

  abbrev seal12 : Seal
  seal12 = w.seal12 d k m

  abbrev seal13 : Seal
  seal13 = w.seal13 d k m

  abbrev acts13 : List Act
  acts13 = w.acts13 d k m

  abbrev acts14 : List Act
  acts14 = w.acts14 d k m

  abbrev taken15 : List Act
  taken15 = w.taken15 d k m

  abbrev acts15 : List Act
  acts15 = w.acts15 d k m

  abbrev sta11 : List Act
  sta11 = w.sta11 d k m

  abbrev sta14 : List Act
  sta14 = w.sta14 d k m

  abbrev ap10 : List Act
  ap10 = w.ap10 d k m

  abbrev ap12 : List Act
  ap12 = w.ap12 d k m

  abbrev ap13 : List Act
  ap13 = w.ap13 d k m

  abbrev ap15 : List Act
  ap15 = w.ap15 d k m

  abbrev rounds12 : List (List Event)
  rounds12 = w.rounds12 d k m

  abbrev rounds13 : List (List Event)
  rounds13 = w.rounds13 d k m

  abbrev rounds14 : List (List Event)
  rounds14 = w.rounds14 d k m

  abbrev rounds15 : List (List Event)
  rounds15 = w.rounds15 d k m

  st : Stage d k m rounds12 sta11 ap12 11 octets11
  st = stage12 d k m pair begins

  pub is_key : IsGroupKey new
  is_key = record { octets = octets-gtk d a 3; size = length-gtk d a 3; low = omega arith }

  -- ---- the counters of the session so far: M1 had 4, M3 has 5

  took12 : next_in_session s (Took (Some s) octets10 (kind.Key M2) Accepted (Some seal10) ∷ ap10) ≡ 5
  took12 = counter_left s (Took (Some s) octets10 (kind.Key M2) Accepted (Some seal10)) ap10 5 refl refl (counter10 d k m pair begins)

  derived12 : next_in_session s (Derived s i2 (ptk i2) ∷ Took (Some s) octets10 (kind.Key M2) Accepted (Some seal10) ∷ ap10) ≡ 5
  derived12 = counter_left s (Derived s i2 (ptk i2)) (Took (Some s) octets10 (kind.Key M2) Accepted (Some seal10) ∷ ap10) 5 refl refl took12

  takes12 : takes_counter s (in_renewal (attempt s (Derived s i2 (ptk i2) ∷ Took (Some s) octets10 (kind.Key M2) Accepted (Some seal10) ∷ ap10))) (sent_m3 d a s (keyed_by i2) 5 (gtk_news g 0)) ≡ true
  takes12 = rw (same-refl s) refl

  counter12 : next_in_session s ap12 ≡ 6
  counter12 = counter_taken s (sent_m3 d a s (keyed_by i2) 5 (gtk_news g 0)) (Derived s i2 (ptk i2) ∷ Took (Some s) octets10 (kind.Key M2) Accepted (Some seal10) ∷ ap10) 5 refl takes12 derived12

  -- ---- round 13: the access point draws a new group key, and gives it to its one session

  abbrev drew : List Act
  drew = Drew (draw.Group groups.Gtk new.key) ∷ ap12

  has13 : session s drew ≡ Some key
  has13 = rw (same-refl s) refl

  alone13 : Alone m drew
  alone13 = λ j other. rw other refl

  counter13 : next_in_session s drew ≡ 6
  counter13 = counter_left s (Drew (draw.Group groups.Gtk new.key)) ap12 6 refl refl counter12

  sends13 : to_sessions d a (length d.stas) drew ≡ sent_g1 d a s (keyed_by i) 6 (gtk_news new 0) ∷ []
  sends13 = only_one d a m drew key alone13 has13 (length d.stas) listed ∙ ap (λ (c : ℕ). sent_g1 d a s (keyed_by i) c (news d drew) ∷ []) counter13
      ∙ ap (λ (x : News). sent_g1 d a s (keyed_by i) 6 x ∷ []) (news_off d drew pair.unprotected)

  says13 : acts13 ≡ rekey_acts (here d 0 a) ap12
  says13 = ap (λ (l : List Act). Drew (draw.Group groups.Gtk new.key) ∷ l) (sym sends13)
      ∙ ap (λ (drawn : List Act). drawn ++ to_sessions d a (length d.stas) (add drawn ap12)) (sym (draw_off d a 3 pair.unprotected))

  row13 : RekeyRow (here d 0 a) ap12 acts13
  row13 = Renews refl refl (subst (λ (n : ℕ). n < draw_end) (sym (last_draw_off d 3 pair.unprotected)) (omega arith)) says13

  owes13 : owing groups.Gtk s ap13 ≡ Some key
  owes13 = rw (same-refl s) refl

  still13 : switch_acts d k ap13 ≡ []
  still13 = ap (λ (b : Bool). cond b [] (current_acts d a ap13)) (owes_still m ap13 key owes13 (length d.stas) listed)

  step13 : AtOne d 13 (Rekey k) st.journal (push 13 a acts13 st.journal)
  step13 = record {
    node = a;
    at_node = event.Rekey;
    happens = (refl, refl);
    acts = acts13;
    group = subst (λ (h : List Act). Adds (here d 0 a) h event.Rekey acts13) (sym st.ap_is) (record { acts = acts13; row = row13; is = sym (ap (λ (l : List Act). acts13 ++ l) still13) });
    is = refl;
  }

  stage13 : Stage d k m rounds13 sta11 ap13 12 octets12
  stage13 = after_ap d k m rounds12 sta11 ap12 11 octets11 st (Rekey k) acts13 12 octets12 step13 (ap suc st.count)
      (record { entry = _; there = inl refl; earlier = omega arith; is = ap suc st.count; act = (_, (_, (_, refl))) })

  pub counter_g1 : next_in_session s ap13 ≡ 7
  counter_g1 = counter_taken s (sent_g1 d a s (keyed_by i) 6 (gtk_news new 0)) drew 6 refl (rw (same-refl s) refl) counter13

  -- ---- round 14: the station installs it under the key of the session as it is, and answers

  abbrev g1 : KeyMessage
  g1 = g1_message d a s (keyed_by i) 6 new 0

  has14 : session a sta11 ≡ Some key
  has14 = rw (same-refl a) refl

  since14 : chain a sta11 ≡ sta11
  since14 = rw (same-refl a) refl

  counter14 : kept_counter a (chain a sta11) ≡ Some 3
  counter14 = ap (kept_counter a) since14 ∙ rw (same-refl a) (ap (λ (c : ℕ). greatest (c ∷ replay_counter (first.octets5 d k m) ∷ [])) (counted7 d k m pair begins) ∙ ap (λ (c : ℕ). greatest (3 ∷ c ∷ [])) (counted5 d k m pair begins))

  reads14 : Reads d.akm octets12 (Keyed g1)
  reads14 = reads-g1 d a s (keyed_by i) 6 new 0 pair.has_mic pair.ap_whole pair.sta_whole (omega arith) (octets-kek i) is_key

  pub counted12 : replay_counter octets12 ≡ 6
  counted12 = reads-counter d.akm octets12 g1 reads14

  verifies14 : verified d.akm (ptk i).kck g1 Accepted ≡ Accepted
  verifies14 = verified-same d.akm (ptk i).kck g1 Accepted (mic-sealed d.akm (ptk i).kck (g1_fields d (keyed_by i) 6 new 0) pair.has_mic (fits-g1 d (keyed_by i) 6 new 0 (omega arith) (octets-kek i) is_key))

  mine14 : (not (is_mine d s g1.header) || false) ≡ false
  mine14 = rw (same_octets d s) refl

  first14 : first_verdict d 0 s sta11 (Keyed g1) ≡ Accepted
  first14 = keyed-from d 0 s sta11 g1 a mine14 pair.finds_ap ∙ g1-in d sta11 a g1 key 3 has14 counter14 refl ∙ verifies14

  abbrev said_by_g1 : ElementFields
  said_by_g1 = said KeyData (SentGtkKde new.id new.key ∷ [])

  abbrev facts14 : Facts
  facts14 = record { requested = None; responded = None; unwrapped = Some (g1_key_data (gtk_news new 0)); data_ = Some said_by_g1; pulled = None; opened = None; unwrapped_igtk = None; kept = 0 }

  said14 : g1_wrapped d facts14.unwrapped facts14.data_ ≡ Accepted
  said14 = rw (length-gtk d a 3, pair.unprotected) refl

  further14 : further d 0 s sta11 (Keyed g1) facts14 ≡ Accepted
  further14 = from_named (peer_of d s g1.header.a2) a (λ p. key_further d s sta11 p g1 G1 facts14) pair.finds_ap ∙ said14

  accepted14 : verdict d 0 s sta11 (Keyed g1) facts14 ≡ Accepted
  accepted14 = stands Accepted _ _ first14 further14 refl

  knows14 : KnowsM3 (ptk i).kek g1 facts14
  knows14 = record {
    unwrapped = (octets-kek i, wrapped_g1 (ptk i).kek new is_key);
    data_ = λ plain e. (let same : g1_key_data (gtk_news new 0) ≡ plain = cc e in subst (λ (x : List ℕ). ReadsKeyData x facts14.data_) same (says_g1 new is_key));
  }

  -- it is none that the station has
  fresh14 : find_key new.key (memory groups.Gtk a sta11) ≡ None
  fresh14 = rw (same-refl a, not_same (gtk d a 3) (gtk d a 0) differ) refl

  says14 : acts14 ≡ Took (Some a) octets12 (kind.Key G1) Accepted (Some seal12) ∷ (give_all d a (mac d a) (carried_keys facts14.data_) sta11 ++ sent_g2 d s a (keyed_by i) 6 ∷ [])
  says14 = ap (λ (o : Option GroupKey). Took (Some a) octets12 (kind.Key G1) Accepted (Some seal12) ∷ give_by groups.Gtk a (mac d a) new o ∷ sent_g2 d s a (keyed_by i) 6 ∷ []) (sym fresh14)
      ∙ ap (λ (given : List Act). Took (Some a) octets12 (kind.Key G1) Accepted (Some seal12) ∷ (given ++ sent_g2 d s a (keyed_by i) 6 ∷ [])) (sym (give_off d a (mac d a) (carried_keys facts14.data_) sta11 pair.unprotected))

  row14 : TakeRow (here d 0 s) sta11 octets12 acts14
  row14 = record {
    r = Keyed g1;
    reads = reads_so d octets12 (Keyed g1) refl reads14;
    facts = facts14;
    knows = λ came p from. (
      λ x awaited.
          (let same : a ≡ p = cc (from, pair.finds_ap) in
          let one : key ≡ x = cc (has14, subst (λ (q : Node). session q sta11 ≡ Some x) (sym same) awaited) in
          subst (λ (y : Derivation). KnowsM3 y.ptk.kek g1 facts14) one knows14),
      no_response d.akm sta11 p G1 facts14 pair.suite,
    );
    row = By_g1 (record { k = g1; is = refl; message_is = refl; p = a; from = pair.finds_ap; accepted = accepted14; x = key; awaited = has14; says = says14 });
  }

  step14 : AtOne d 14 (Deliver 12 s) stage13.journal (push 14 s acts14 stage13.journal)
  step14 = take_step d 14 12 s octets12 stage13.journal sta11 acts14 stage13.sta_is stage13.was row14 refl

  stage14 : Stage d k m rounds14 sta14 ap13 13 octets13
  stage14 = after_sta d k m rounds13 sta11 ap13 12 octets12 stage13 (Deliver 12 s) acts14 13 octets13 step14 (ap suc stage13.count)
      (record { entry = _; there = inl refl; earlier = omega arith; is = ap suc stage13.count; act = (_, (_, (_, refl))) })

  -- ---- round 15: the access point takes the answer, and the new key becomes current

  abbrev g2 : KeyMessage
  g2 = g2_message d s a (keyed_by i) 6

  offers15 : offered s G1 (handshake groups.Gtk s ap13) ≡ 6 ∷ []
  offers15 = rw (same-refl s) (ap (λ (c : ℕ). c ∷ []) counted12)

  verifies15 : verified d.akm (ptk i).kck g2 Accepted ≡ Accepted
  verifies15 = verified-same d.akm (ptk i).kck g2 Accepted (mic-sealed d.akm (ptk i).kck (g2_fields d 6) pair.has_mic (fits-g2 d 6 (omega arith)))

  mine15 : (not (is_mine d a g2.header) || false) ≡ false
  mine15 = rw (same_octets d a) refl

  accepted15 : verdict d 0 a ap13 (Keyed g2) no_facts ≡ Accepted
  accepted15 = stands Accepted _ _ (keyed-from d 0 a ap13 g2 s mine15 pair.finds_sta ∙ g2-in d ap13 s g2 key (6 ∷ []) owes13 offers15 refl ∙ verifies15)
      (nothing_further (peer_of d a g2.header.a2) (λ p. key_further d a ap13 p g2 G2 no_facts) (λ p. refl)) refl

  row15 : TakeRow (here d 0 a) ap13 octets13 taken15
  row15 = record {
    r = Keyed g2;
    reads = reads_so d octets13 (Keyed g2) refl (reads-g2 d s a (keyed_by i) 6 pair.has_mic pair.sta_whole pair.ap_whole (omega arith));
    facts = no_facts;
    knows = λ came p from. (tt, no_response d.akm ap13 p G2 no_facts pair.suite);
    row = By_g2 (record { k = g2; is = refl; message_is = refl; p = s; from = pair.finds_sta; accepted = accepted15; x = key; awaited = owes13; says = refl });
  }

  none15 : (j : ℕ) → owing groups.Gtk (Sta j) (add taken15 ap13) ≡ None
  none15 j = none_by (j == m) refl
    where
      none_by : (b : Bool) → (j == m) ≡ b → owing groups.Gtk (Sta j) (add taken15 ap13) ≡ None
      none_by true is = rw is refl
      none_by false is = not_owing (is_open (Sta j) (handshake groups.Gtk (Sta j) (add taken15 ap13))) (session (Sta j) (add taken15 ap13)) (rw is refl)

  switches15 : switch_acts d k (add taken15 ap13) ≡ Installed All (Group groups.Gtk new.key new.id (mac d a)) ∷ []
  switches15 = ap (λ (b : Bool). cond b [] (current_acts d a (add taken15 ap13))) (owes_no_more (length d.stas) (add taken15 ap13) none15) ∙ current_off d a (add taken15 ap13) pair.unprotected

  step15 : AtOne d 15 (Deliver 13 a) stage14.journal (push 15 a acts15 stage14.journal)
  step15 = record {
    node = a;
    at_node = event.Take octets13;
    happens = (octets13, (stage14.was, (refl, refl)));
    acts = acts15;
    group = subst (λ (h : List Act). Adds (here d 0 a) h (event.Take octets13) acts15) (sym stage14.ap_is) (record { acts = taken15; row = row15; is = sym (ap (λ (l : List Act). taken15 ++ l) switches15) });
    is = refl;
  }

  pub stage15 : Stage d k m rounds15 sta14 ap15 13 octets13
  stage15 = after_ap d k m rounds14 sta14 ap13 13 octets13 stage14 (Deliver 13 a) acts15 13 octets13 step15 stage14.count
      (record { entry = stage14.was.entry; there = inr (inr stage14.was.there); earlier = omega (arith, stage14.was.earlier); is = stage14.was.is; act = stage14.was.act })
