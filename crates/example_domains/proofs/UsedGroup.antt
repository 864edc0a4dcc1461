-- The rounds of that example in which a new group key is given beside the renewal.
use Rattle.std.proofs.Common.{◌≡◌, ◌≢◌, ℕ, suc, ◌<◌, Bool, true, false, cond, List, [], ◌∷◌, ◌++◌, length, Option, Some, None, refl, sym, ap, subst, ◌∙◌, arith, inl, inr}
use Rattle.std.specs.Prelude.{not, ◌||◌, ◌==◌}
use Rattle.domain_base.specs.declared.names.Node.{Node}
use Rattle.domain_base.specs.declared.names.Node.TheVariants.{Sta, Ap}
use Rattle.domain_base.specs.declared.names.Peer.TheVariants.{All}
use Rattle.eapol_key.specs.declared.messages.Message.TheVariants.{M2, G1, G2}
use Rattle.key_hierarchy.specs.Keys.{ptk}
use Rattle.key_hierarchy.specs.declared.inputs.Inputs.{Inputs}
use Rattle.rsn_elements.specs.Elements.{ElementFields}
use Rattle.rsn_elements.specs.Pieces.{SentGtkKde, said}
use Rattle.rsn_elements.specs.declared.framing.Within.TheVariants.{KeyData}
use Rattle.run_journal.specs.Acts.{Derivation, GroupKey}
use Rattle.run_journal.specs.Questions.{attempt, chain, session, handshake, add}
use Rattle.run_journal.specs.declared.acts.Act.TheVariants.{Drew, Derived, Took, Installed}
use Rattle.run_journal.specs.declared.acts.Act.{Act}
use Rattle.run_journal.specs.declared.acts.Drawn.TheVariants as draw
use Rattle.run_journal.specs.declared.acts.GroupKind.TheVariants as groups
use Rattle.run_journal.specs.declared.acts.Key.TheVariants.{Group}
use Rattle.run_journal.specs.declared.acts.Kind.TheVariants as kind
use Rattle.run_journal.specs.declared.acts.Outcome.TheVariants.{Accepted}
use Rattle.run_journal.specs.declared.acts.Seal.{Seal}
use Rattle.run_journal.specs.declared.domain.Domain.{Domain}
use Rattle.run_journal.specs.declared.domain.Event.TheVariants.{Deliver, Rekey}
use Rattle.run_journal.specs.declared.domain.Event.{Event}
use Rattle.domain_rules.proofs.DataRounds.{IsSender}
use Rattle.domain_rules.specs.DataExample.{IsPayload}
use Rattle.domain_rules.specs.AccessPointRows.{to_sessions, rekey_acts, RekeyRow, Renews}
use Rattle.domain_rules.specs.Asking.{in_renewal, greatest, kept_counter, offered, verified, replay_counter}
use Rattle.domain_rules.specs.Counters.{takes_counter, next_in_session}
use Rattle.domain_rules.specs.Explained.{push}
use Rattle.domain_rules.specs.Facts.{Facts, ReadsKeyData}
use Rattle.domain_rules.specs.Frames.{g1_key_data, sent_m3, sent_g1, sent_g2, keyed_by}
use Rattle.domain_rules.specs.GroupKeys.{find_key, memory, give_by, give_all, News, gtk_news, news}
use Rattle.domain_rules.specs.Here.{here}
use Rattle.domain_rules.specs.Network.{mac, gtk, draw_end, renews, peer_of}
use Rattle.domain_rules.specs.Owing.{is_open, owing, current_acts, switch_acts}
use Rattle.domain_rules.specs.Reading.{KeyMessage, Keyed, Reads}
use Rattle.domain_rules.specs.Rows as event
use Rattle.domain_rules.specs.Rows.{Adds, TakeRow, By_g1, By_g2, By_m3, By_m4}
use Rattle.domain_rules.specs.StationRows.{carried_keys}
use Rattle.domain_rules.specs.StationKeys.{KnowsM3, g1_wrapped}
use Rattle.domain_rules.specs.Verdict.{is_mine, key_further, further, first_verdict, verdict}
use Rattle.domain_rules.proofs.CarriedKey.{IsGroupKey, wrapped_g1, says_g1}
use Rattle.domain_rules.proofs.Exchange.{length-gtk, octets-gtk, g1-in, g2-in, take_step, same_octets, nothing_further, stands, IsPair, Stage, after_sta, after_ap}
use Rattle.domain_rules.proofs.Journals.{AtOne}
use Rattle.domain_rules.proofs.KeyOctets.{octets-kek}
use Rattle.domain_rules.proofs.OneOutcome.{from_named}
use Rattle.domain_rules.proofs.Parts.{same-refl}
use Rattle.domain_rules.proofs.Peers.{not_same}
use Rattle.domain_rules.proofs.Refused.{no_facts}
use Rattle.domain_rules.proofs.RenewalRounds.{Alone, only_one, owes_no_more, owes_still, not_owing}
use Rattle.domain_rules.proofs.RenewedReads.{counter_taken, counter_left}
use Rattle.domain_rules.proofs.SentReads.{g1_message, g1_fields, reads-g1, fits-g1, g2_message, g2_fields, reads-g2, fits-g2, mic-sealed, reads-counter}
use Rattle.domain_rules.proofs.SuiteWords.{no_response}
use Rattle.domain_rules.proofs.Unprotected.{news_off, give_off, draw_off, last_draw_off, current_off, reads_so}
use Rattle.domain_rules.proofs.Verdicts.{verified-same, keyed-from}
use Rattle.domain_rules.proofs.HandshakeActs as first
use Rattle.example_domains.proofs.UsedActs as w
use Rattle.domain_rules.proofs.RenewedRounds.{counted5, counted7}
use Rattle.example_domains.proofs.UsedRounds.{counter12, stage14}

module _ (d : Domain) (k m : ℕ) (up : List ℕ) (pair : IsPair d k m) (from : IsSender d k m) (fit : IsPayload up) (begins : renews d ≡ true) (listed : m < length d.stas) (differ : gtk d (Ap k) 3 ≢ gtk d (Ap k) 0) where
  abbrev a : Node
  a = w.a d k m up

  abbrev s : Node
  s = w.s d k m up

  abbrev i : Inputs
  i = w.i d k m up

  abbrev i2 : Inputs
  i2 = w.i2 d k m up

  abbrev key : Derivation
  key = w.key d k m up

  abbrev g : GroupKey
  g = w.g d k m up

  abbrev new : GroupKey
  new = w.new d k m up

  abbrev octets11 : List ℕ
  octets11 = w.octets11 d k m up

  abbrev octets12 : List ℕ
  octets12 = w.octets12 d k m up

  abbrev octets13 : List ℕ
  octets13 = w.octets13 d k m up

  abbrev octets14 : List ℕ
  octets14 = w.octets14 d k m up

  abbrev seal11 : Seal
  seal11 = w.seal11 d k m up

  abbrev seal13 : Seal
  seal13 = w.seal13 d k m up

  abbrev acts15 : List Act
  acts15 = w.acts15 d k m up

  abbrev acts16 : List Act
  acts16 = w.acts16 d k m up

  abbrev taken17 : List Act
  taken17 = w.taken17 d k m up

  abbrev acts17 : List Act
  acts17 = w.acts17 d k m up

  abbrev sta13 : List Act
  sta13 = w.sta13 d k m up

  abbrev sta16 : List Act
  sta16 = w.sta16 d k m up

  abbrev ap12 : List Act
  ap12 = w.ap12 d k m up

  abbrev ap14 : List Act
  ap14 = w.ap14 d k m up

  abbrev ap15 : List Act
  ap15 = w.ap15 d k m up

  abbrev ap17 : List Act
  ap17 = w.ap17 d k m up

  abbrev rounds14 : List (List Event)
  rounds14 = w.rounds14 d k m up

  abbrev rounds15 : List (List Event)
  rounds15 = w.rounds15 d k m up

  abbrev rounds16 : List (List Event)
  rounds16 = w.rounds16 d k m up

  abbrev rounds17 : List (List Event)
  rounds17 = w.rounds17 d k m up

  st : Stage d k m rounds14 sta13 ap14 12 octets12
  st = stage14 d k m up pair from fit begins

  pub is_key : IsGroupKey new
  is_key = record { octets = octets-gtk d a 3; size = length-gtk d a 3; low = omega arith }

  -- ---- the counters of the session so far: M1 had 4, M3 has 5

  took14 : next_in_session s (Took (Some s) octets11 (kind.Key M2) Accepted (Some seal11) ∷ ap12) ≡ 5
  took14 = counter_left s (Took (Some s) octets11 (kind.Key M2) Accepted (Some seal11)) ap12 5 refl refl (counter12 d k m up pair from fit begins)

  derived14 : next_in_session s (Derived s i2 (ptk i2) ∷ Took (Some s) octets11 (kind.Key M2) Accepted (Some seal11) ∷ ap12) ≡ 5
  derived14 = counter_left s (Derived s i2 (ptk i2)) (Took (Some s) octets11 (kind.Key M2) Accepted (Some seal11) ∷ ap12) 5 refl refl took14

  takes14 : takes_counter s (in_renewal (attempt s (Derived s i2 (ptk i2) ∷ Took (Some s) octets11 (kind.Key M2) Accepted (Some seal11) ∷ ap12))) (sent_m3 d a s (keyed_by i2) 5 (gtk_news g 0)) ≡ true
  takes14 = rw (same-refl s) refl

  counter14 : next_in_session s ap14 ≡ 6
  counter14 = counter_taken s (sent_m3 d a s (keyed_by i2) 5 (gtk_news g 0)) (Derived s i2 (ptk i2) ∷ Took (Some s) octets11 (kind.Key M2) Accepted (Some seal11) ∷ ap12) 5 refl takes14 derived14

  -- ---- round 15: the access point draws a new group key, and gives it to its one session

  abbrev drew : List Act
  drew = Drew (draw.Group groups.Gtk new.key) ∷ ap14

  has15 : session s drew ≡ Some key
  has15 = rw (same-refl s) refl

  alone15 : Alone m drew
  alone15 = λ j other. rw other refl

  counter15 : next_in_session s drew ≡ 6
  counter15 = counter_left s (Drew (draw.Group groups.Gtk new.key)) ap14 6 refl refl counter14

  sends15 : to_sessions d a (length d.stas) drew ≡ sent_g1 d a s (keyed_by i) 6 (gtk_news new 0) ∷ []
  sends15 = only_one d a m drew key alone15 has15 (length d.stas) listed ∙ ap (λ (c : ℕ). sent_g1 d a s (keyed_by i) c (news d drew) ∷ []) counter15
      ∙ ap (λ (x : News). sent_g1 d a s (keyed_by i) 6 x ∷ []) (news_off d drew pair.unprotected)

  says15 : acts15 ≡ rekey_acts (here d 0 a) ap14
  says15 = ap (λ (l : List Act). Drew (draw.Group groups.Gtk new.key) ∷ l) (sym sends15)
      ∙ ap (λ (drawn : List Act). drawn ++ to_sessions d a (length d.stas) (add drawn ap14)) (sym (draw_off d a 3 pair.unprotected))

  row15 : RekeyRow (here d 0 a) ap14 acts15
  row15 = Renews refl refl (subst (λ (n : ℕ). n < draw_end) (sym (last_draw_off d 3 pair.unprotected)) (omega arith)) says15

  owes15 : owing groups.Gtk s ap15 ≡ Some key
  owes15 = rw (same-refl s) refl

  still15 : switch_acts d k ap15 ≡ []
  still15 = ap (λ (b : Bool). cond b [] (current_acts d a ap15)) (owes_still m ap15 key owes15 (length d.stas) listed)

  step15 : AtOne d 15 (Rekey k) st.journal (push 15 a acts15 st.journal)
  step15 = record {
    node = a;
    at_node = event.Rekey;
    happens = (refl, refl);
    acts = acts15;
    group = subst (λ (h : List Act). Adds (here d 0 a) h event.Rekey acts15) (sym st.ap_is) (record { acts = acts15; row = row15; is = sym (ap (λ (l : List Act). acts15 ++ l) still15) });
    is = refl;
  }

  stage15 : Stage d k m rounds15 sta13 ap15 13 octets13
  stage15 = after_ap d k m rounds14 sta13 ap14 12 octets12 st (Rekey k) acts15 13 octets13 step15 (ap suc st.count)
      (record { entry = _; there = inl refl; earlier = omega arith; is = ap suc st.count; act = (_, (_, (_, refl))) })

  pub counter_g1 : next_in_session s ap15 ≡ 7
  counter_g1 = counter_taken s (sent_g1 d a s (keyed_by i) 6 (gtk_news new 0)) drew 6 refl (rw (same-refl s) refl) counter15

  -- ---- round 16: the station installs it under the key of the session as it is, and answers

  abbrev g1 : KeyMessage
  g1 = g1_message d a s (keyed_by i) 6 new 0

  has16 : session a sta13 ≡ Some key
  has16 = rw (same-refl a) refl

  since16 : chain a sta13 ≡ sta13
  since16 = rw (same-refl a) refl

  counter16 : kept_counter a (chain a sta13) ≡ Some 3
  counter16 = ap (kept_counter a) since16 ∙ rw (same-refl a) (ap (λ (c : ℕ). greatest (c ∷ replay_counter (first.octets5 d k m) ∷ [])) (counted7 d k m pair begins) ∙ ap (λ (c : ℕ). greatest (3 ∷ c ∷ [])) (counted5 d k m pair begins))

  reads16 : Reads d.akm octets13 (Keyed g1)
  reads16 = reads-g1 d a s (keyed_by i) 6 new 0 pair.has_mic pair.ap_whole pair.sta_whole (omega arith) (octets-kek i) is_key

  pub counted13 : replay_counter octets13 ≡ 6
  counted13 = reads-counter d.akm octets13 g1 reads16

  verifies16 : verified d.akm (ptk i).kck g1 Accepted ≡ Accepted
  verifies16 = verified-same d.akm (ptk i).kck g1 Accepted (mic-sealed d.akm (ptk i).kck (g1_fields d (keyed_by i) 6 new 0) pair.has_mic (fits-g1 d (keyed_by i) 6 new 0 (omega arith) (octets-kek i) is_key))

  mine16 : (not (is_mine d s g1.header) || false) ≡ false
  mine16 = rw (same_octets d s) refl

  first16 : first_verdict d 0 s sta13 (Keyed g1) ≡ Accepted
  first16 = keyed-from d 0 s sta13 g1 a mine16 pair.finds_ap ∙ g1-in d sta13 a g1 key 3 has16 counter16 refl ∙ verifies16

  abbrev said_by_g1 : ElementFields
  said_by_g1 = said KeyData (SentGtkKde new.id new.key ∷ [])

  abbrev facts16 : Facts
  facts16 = record { requested = None; responded = None; unwrapped = Some (g1_key_data (gtk_news new 0)); data_ = Some said_by_g1; pulled = None; opened = None; unwrapped_igtk = None; kept = 0 }

  said16 : g1_wrapped d facts16.unwrapped facts16.data_ ≡ Accepted
  said16 = rw (length-gtk d a 3, pair.unprotected) refl

  further16 : further d 0 s sta13 (Keyed g1) facts16 ≡ Accepted
  further16 = from_named (peer_of d s g1.header.a2) a (λ p. key_further d s sta13 p g1 G1 facts16) pair.finds_ap ∙ said16

  accepted16 : verdict d 0 s sta13 (Keyed g1) facts16 ≡ Accepted
  accepted16 = stands Accepted _ _ first16 further16 refl

  knows16 : KnowsM3 (ptk i).kek g1 facts16
  knows16 = record {
    unwrapped = (octets-kek i, wrapped_g1 (ptk i).kek new is_key);
    data_ = λ plain e. (let same : g1_key_data (gtk_news new 0) ≡ plain = cc e in subst (λ (x : List ℕ). ReadsKeyData x facts16.data_) same (says_g1 new is_key));
  }

  -- it is none that the station has
  fresh16 : find_key new.key (memory groups.Gtk a sta13) ≡ None
  fresh16 = rw (same-refl a, not_same (gtk d a 3) (gtk d a 0) differ) refl

  says16 : acts16 ≡ Took (Some a) octets13 (kind.Key G1) Accepted (Some seal13) ∷ (give_all d a (mac d a) (carried_keys facts16.data_) sta13 ++ sent_g2 d s a (keyed_by i) 6 ∷ [])
  says16 = ap (λ (o : Option GroupKey). Took (Some a) octets13 (kind.Key G1) Accepted (Some seal13) ∷ give_by groups.Gtk a (mac d a) new o ∷ sent_g2 d s a (keyed_by i) 6 ∷ []) (sym fresh16)
      ∙ ap (λ (given : List Act). Took (Some a) octets13 (kind.Key G1) Accepted (Some seal13) ∷ (given ++ sent_g2 d s a (keyed_by i) 6 ∷ [])) (sym (give_off d a (mac d a) (carried_keys facts16.data_) sta13 pair.unprotected))

  row16 : TakeRow (here d 0 s) sta13 octets13 acts16
  row16 = record {
    r = Keyed g1;
    reads = reads_so d octets13 (Keyed g1) refl reads16;
    facts = facts16;
    knows = λ came p from. (
      λ x awaited.
          (let same : a ≡ p = cc (from, pair.finds_ap) in
          let one : key ≡ x = cc (has16, subst (λ (q : Node). session q sta13 ≡ Some x) (sym same) awaited) in
          subst (λ (y : Derivation). KnowsM3 y.ptk.kek g1 facts16) one knows16),
      no_response d.akm sta13 p G1 facts16 pair.suite,
    );
    row = By_g1 (record { k = g1; is = refl; message_is = refl; p = a; from = pair.finds_ap; accepted = accepted16; x = key; awaited = has16; says = says16 });
  }

  step16 : AtOne d 16 (Deliver 13 s) stage15.journal (push 16 s acts16 stage15.journal)
  step16 = take_step d 16 13 s octets13 stage15.journal sta13 acts16 stage15.sta_is stage15.was row16 refl

  stage16 : Stage d k m rounds16 sta16 ap15 14 octets14
  stage16 = after_sta d k m rounds15 sta13 ap15 13 octets13 stage15 (Deliver 13 s) acts16 14 octets14 step16 (ap suc stage15.count)
      (record { entry = _; there = inl refl; earlier = omega arith; is = ap suc stage15.count; act = (_, (_, (_, refl))) })

  -- ---- round 17: the access point takes the answer, and the new key becomes current

  abbrev g2 : KeyMessage
  g2 = g2_message d s a (keyed_by i) 6

  offers17 : offered s G1 (handshake groups.Gtk s ap15) ≡ 6 ∷ []
  offers17 = rw (same-refl s) (ap (λ (c : ℕ). c ∷ []) counted13)

  verifies17 : verified d.akm (ptk i).kck g2 Accepted ≡ Accepted
  verifies17 = verified-same d.akm (ptk i).kck g2 Accepted (mic-sealed d.akm (ptk i).kck (g2_fields d 6) pair.has_mic (fits-g2 d 6 (omega arith)))

  mine17 : (not (is_mine d a g2.header) || false) ≡ false
  mine17 = rw (same_octets d a) refl

  accepted17 : verdict d 0 a ap15 (Keyed g2) no_facts ≡ Accepted
  accepted17 = stands Accepted _ _ (keyed-from d 0 a ap15 g2 s mine17 pair.finds_sta ∙ g2-in d ap15 s g2 key (6 ∷ []) owes15 offers17 refl ∙ verifies17)
      (nothing_further (peer_of d a g2.header.a2) (λ p. key_further d a ap15 p g2 G2 no_facts) (λ p. refl)) refl

  row17 : TakeRow (here d 0 a) ap15 octets14 taken17
  row17 = record {
    r = Keyed g2;
    reads = reads_so d octets14 (Keyed g2) refl (reads-g2 d s a (keyed_by i) 6 pair.has_mic pair.sta_whole pair.ap_whole (omega arith));
    facts = no_facts;
    knows = λ came p from. (tt, no_response d.akm ap15 p G2 no_facts pair.suite);
    row = By_g2 (record { k = g2; is = refl; message_is = refl; p = s; from = pair.finds_sta; accepted = accepted17; x = key; awaited = owes15; says = refl });
  }

  none17 : (j : ℕ) → owing groups.Gtk (Sta j) (add taken17 ap15) ≡ None
  none17 j = none_by (j == m) refl
    where
      none_by : (b : Bool) → (j == m) ≡ b → owing groups.Gtk (Sta j) (add taken17 ap15) ≡ None
      none_by true is = rw is refl
      none_by false is = not_owing (is_open (Sta j) (handshake groups.Gtk (Sta j) (add taken17 ap15))) (session (Sta j) (add taken17 ap15)) (rw is refl)

  switches17 : switch_acts d k (add taken17 ap15) ≡ Installed All (Group groups.Gtk new.key new.id (mac d a)) ∷ []
  switches17 = ap (λ (b : Bool). cond b [] (current_acts d a (add taken17 ap15))) (owes_no_more (length d.stas) (add taken17 ap15) none17) ∙ current_off d a (add taken17 ap15) pair.unprotected

  step17 : AtOne d 17 (Deliver 14 a) stage16.journal (push 17 a acts17 stage16.journal)
  step17 = record {
    node = a;
    at_node = event.Take octets14;
    happens = (octets14, (stage16.was, (refl, refl)));
    acts = acts17;
    group = subst (λ (h : List Act). Adds (here d 0 a) h (event.Take octets14) acts17) (sym stage16.ap_is) (record { acts = taken17; row = row17; is = sym (ap (λ (l : List Act). taken17 ++ l) switches17) });
    is = refl;
  }

  pub stage17 : Stage d k m rounds17 sta16 ap17 14 octets14
  stage17 = after_ap d k m rounds16 sta16 ap15 14 octets14 stage16 (Deliver 14 a) acts17 14 octets14 step17 stage16.count
      (record { entry = stage16.was.entry; there = inr (inr stage16.was.there); earlier = omega (arith, stage16.was.earlier); is = stage16.was.is; act = stage16.was.act })
