-- The rounds of an example of the renewal of a pairwise key from its begin to M2.
use Rattle.std.proofs.Common.{◌≡◌, ℕ, suc, true, false, cond, List, [], ◌∷◌, Option, Some, None, refl, sym, ap, subst, ◌∙◌, arith, inl}
use Rattle.std.specs.Prelude.{not, ◌||◌}
use Rattle.std.proofs.lemmas.Slice.Eq.{bytes_eq-Decides}
use Rattle.domain_base.specs.declared.names.Node.{Node}
use Rattle.domain_base.specs.declared.names.Peer.TheVariants.{One}
use Rattle.eapol_key.specs.declared.messages.Message.TheVariants.{M1, M2, M3, M4}
use Rattle.key_hierarchy.specs.Keys.{ptk}
use Rattle.key_hierarchy.specs.declared.inputs.Inputs.{Inputs}
use Rattle.rsn_elements.specs.Sent.{rsne_octets}
use Rattle.run_journal.specs.Acts.{Derivation, GroupKey}
use Rattle.run_journal.specs.Questions.{attempt, chain, session, draws, heard}
use Rattle.run_journal.specs.declared.acts.Act.TheVariants.{Opened, Drew, Derived, Took, Installed}
use Rattle.run_journal.specs.declared.acts.Act.{Act}
use Rattle.run_journal.specs.declared.acts.Drawn.TheVariants.{Nonce}
use Rattle.run_journal.specs.declared.acts.GroupKind.TheVariants as groups
use Rattle.run_journal.specs.declared.acts.Key.TheVariants.{Pairwise, Group}
use Rattle.run_journal.specs.declared.acts.Kind.TheVariants as kind
use Rattle.run_journal.specs.declared.acts.Outcome.TheVariants.{Accepted}
use Rattle.run_journal.specs.declared.acts.Seal.{Seal}
use Rattle.run_journal.specs.declared.acts.Start.TheVariants as start
use Rattle.run_journal.specs.declared.domain.Domain.{Domain}
use Rattle.run_journal.specs.declared.domain.Event.TheVariants.{Deliver, Renew}
use Rattle.run_journal.specs.declared.domain.Event.{Event}
use Rattle.domain_rules.specs.AccessPointKeys.{requested_rsne, m2_key_data, IsRequested, KnowsM2, chain_origin, origin, session_origin, request}
use Rattle.domain_rules.specs.Asking.{has_four_way, session_start, greatest, in_renewal, kept_counter, offered, verified, replay_counter}
use Rattle.domain_rules.specs.Counters.{takes_counter, next_in_attempt, first_in_session, next_in_session, next_counter}
use Rattle.domain_rules.specs.Explained.{push}
use Rattle.domain_rules.specs.Facts.{ReadsKeyData, Facts}
use Rattle.domain_rules.specs.Frames.{sent_m1, sent_m3, keyed_by}
use Rattle.domain_rules.specs.GroupKeys.{News, gtk_news, news}
use Rattle.domain_rules.specs.Here.{here}
use Rattle.domain_rules.specs.Network.{mac, renews, r0kh_id, peer_of}
use Rattle.domain_rules.specs.PairwiseRenewal.{RenewRow, Begins}
use Rattle.domain_rules.specs.Reading.{KeyMessage, Keyed, Reads}
use Rattle.domain_rules.specs.Rows as event
use Rattle.domain_rules.specs.Rows.{Adds, TakeRow, By_opening_m1, By_m2}
use Rattle.domain_rules.specs.StationKeys.{opens_renewal}
use Rattle.domain_rules.specs.Verdict.{is_mine, key_further, further, first_verdict, verdict}
use Rattle.domain_rules.proofs.CarriedKey.{IsGroupKey}
use Rattle.domain_rules.proofs.Exchange.{length-nonce, length-gtk, octets-gtk, start-session, take_step, same_octets, nothing_further, stands, IsPair, Stage, after_sta, after_ap}
use Rattle.domain_rules.proofs.Journals.{AtOne}
use Rattle.domain_rules.proofs.KeyOctets.{octets-kek}
use Rattle.domain_rules.proofs.KeyRounds.{stage9}
use Rattle.domain_rules.proofs.OneOutcome.{from_named}
use Rattle.domain_rules.proofs.Parts.{same-refl, attempt_more}
use Rattle.domain_rules.proofs.Refused.{no_facts}
use Rattle.domain_rules.proofs.RenewalRounds.{next-begun}
use Rattle.domain_rules.proofs.RenewedReads.{renewal_m2_fields, renewal_m2_message, fits-renewal_m2, reads-renewal_m2, secure-renewal_m2, secured-renewal, m1-opening, counter_taken, counter_left}
use Rattle.domain_rules.proofs.SentReads.{assoc_req_body, assoc_req_said, reads-assoc_req, m1_message, reads-m1, few-m2, rsne_said, rsne_spelled, m3_message, reads-m3, few-m3, mic-sealed, reads-counter}
use Rattle.domain_rules.proofs.SuiteWords.{inputs_suite, m2_data_suite, m2_further_suite, no_response}
use Rattle.domain_rules.proofs.Unprotected.{news_off, reads_so}
use Rattle.domain_rules.proofs.Verdicts.{m2-in, verified-same, keyed-from}
use Rattle.domain_rules.proofs.HandshakeActs as first
use Rattle.domain_rules.proofs.RenewedActs as w

module _ (d : Domain) (k m : ℕ) (pair : IsPair d k m) (begins : renews d ≡ true) where
  abbrev a : Node
  a = w.a d k m

  abbrev s : Node
  s = w.s d k m

  abbrev i : Inputs
  i = w.i d k m

  abbrev i2 : Inputs
  i2 = w.i2 d k m

  abbrev key : Derivation
  key = w.key d k m

  abbrev g : GroupKey
  g = w.g d k m

  abbrev snonce : List ℕ
  snonce = w.snonce d k m

  abbrev anonce : List ℕ
  anonce = w.anonce d k m

  abbrev octets1 : List ℕ
  octets1 = first.octets1 d k m

  abbrev octets9 : List ℕ
  octets9 = w.octets9 d k m

  abbrev octets10 : List ℕ
  octets10 = w.octets10 d k m

  abbrev octets11 : List ℕ
  octets11 = w.octets11 d k m

  abbrev seal10 : Seal
  seal10 = w.seal10 d k m

  abbrev acts10 : List Act
  acts10 = w.acts10 d k m

  abbrev acts11 : List Act
  acts11 = w.acts11 d k m

  abbrev acts12 : List Act
  acts12 = w.acts12 d k m

  abbrev sta8 : List Act
  sta8 = w.sta8 d k m

  abbrev sta11 : List Act
  sta11 = w.sta11 d k m

  abbrev ap9 : List Act
  ap9 = w.ap9 d k m

  abbrev ap10 : List Act
  ap10 = w.ap10 d k m

  abbrev ap12 : List Act
  ap12 = w.ap12 d k m

  abbrev part10 : List Act
  part10 = w.part10 d k m

  abbrev rounds9 : List (List Event)
  rounds9 = w.rounds9 d k m

  abbrev rounds10 : List (List Event)
  rounds10 = w.rounds10 d k m

  abbrev rounds11 : List (List Event)
  rounds11 = w.rounds11 d k m

  abbrev rounds12 : List (List Event)
  rounds12 = w.rounds12 d k m

  st : Stage d k m rounds9 sta8 ap9 8 (first.octets8 d k m)
  st = stage9 d k m pair

  -- ---- round 10: the access point begins

  has10 : session s ap9 ≡ Some key
  has10 = rw (same-refl s) refl

  none10 : attempt s ap9 ≡ None
  none10 = rw (same-refl s) refl

  -- the attempt that became the session had one M1 and two M3
  abbrev before : List Act
  before = Installed (One s) (Pairwise (ptk i).tk i) ∷ Took (Some s) (first.octets8 d k m) (kind.Key M4) Accepted (Some (first.seal8 d k m)) ∷ first.ap7 d k m

  abbrev part9 : List Act
  part9 = Installed (One s) (Pairwise (ptk i).tk i) ∷ Took (Some s) (first.octets8 d k m) (kind.Key M4) Accepted (Some (first.seal8 d k m)) ∷ first.part7 d k m

  attempt2 : attempt s (first.ap2 d k m) ≡ Some (first.part2 d k m)
  attempt2 = rw (same-refl s) refl

  attempt5 : attempt s (first.ap5 d k m) ≡ Some (first.part5 d k m)
  attempt5 = attempt_more s (sent_m3 d a s (keyed_by i) 2 (gtk_news g 0)) (Derived s i (ptk i) ∷ Took (Some s) (first.octets4 d k m) (kind.Key M2) Accepted (Some (first.seal4 d k m)) ∷ first.ap2 d k m) (Derived s i (ptk i) ∷ Took (Some s) (first.octets4 d k m) (kind.Key M2) Accepted (Some (first.seal4 d k m)) ∷ first.part2 d k m) refl refl
      (attempt_more s (Derived s i (ptk i)) (Took (Some s) (first.octets4 d k m) (kind.Key M2) Accepted (Some (first.seal4 d k m)) ∷ first.ap2 d k m) (Took (Some s) (first.octets4 d k m) (kind.Key M2) Accepted (Some (first.seal4 d k m)) ∷ first.part2 d k m) refl refl
      (attempt_more s (Took (Some s) (first.octets4 d k m) (kind.Key M2) Accepted (Some (first.seal4 d k m))) (first.ap2 d k m) (first.part2 d k m) refl refl attempt2))

  attempt9 : attempt s before ≡ Some part9
  attempt9 = attempt_more s (Installed (One s) (Pairwise (ptk i).tk i)) (Took (Some s) (first.octets8 d k m) (kind.Key M4) Accepted (Some (first.seal8 d k m)) ∷ first.ap7 d k m) (Took (Some s) (first.octets8 d k m) (kind.Key M4) Accepted (Some (first.seal8 d k m)) ∷ first.part7 d k m) refl refl
      (attempt_more s (Took (Some s) (first.octets8 d k m) (kind.Key M4) Accepted (Some (first.seal8 d k m))) (first.ap7 d k m) (first.part7 d k m) refl refl
      (attempt_more s (sent_m3 d a s (keyed_by i) 3 (gtk_news g 0)) (first.ap5 d k m) (first.part5 d k m) refl refl attempt5))

  sends9 : next_in_attempt s part9 ≡ 4
  sends9 = rw (same-refl s) refl

  pub counter9 : next_in_session s ap9 ≡ 4
  counter9 = next-begun s i before (ap in_renewal attempt9) ∙ ap (first_in_session s) attempt9 ∙ sends9

  row10 : RenewRow (here d 0 a) ap9 s acts10
  row10 = Begins refl begins key has10 none10 (omega arith) (ap (λ (c : ℕ). Opened s start.Renew ∷ Drew (Nonce anonce) ∷ sent_m1 d a s c anonce ∷ []) (sym counter9))

  step10 : AtOne d 10 (Renew k m) st.journal (push 10 a acts10 st.journal)
  step10 = record {
    node = a;
    at_node = event.Renew m;
    happens = (refl, refl);
    acts = acts10;
    group = subst (λ (h : List Act). Adds (here d 0 a) h (event.Renew m) acts10) (sym st.ap_is) (record { acts = acts10; row = row10; is = refl });
    is = refl;
  }

  stage10 : Stage d k m rounds10 sta8 ap10 9 octets9
  stage10 = after_ap d k m rounds9 sta8 ap9 8 (first.octets8 d k m) st (Renew k m) acts10 9 octets9 step10 (ap suc st.count)
      (record { entry = _; there = inl refl; earlier = omega arith; is = ap suc st.count; act = (_, (_, (_, refl))) })

  -- ---- round 11: the station begins by M1, and answers with M2

  abbrev m1 : KeyMessage
  m1 = m1_message d a s 4 anonce

  pub has11 : session a sta8 ≡ Some key
  has11 = rw (same-refl a) refl

  none11 : attempt a sta8 ≡ None
  none11 = refl

  abbrev before6 : List Act
  before6 = Installed (One a) (Group groups.Gtk g.key g.id (mac d a)) ∷ Installed (One a) (Pairwise (ptk i).tk i) ∷ Took (Some a) (first.octets5 d k m) (kind.Key M3) Accepted (Some (first.seal5 d k m)) ∷ first.sta4 d k m

  begun11 : has_four_way (session_start a sta8) ≡ true
  begun11 = ap has_four_way (start-session a sta8 before6 before6 (rw (same-refl a) refl) (rw (same-refl a) refl))

  opens11 : opens_renewal d sta8 a ≡ true
  opens11 = rw (begins, has11, begun11) refl

  since11 : chain a sta8 ≡ sta8
  since11 = rw (same-refl a) refl

  first_key : IsGroupKey g
  first_key = record { octets = octets-gtk d a 0; size = length-gtk d a 0; low = omega arith }

  reads5 : Reads d.akm (first.octets5 d k m) (Keyed (m3_message d a s (keyed_by i) 2 g 0))
  reads5 = reads-m3 d a s (keyed_by i) 2 g 0 pair.has_mic pair.ap_whole pair.sta_whole (omega arith) (length-nonce d a 1) (few-m3 d a (keyed_by i) (gtk_news g 0) pair.suite pair.unprotected refl (octets-kek i) first_key)

  reads7 : Reads d.akm (first.octets7 d k m) (Keyed (m3_message d a s (keyed_by i) 3 g 0))
  reads7 = reads-m3 d a s (keyed_by i) 3 g 0 pair.has_mic pair.ap_whole pair.sta_whole (omega arith) (length-nonce d a 1) (few-m3 d a (keyed_by i) (gtk_news g 0) pair.suite pair.unprotected refl (octets-kek i) first_key)

  pub counted5 : replay_counter (first.octets5 d k m) ≡ 2
  counted5 = reads-counter d.akm (first.octets5 d k m) (m3_message d a s (keyed_by i) 2 g 0) reads5

  pub counted7 : replay_counter (first.octets7 d k m) ≡ 3
  counted7 = reads-counter d.akm (first.octets7 d k m) (m3_message d a s (keyed_by i) 3 g 0) reads7

  counter11 : kept_counter a (chain a sta8) ≡ Some 3
  counter11 = ap (kept_counter a) since11 ∙ rw (same-refl a) (ap (λ (c : ℕ). greatest (c ∷ replay_counter (first.octets5 d k m) ∷ [])) counted7 ∙ ap (λ (c : ℕ). greatest (3 ∷ c ∷ [])) counted5)

  mine11 : (not (is_mine d s m1.header) || false) ≡ false
  mine11 = rw (same_octets d s) refl

  accepted11 : verdict d 0 s sta8 (Keyed m1) no_facts ≡ Accepted
  accepted11 = stands Accepted _ _ (keyed-from d 0 s sta8 m1 a mine11 pair.finds_ap ∙ m1-opening d (draws sta8) sta8 a m1 3 none11 opens11 counter11 refl refl)
      (nothing_further (peer_of d s m1.header.a2) (λ p. key_further d s sta8 p m1 M1 no_facts) (λ p. refl)) refl

  reads11 : Reads d.akm octets9 (Keyed m1)
  reads11 = reads-m1 d a s 4 anonce pair.ap_whole pair.sta_whole (omega arith) (length-nonce d a 2)

  row11 : TakeRow (here d 0 s) sta8 octets9 acts11
  row11 = record {
    r = Keyed m1;
    reads = reads_so d octets9 (Keyed m1) refl reads11;
    facts = no_facts;
    knows = λ came p from. (tt, no_response d.akm sta8 p M1 no_facts pair.suite);
    row = By_opening_m1 (record { k = m1; is = refl; message_is = refl; p = a; from = pair.finds_ap; accepted = accepted11; none = none11; i = i2; inputs_are = inputs_suite d [] s a snonce anonce pair.suite; says = refl });
  }

  step11 : AtOne d 11 (Deliver 9 s) stage10.journal (push 11 s acts11 stage10.journal)
  step11 = take_step d 11 9 s octets9 stage10.journal sta8 acts11 stage10.sta_is stage10.was row11 refl

  stage11 : Stage d k m rounds11 sta11 ap10 10 octets10
  stage11 = after_sta d k m rounds10 sta8 ap10 9 octets9 stage10 (Deliver 9 s) acts11 10 octets10 step11 (ap suc stage10.count)
      (record { entry = _; there = inl refl; earlier = omega arith; is = ap suc stage10.count; act = (_, (_, (_, refl))) })

  -- ---- round 12: the access point derives the key by M2, and answers with M3

  abbrev m2 : KeyMessage
  m2 = renewal_m2_message d s a (keyed_by i2) 4

  pub attempt10 : attempt s ap10 ≡ Some part10
  attempt10 = rw (same-refl s) refl

  offers12 : offered s M1 part10 ≡ 4 ∷ []
  offers12 = rw (same-refl s) (ap (λ (c : ℕ). c ∷ []) (reads-counter d.akm octets9 m1 reads11))

  verifies12 : verified d.akm (ptk i2).kck m2 Accepted ≡ Accepted
  verifies12 = verified-same d.akm (ptk i2).kck m2 Accepted (mic-sealed d.akm (ptk i2).kck (renewal_m2_fields d (keyed_by i2) 4) pair.has_mic (fits-renewal_m2 d (keyed_by i2) 4 (omega arith) (length-nonce d s 1) (few-m2 d (keyed_by i2) [] pair.suite pair.unprotected)))

  mine12 : (not (is_mine d a m2.header) || false) ≡ false
  mine12 = rw (same_octets d a) refl

  first12 : first_verdict d 0 a ap10 (Keyed m2) ≡ Accepted
  first12 = keyed-from d 0 a ap10 m2 s mine12 pair.finds_sta ∙ m2-in d a ap10 s m2 part10 false (4 ∷ []) anonce attempt10 refl refl (secured-renewal d part10 m2 refl (secure-renewal_m2 d s a (keyed_by i2) 4)) offers12 refl
      ∙ ap (λ (v : Inputs). verified d.akm (ptk v).kck m2 Accepted) (sym (inputs_suite d (r0kh_id d a) a s anonce snonce pair.suite)) ∙ verifies12

  abbrev facts12 : Facts
  facts12 = record { requested = Some (assoc_req_said d); responded = None; unwrapped = None; data_ = Some (rsne_said d.akm); pulled = None; opened = None; unwrapped_igtk = None; kept = 0 }

  same_rsne : m2_key_data (requested_rsne facts12.requested) facts12.data_ ≡ Accepted
  same_rsne = rw ((bytes_eq-Decides (rsne_octets d.akm None) (rsne_octets d.akm None)).1 refl) refl

  further12 : further d 0 a ap10 (Keyed m2) facts12 ≡ Accepted
  further12 = from_named (peer_of d a m2.header.a2) s (λ p. key_further d a ap10 p m2 M2 facts12) pair.finds_sta ∙ m2_further_suite d.akm d a s facts12 pair.suite ∙ same_rsne

  accepted12 : verdict d 0 a ap10 (Keyed m2) facts12 ≡ Accepted
  accepted12 = stands Accepted _ _ first12 further12 refl

  -- the request is the one that the chain began with
  abbrev asked : List Act
  asked = Took (Some s) octets1 kind.AssocReq Accepted None ∷ first.ap0 d k m

  origin9 : origin s before ≡ asked
  origin9 = rw (same-refl s) refl

  origin10 : session_origin s ap10 ≡ cond (in_renewal (attempt s before)) (session_origin s before) (origin s before)
  origin10 = rw (same-refl s) refl

  chain12 : chain_origin s ap10 ≡ asked
  chain12 = ap (λ (o : Option (List Act)). cond (in_renewal o) (session_origin s ap10) (origin s ap10)) attempt10 ∙ origin10
      ∙ ap (λ (o : Option (List Act)). cond (in_renewal o) (session_origin s before) (origin s before)) attempt9 ∙ origin9

  asked12 : heard s kind.AssocReq asked ≡ Some octets1
  asked12 = rw (same-refl s) refl

  request12 : request s ap10 ≡ Some octets1
  request12 = ap (heard s kind.AssocReq) chain12 ∙ asked12

  knows12 : KnowsM2 d.akm ap10 s m2 facts12
  knows12 = record {
    requested = subst (λ (o : Option (List ℕ)). IsRequested d.akm o facts12.requested) (sym request12) (assoc_req_body d s a, reads-assoc_req d s a pair.suite pair.unprotected pair.sta_whole pair.ap_whole);
    data_ = subst (λ (x : List ℕ). ReadsKeyData x facts12.data_) (sym (m2_data_suite d.akm d (keyed_by i2) [] pair.suite pair.unprotected)) (rsne_spelled d.akm);
  }

  opened10 : next_in_session s (Opened s start.Renew ∷ ap9) ≡ 4
  opened10 = counter_left s (Opened s start.Renew) ap9 4 refl refl counter9

  drew10 : next_in_session s (Drew (Nonce anonce) ∷ Opened s start.Renew ∷ ap9) ≡ 4
  drew10 = counter_left s (Drew (Nonce anonce)) (Opened s start.Renew ∷ ap9) 4 refl refl opened10

  takes10 : takes_counter s (in_renewal (attempt s (Drew (Nonce anonce) ∷ Opened s start.Renew ∷ ap9))) (sent_m1 d a s 4 anonce) ≡ true
  takes10 = rw (same-refl s) refl

  pub counter10 : next_in_session s ap10 ≡ 5
  counter10 = counter_taken s (sent_m1 d a s 4 anonce) (Drew (Nonce anonce) ∷ Opened s start.Renew ∷ ap9) 4 refl takes10 drew10

  counter12 : next_counter s ap10 part10 ≡ 5
  counter12 = counter10

  says12 : acts12 ≡ Took (Some s) octets10 (kind.Key M2) Accepted (Some seal10) ∷ Derived s i2 (ptk i2) ∷ sent_m3 d a s (keyed_by i2) (next_counter s ap10 part10) (news d ap10) ∷ []
  says12 = ap (λ (c : ℕ). Took (Some s) octets10 (kind.Key M2) Accepted (Some seal10) ∷ Derived s i2 (ptk i2) ∷ sent_m3 d a s (keyed_by i2) c (gtk_news g 0) ∷ []) (sym counter12)
      ∙ ap (λ (x : News). Took (Some s) octets10 (kind.Key M2) Accepted (Some seal10) ∷ Derived s i2 (ptk i2) ∷ sent_m3 d a s (keyed_by i2) (next_counter s ap10 part10) x ∷ []) (sym (news_off d ap10 pair.unprotected))

  row12 : TakeRow (here d 0 a) ap10 octets10 acts12
  row12 = record {
    r = Keyed m2;
    reads = reads_so d octets10 (Keyed m2) refl (reads-renewal_m2 d s a (keyed_by i2) 4 pair.has_mic pair.sta_whole pair.ap_whole (omega arith) (length-nonce d s 1) (few-m2 d (keyed_by i2) [] pair.suite pair.unprotected));
    facts = facts12;
    knows = λ came p from. (let same : s ≡ p = cc (from, pair.finds_sta) in (subst (λ (x : Node). KnowsM2 d.akm ap10 x m2 facts12) same knows12, no_response d.akm ap10 p M2 facts12 pair.suite));
    row = By_m2 (record { k = m2; is = refl; message_is = refl; p = s; from = pair.finds_sta; accepted = accepted12; part = part10; awaited = attempt10; i = i2; inputs_are = inputs_suite d (r0kh_id d a) a s anonce snonce pair.suite; says = says12 });
  }

  step12 : AtOne d 12 (Deliver 10 a) stage11.journal (push 12 a acts12 stage11.journal)
  step12 = take_step d 12 10 a octets10 stage11.journal ap10 acts12 stage11.ap_is stage11.was row12 refl

  pub stage12 : Stage d k m rounds12 sta11 ap12 11 octets11
  stage12 = after_ap d k m rounds11 sta11 ap10 10 octets10 stage11 (Deliver 10 a) acts12 11 octets11 step12 (ap suc stage11.count)
      (record { entry = _; there = inl refl; earlier = omega arith; is = ap suc stage11.count; act = (_, (_, (_, refl))) })
