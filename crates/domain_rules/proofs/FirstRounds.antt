-- The rounds of an example handshake from the start to M2.
use Rattle.domain_base.specs.declared.names.Node.{Node}
use Rattle.domain_rules.proofs.Refused.{no_facts}
use Rattle.domain_rules.proofs.Exchange.{length-nonce, take_step, frames-started, status-sent, same_octets, nothing_further, stands, IsPair, Stage}
use Rattle.domain_rules.proofs.Journals.{AtOne, history-push, history-other, history-started, history-started_sta, starts_off, explained_start, explained_still}
use Rattle.domain_rules.proofs.Unprotected.{news_off, reads_so}
use Rattle.domain_rules.proofs.Parts.{same-refl, attempt_more, chain_part}
use Rattle.domain_rules.proofs.Effects.{request-begun}
use Rattle.domain_rules.proofs.SentReads.{assoc_req_body, assoc_req_said, reads-assoc_req, assoc_resp_body, rates_said, reads-assoc_resp, m1_message, reads-m1, m2_message, m2_fields, clear-m2, reads-m2, fits-m2, few-m2, rsne_said, rsne_spelled, mic-sealed, reads-counter}
use Rattle.domain_rules.proofs.Verdicts.{assoc_resp-in, m1-in, m2-in, secured-connect, verified-same, management-from, managed-from, keyed-from}
use Rattle.domain_rules.specs.Counters.{next_counter}
use Rattle.domain_rules.specs.Explained.{frames, push, started, WasSent, Explained}
use Rattle.domain_rules.specs.Frames.{assoc_resp_elements, sent_m3, keyed_by}
use Rattle.domain_rules.specs.Network.{r0kh_id, peer_of}
use Rattle.domain_rules.specs.TransitionKeyData.{responded_r0kh_id}
use Rattle.domain_rules.proofs.OneOutcome.{from_named}
use Rattle.domain_rules.proofs.SuiteWords.{inputs_suite, m2_data_suite, mobility_suite, fields_suite, m2_further_suite, no_response}
use Rattle.domain_rules.specs.GroupKeys.{News, gtk_news, news}
use Rattle.domain_rules.specs.Reading.{KeyMessage, Managed, Keyed, Reads}
use Rattle.domain_rules.specs.StationRows.{Asks}
use Rattle.domain_rules.specs.Rows.{Begin, Adds, TakeRow, By_assoc_req, By_assoc_resp, By_m1, By_m2}
use Rattle.domain_rules.specs.AccessPointKeys.{requested_rsne, m2_key_data, IsRequested, KnowsM2, request}
use Rattle.domain_rules.specs.Asking.{has_heard, kept_counter, offered, verified}
use Rattle.domain_rules.specs.Verdict.{is_mine, management_sender, management_further, key_further, further, first_verdict, verdict}
use Rattle.domain_rules.specs.Associating.{management_verdict}
use Rattle.domain_rules.specs.Facts.{ReadsKeyData, Facts}
use Rattle.domain_rules.specs.Here.{here}
use Rattle.eapol_key.specs.declared.messages.Message.TheVariants.{M1, M2}
use Rattle.key_hierarchy.specs.Keys.{ptk}
use Rattle.key_hierarchy.specs.declared.inputs.Inputs.{Inputs}
use Rattle.rsn_elements.specs.Sent.{rsne_octets}
use Rattle.run_journal.specs.Acts.{GroupKey}
use Rattle.run_journal.specs.Questions.{attempt, draws, history, add}
use Rattle.run_journal.specs.declared.acts.Act.TheVariants.{Derived, Took}
use Rattle.run_journal.specs.declared.acts.Act.{Act}
use Rattle.run_journal.specs.declared.acts.Entry.{Entry}
use Rattle.run_journal.specs.declared.acts.Kind.TheVariants as kind
use Rattle.run_journal.specs.declared.acts.Outcome.TheVariants.{Accepted}
use Rattle.run_journal.specs.declared.acts.Seal.{Seal}
use Rattle.run_journal.specs.declared.domain.Domain.{Domain}
use Rattle.run_journal.specs.declared.domain.Event.TheVariants.{Connect, Deliver}
use Rattle.run_journal.specs.declared.domain.Event.{Event}
use Rattle.std.proofs.Common.{◌≡◌, ℕ, suc, true, false, List, [], ◌∷◌, length, Option, Some, None, refl, sym, ap, subst, ◌∙◌, arith, inl, inr}
use Rattle.std.proofs.lemmas.Slice.Eq.{bytes_eq-Decides}
use Rattle.std.specs.Prelude.{not, ◌||◌}
use Rattle.domain_rules.proofs.HandshakeActs as w

module _ (d : Domain) (k m : ℕ) (pair : IsPair d k m) where
  abbrev a : Node
  a = w.a d k m

  abbrev s : Node
  s = w.s d k m

  abbrev anonce : List ℕ
  anonce = w.anonce d k m

  abbrev snonce : List ℕ
  snonce = w.snonce d k m

  abbrev i : Inputs
  i = w.i d k m

  abbrev g : GroupKey
  g = w.g d k m

  abbrev octets1 : List ℕ
  octets1 = w.octets1 d k m

  abbrev octets2 : List ℕ
  octets2 = w.octets2 d k m

  abbrev octets3 : List ℕ
  octets3 = w.octets3 d k m

  abbrev octets4 : List ℕ
  octets4 = w.octets4 d k m

  abbrev octets5 : List ℕ
  octets5 = w.octets5 d k m

  abbrev seal4 : Seal
  seal4 = w.seal4 d k m

  abbrev acts1 : List Act
  acts1 = w.acts1 d k m

  abbrev acts2 : List Act
  acts2 = w.acts2 d k m

  abbrev acts3 : List Act
  acts3 = w.acts3 d k m

  abbrev acts4 : List Act
  acts4 = w.acts4 d k m

  abbrev acts5 : List Act
  acts5 = w.acts5 d k m

  abbrev sta1 : List Act
  sta1 = w.sta1 d k m

  abbrev sta3 : List Act
  sta3 = w.sta3 d k m

  abbrev sta4 : List Act
  sta4 = w.sta4 d k m

  abbrev ap0 : List Act
  ap0 = w.ap0 d k m

  abbrev ap2 : List Act
  ap2 = w.ap2 d k m

  abbrev ap5 : List Act
  ap5 = w.ap5 d k m

  abbrev part2 : List Act
  part2 = w.part2 d k m

  abbrev rounds5 : List (List Event)
  rounds5 = w.rounds5 d k m

  abbrev past0 : List Entry
  past0 = started d (length d.aps)

  -- round 1: the station asks
  abbrev past1 : List Entry
  past1 = push 1 s acts1 past0

  step1 : AtOne d 1 (Connect m k) past0 past1
  step1 = record {
    node = s;
    at_node = Begin k;
    happens = (refl, refl);
    acts = acts1;
    group = subst (λ (h : List Act). Adds (here d 0 s) h (Begin k) acts1) (sym (history-started_sta d m (length d.aps))) (record { acts = acts1; row = Asks (omega arith) refl; is = refl });
    is = refl;
  }

  sta1-is : history s past1 ≡ sta1
  sta1-is = history-push 1 s acts1 past0 ∙ ap (add acts1) (history-started_sta d m (length d.aps))

  ap1-is : history a past1 ≡ ap0
  ap1-is = history-other 1 s a acts1 past0 refl ∙ history-started d k (length d.aps) pair.ap_low ∙ ap (λ (x : List Act). add x []) (starts_off d k pair.unprotected)

  -- round 2: the access point answers with its response and M1
  abbrev past2 : List Entry
  past2 = push 2 a acts2 past1

  none_sent : frames past0 ≡ 0
  none_sent = frames-started d (length d.aps)

  was1 : WasSent past1 2 1 octets1
  was1 = record { entry = _; there = inl refl; earlier = omega arith; is = ap suc none_sent; act = (_, (_, (_, refl))) }

  awaited1 : management_verdict d 0 a ap0 s kind.AssocReq (assoc_req_body d s a) (assoc_req_said d) ≡ Accepted
  awaited1 = rw (status-sent d pair.unprotected, mobility_suite d.akm d None pair.suite) refl

  accepted1 : verdict d 0 a ap0 (Managed (assoc_req_body d s a) (assoc_req_said d)) no_facts ≡ Accepted
  accepted1 = stands Accepted _ _
      (managed-from d 0 a ap0 (assoc_req_body d s a) (assoc_req_said d) s (same_octets d a) (management-from d a s (assoc_req_body d s a).header pair.finds_sta refl) ∙ awaited1)
      (nothing_further (management_sender d a (assoc_req_body d s a).header) (λ p. management_further d (draws ap0) a ap0 p (assoc_req_body d s a) (assoc_req_said d) no_facts kind.AssocReq) (λ p. refl)) refl

  row1 : TakeRow (here d 0 a) ap0 octets1 acts2
  row1 = record {
    r = Managed (assoc_req_body d s a) (assoc_req_said d);
    reads = reads_so d octets1 (Managed (assoc_req_body d s a) (assoc_req_said d)) refl (reads-assoc_req d s a pair.suite pair.unprotected pair.sta_whole pair.ap_whole);
    facts = no_facts;
    knows = λ came p from. tt;
    row = By_assoc_req (record { b = assoc_req_body d s a; e = assoc_req_said d; is = refl; kind_is = refl; p = s; from = pair.finds_sta; accepted = accepted1; says = refl });
  }

  step2 : AtOne d 2 (Deliver 1 a) past1 past2
  step2 = take_step d 2 1 a octets1 past1 ap0 acts2 ap1-is was1 row1 refl

  ap2-is : history a past2 ≡ ap2
  ap2-is = history-push 2 a acts2 past1 ∙ ap (add acts2) ap1-is

  sta2-is : history s past2 ≡ sta1
  sta2-is = history-other 2 a s acts2 past1 refl ∙ sta1-is

  -- round 3: the station is associated
  abbrev past3 : List Entry
  past3 = push 3 s acts3 past2

  was2 : WasSent past2 3 2 octets2
  was2 = record { entry = _; there = inr (inl refl); earlier = omega arith; is = ap (λ (n : ℕ). suc (suc n)) none_sent; act = (_, (_, (_, refl))) }

  attempt1 : attempt a sta1 ≡ Some sta1
  attempt1 = rw (same-refl a) refl

  accepted2 : verdict d 0 s sta1 (Managed (assoc_resp_body d a s 0 (assoc_resp_elements d a)) rates_said) no_facts ≡ Accepted
  accepted2 = stands Accepted _ _ (
      managed-from d 0 s sta1 (assoc_resp_body d a s 0 (assoc_resp_elements d a)) rates_said a (same_octets d s) (management-from d s a (assoc_resp_body d a s 0 (assoc_resp_elements d a)).header pair.finds_ap refl)
      ∙ assoc_resp-in d sta1 a (assoc_resp_body d a s 0 (assoc_resp_elements d a)) rates_said sta1 false attempt1 refl refl
      ∙ fields_suite d.akm d a rates_said pair.suite
      )
      (nothing_further (management_sender d s (assoc_resp_body d a s 0 (assoc_resp_elements d a)).header) (λ p. management_further d (draws sta1) s sta1 p (assoc_resp_body d a s 0 (assoc_resp_elements d a)) rates_said no_facts kind.AssocResp) (λ p. refl)) refl

  row2 : TakeRow (here d 0 s) sta1 octets2 acts3
  row2 = record {
    r = Managed (assoc_resp_body d a s 0 (assoc_resp_elements d a)) rates_said;
    reads = reads_so d octets2 (Managed (assoc_resp_body d a s 0 (assoc_resp_elements d a)) rates_said) refl (reads-assoc_resp d a s pair.suite pair.ap_whole pair.sta_whole (omega (arith, pair.sta_low)));
    facts = no_facts;
    knows = λ came p from. tt;
    row = By_assoc_resp (record { b = assoc_resp_body d a s 0 (assoc_resp_elements d a); e = rates_said; is = refl; kind_is = refl; p = a; from = pair.finds_ap; accepted = accepted2; says = refl });
  }

  step3 : AtOne d 3 (Deliver 2 s) past2 past3
  step3 = take_step d 3 2 s octets2 past2 sta1 acts3 sta2-is was2 row2 refl

  sta3-is : history s past3 ≡ sta3
  sta3-is = history-push 3 s acts3 past2 ∙ ap (add acts3) sta2-is

  ap3-is : history a past3 ≡ ap2
  ap3-is = history-other 3 s a acts3 past2 refl ∙ ap2-is

  -- round 4: the station derives the key by M1 and answers with M2
  abbrev m1 : KeyMessage
  m1 = m1_message d a s 1 anonce

  abbrev past4 : List Entry
  past4 = push 4 s acts4 past3

  was3 : WasSent past3 4 3 octets3
  was3 = record { entry = _; there = inr (inl refl); earlier = omega arith; is = ap (λ (n : ℕ). suc (suc (suc n))) none_sent; act = (_, (_, (_, refl))) }

  attempt3 : attempt a sta3 ≡ Some sta3
  attempt3 = attempt_more a (Took (Some a) octets2 kind.AssocResp Accepted None) sta1 sta1 refl refl attempt1

  heard3 : has_heard a kind.AssocResp sta3 ≡ true
  heard3 = rw (same-refl a) refl

  counter3 : kept_counter a sta3 ≡ None
  counter3 = rw (same-refl a) refl

  mine3 : (not (is_mine d s m1.header) || false) ≡ false
  mine3 = rw (same_octets d s) refl

  accepted3 : verdict d 0 s sta3 (Keyed m1) no_facts ≡ Accepted
  accepted3 = stands Accepted _ _ (keyed-from d 0 s sta3 m1 a mine3 pair.finds_ap ∙ m1-in d (draws sta3) sta3 a m1 sta3 true None attempt3 refl heard3 (ap (kept_counter a) (chain_part a sta3 sta3 attempt3 refl) ∙ counter3))
      (nothing_further (peer_of d s m1.header.a2) (λ p. key_further d s sta3 p m1 M1 no_facts) (λ p. refl)) refl

  reads3 : Reads d.akm octets3 (Keyed m1)
  reads3 = reads-m1 d a s 1 anonce pair.ap_whole pair.sta_whole (omega arith) (length-nonce d a 1)

  row3 : TakeRow (here d 0 s) sta3 octets3 acts4
  row3 = record {
    r = Keyed m1;
    reads = reads_so d octets3 (Keyed m1) refl reads3;
    facts = no_facts;
    knows = λ came p from. (tt, no_response d.akm sta3 p M1 no_facts pair.suite);
    row = By_m1 (record { k = m1; is = refl; message_is = refl; p = a; from = pair.finds_ap; accepted = accepted3; part = sta3; awaited = attempt3; i = i; inputs_are = inputs_suite d (responded_r0kh_id None) s a snonce anonce pair.suite; says = refl });
  }

  step4 : AtOne d 4 (Deliver 3 s) past3 past4
  step4 = take_step d 4 3 s octets3 past3 sta3 acts4 sta3-is was3 row3 refl

  ap4-is : history a past4 ≡ ap2
  ap4-is = history-other 4 s a acts4 past3 refl ∙ ap3-is

  -- round 5: the access point derives it by M2
  abbrev m2 : KeyMessage
  m2 = m2_message d s a (keyed_by i) 1 []

  abbrev past5 : List Entry
  past5 = push 5 a acts5 past4

  was4 : WasSent past4 5 4 octets4
  was4 = record { entry = _; there = inl refl; earlier = omega arith; is = ap (λ (n : ℕ). suc (suc (suc (suc n)))) none_sent; act = (_, (_, (_, refl))) }

  attempt4 : attempt s ap2 ≡ Some part2
  attempt4 = rw (same-refl s) refl

  offers4 : offered s M1 part2 ≡ 1 ∷ []
  offers4 = rw (same-refl s) (ap (λ (c : ℕ). c ∷ []) (reads-counter d.akm octets3 m1 reads3))

  verifies4 : verified d.akm (ptk i).kck m2 Accepted ≡ Accepted
  verifies4 = verified-same d.akm (ptk i).kck m2 Accepted (mic-sealed d.akm (ptk i).kck (m2_fields d (keyed_by i) 1 []) pair.has_mic (fits-m2 d (keyed_by i) 1 [] (omega arith) (length-nonce d s 0) (few-m2 d (keyed_by i) [] pair.suite pair.unprotected)))

  mine4 : (not (is_mine d a m2.header) || false) ≡ false
  mine4 = rw (same_octets d a) refl

  first4 : first_verdict d 0 a ap2 (Keyed m2) ≡ Accepted
  first4 = keyed-from d 0 a ap2 m2 s mine4 pair.finds_sta ∙ m2-in d a ap2 s m2 part2 false (1 ∷ []) anonce attempt4 refl refl (secured-connect d part2 m2 refl (clear-m2 d s a (keyed_by i) 1 [])) offers4 refl
      ∙ ap (λ (v : Inputs). verified d.akm (ptk v).kck m2 Accepted) (sym (inputs_suite d (r0kh_id d a) a s anonce snonce pair.suite)) ∙ verifies4

  abbrev facts : Facts
  facts = record { requested = Some (assoc_req_said d); responded = None; unwrapped = None; data_ = Some (rsne_said d.akm); pulled = None; opened = None; unwrapped_igtk = None; kept = 0 }

  same_rsne : m2_key_data (requested_rsne facts.requested) facts.data_ ≡ Accepted
  same_rsne = rw ((bytes_eq-Decides (rsne_octets d.akm None) (rsne_octets d.akm None)).1 refl) refl

  further4 : further d 0 a ap2 (Keyed m2) facts ≡ Accepted
  further4 = from_named (peer_of d a m2.header.a2) s (λ p. key_further d a ap2 p m2 M2 facts) pair.finds_sta ∙ m2_further_suite d.akm d a s facts pair.suite ∙ same_rsne

  accepted4 : verdict d 0 a ap2 (Keyed m2) facts ≡ Accepted
  accepted4 = stands Accepted _ _ first4 further4 refl

  request4 : request s ap2 ≡ Some octets1
  request4 = request-begun d a s anonce (Took (Some s) octets1 kind.AssocReq Accepted None ∷ w.ap0 d k m) ∙ rw (same-refl s) refl

  knows4 : KnowsM2 d.akm ap2 s m2 facts
  knows4 = record {
    requested = subst (λ (o : Option (List ℕ)). IsRequested d.akm o facts.requested) (sym request4) (assoc_req_body d s a, reads-assoc_req d s a pair.suite pair.unprotected pair.sta_whole pair.ap_whole);
    data_ = subst (λ (x : List ℕ). ReadsKeyData x facts.data_) (sym (m2_data_suite d.akm d (keyed_by i) [] pair.suite pair.unprotected)) (rsne_spelled d.akm);
  }

  counter4 : next_counter s ap2 part2 ≡ 2
  counter4 = rw (same-refl s) refl

  says4 : acts5 ≡ Took (Some s) octets4 (kind.Key M2) Accepted (Some seal4) ∷ Derived s i (ptk i) ∷ sent_m3 d a s (keyed_by i) (next_counter s ap2 part2) (news d ap2) ∷ []
  says4 = ap (λ (c : ℕ). Took (Some s) octets4 (kind.Key M2) Accepted (Some seal4) ∷ Derived s i (ptk i) ∷ sent_m3 d a s (keyed_by i) c (gtk_news g 0) ∷ []) (sym counter4)
      ∙ ap (λ (x : News). Took (Some s) octets4 (kind.Key M2) Accepted (Some seal4) ∷ Derived s i (ptk i) ∷ sent_m3 d a s (keyed_by i) (next_counter s ap2 part2) x ∷ []) (sym (news_off d ap2 pair.unprotected))

  row4 : TakeRow (here d 0 a) ap2 octets4 acts5
  row4 = record {
    r = Keyed m2;
    reads = reads_so d octets4 (Keyed m2) refl (reads-m2 d s a (keyed_by i) 1 [] pair.has_mic pair.sta_whole pair.ap_whole (omega arith) (length-nonce d s 0) (few-m2 d (keyed_by i) [] pair.suite pair.unprotected));
    facts = facts;
    knows = λ came p from. (let same : s ≡ p = cc (from, pair.finds_sta) in (subst (λ (x : Node). KnowsM2 d.akm ap2 x m2 facts) same knows4, no_response d.akm ap2 p M2 facts pair.suite));
    row = By_m2 (record { k = m2; is = refl; message_is = refl; p = s; from = pair.finds_sta; accepted = accepted4; part = part2; awaited = attempt4; i = i; inputs_are = inputs_suite d (r0kh_id d a) a s anonce snonce pair.suite; says = says4 });
  }

  step5 : AtOne d 5 (Deliver 4 a) past4 past5
  step5 = take_step d 5 4 a octets4 past4 ap2 acts5 ap4-is was4 row4 refl

  ap5-is : history a past5 ≡ add acts5 ap2
  ap5-is = history-push 5 a acts5 past4 ∙ ap (add acts5) ap4-is

  sta5-is : history s past5 ≡ sta4
  sta5-is = history-other 5 a s acts5 past4 refl ∙ history-push 4 s acts4 past3 ∙ ap (add acts4) sta3-is

  explained1 : Explained d ((Connect m k ∷ []) ∷ []) past1
  explained1 = explained_still d [] (Connect m k) past0 past1 (explained_start d) refl step1

  explained2 : Explained d ((Deliver 1 a ∷ []) ∷ (Connect m k ∷ []) ∷ []) past2
  explained2 = explained_still d ((Connect m k ∷ []) ∷ []) (Deliver 1 a) past1 past2 explained1 refl step2

  explained3 : Explained d ((Deliver 2 s ∷ []) ∷ (Deliver 1 a ∷ []) ∷ (Connect m k ∷ []) ∷ []) past3
  explained3 = explained_still d ((Deliver 1 a ∷ []) ∷ (Connect m k ∷ []) ∷ []) (Deliver 2 s) past2 past3 explained2 refl step3

  explained4 : Explained d ((Deliver 3 s ∷ []) ∷ (Deliver 2 s ∷ []) ∷ (Deliver 1 a ∷ []) ∷ (Connect m k ∷ []) ∷ []) past4
  explained4 = explained_still d ((Deliver 2 s ∷ []) ∷ (Deliver 1 a ∷ []) ∷ (Connect m k ∷ []) ∷ []) (Deliver 3 s) past3 past4 explained3 refl step4

  pub stage5 : Stage d k m rounds5 sta4 ap5 5 octets5
  stage5 = record {
    journal = past5;
    still = refl;
    explained = explained_still d ((Deliver 3 s ∷ []) ∷ (Deliver 2 s ∷ []) ∷ (Deliver 1 a ∷ []) ∷ (Connect m k ∷ []) ∷ []) (Deliver 4 a) past4 past5 explained4 refl step5;
    sta_is = sta5-is;
    ap_is = ap5-is;
    count = ap (λ (n : ℕ). suc (suc (suc (suc (suc n))))) none_sent;
    was = record { entry = _; there = inl refl; earlier = omega arith; is = ap (λ (n : ℕ). suc (suc (suc (suc (suc n))))) none_sent; act = (_, (_, (_, refl))) };
  }
