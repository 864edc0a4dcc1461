-- The rounds of an example of the renewal of a pairwise key under which a payload was sent, up to M2 of the renewal.
use Rattle.std.proofs.Common.{◌≡◌, ℕ, suc, true, false, cond, List, [], ◌∷◌, Option, Some, None, refl, sym, ap, subst, ◌∙◌, arith, inl}
use Rattle.std.specs.Prelude.{not, ◌||◌}
use Rattle.std.proofs.lemmas.Slice.Eq.{bytes_eq-Decides}
use Rattle.air_frame.specs.Sent.{data_header_octets}
use Rattle.air_frame.specs.declared.frame.Direction.TheVariants.{ToDs}
use Rattle.domain_rules.specs.DataFrames.{data_seal}
use Rattle.domain_base.specs.declared.names.Node.{Node}
use Rattle.domain_base.specs.declared.names.Peer.TheVariants.{One}
use Rattle.eapol_key.specs.declared.messages.Message.TheVariants.{M1, M2, M3, M4}
use Rattle.key_hierarchy.specs.Keys.{ptk}
use Rattle.key_hierarchy.specs.declared.inputs.Inputs.{Inputs}
use Rattle.rsn_elements.specs.Sent.{rsne_octets}
use Rattle.run_journal.specs.Acts.{Derivation, GroupKey}
use Rattle.run_journal.specs.Questions.{attempt, chain, session, draws, heard}
use Rattle.run_journal.specs.declared.acts.Act.TheVariants.{Opened, Drew, Derived, Took, Installed, HandedUp}
use Rattle.run_journal.specs.declared.acts.Act.{Act}
use Rattle.run_journal.specs.declared.acts.Drawn.TheVariants.{Nonce}
use Rattle.run_journal.specs.declared.acts.GroupKind.TheVariants as groups
use Rattle.run_journal.specs.declared.acts.Key.TheVariants.{Pairwise, Group}
use Rattle.run_journal.specs.declared.acts.Kind.TheVariants as kind
use Rattle.run_journal.specs.declared.acts.Outcome.TheVariants.{Accepted}
use Rattle.run_journal.specs.declared.acts.Seal.{Seal}
use Rattle.run_journal.specs.declared.acts.Start.TheVariants as start
use Rattle.run_journal.specs.declared.domain.Domain.{Domain}
use Rattle.run_journal.specs.declared.domain.Event.TheVariants.{Deliver, Renew}
use Rattle.run_journal.specs.declared.domain.Event.{Event}
use Rattle.domain_rules.proofs.DataRounds.{IsSender}
use Rattle.domain_rules.specs.DataExample.{IsPayload}
use Rattle.domain_rules.specs.AccessPointKeys.{requested_rsne, m2_key_data, IsRequested, KnowsM2, chain_origin, origin, session_origin, request}
use Rattle.domain_rules.specs.Asking.{has_four_way, session_start, greatest, in_renewal, kept_counter, offered, verified, replay_counter}
use Rattle.domain_rules.specs.Counters.{takes_counter, next_in_session, next_counter}
use Rattle.domain_rules.specs.Explained.{push}
use Rattle.domain_rules.specs.Facts.{ReadsKeyData, Facts}
use Rattle.domain_rules.specs.Frames.{sent_m1, sent_m3, keyed_by}
use Rattle.domain_rules.specs.GroupKeys.{News, gtk_news, news}
use Rattle.domain_rules.specs.Here.{here}
use Rattle.domain_rules.specs.Network.{mac, address, renews, r0kh_id, peer_of}
use Rattle.domain_rules.specs.PairwiseRenewal.{RenewRow, Begins}
use Rattle.domain_rules.specs.Reading.{KeyMessage, Keyed, Reads}
use Rattle.domain_rules.specs.Rows as event
use Rattle.domain_rules.specs.Rows.{Adds, TakeRow, By_opening_m1, By_m2}
use Rattle.domain_rules.specs.StationKeys.{opens_renewal}
use Rattle.domain_rules.specs.Verdict.{is_mine, key_further, further, first_verdict, verdict}
use Rattle.domain_rules.proofs.Exchange.{length-nonce, start-session, take_step, same_octets, nothing_further, stands, IsPair, Stage, after_sta, after_ap}
use Rattle.domain_rules.proofs.Journals.{AtOne}
use Rattle.domain_rules.proofs.KeyRounds.{stage9}
use Rattle.domain_rules.proofs.RenewedRounds.{counter9, counted5, counted7}
use Rattle.domain_rules.proofs.OneOutcome.{from_named}
use Rattle.domain_rules.proofs.Parts.{same-refl, attempt_more}
use Rattle.domain_rules.proofs.Refused.{no_facts}
use Rattle.domain_rules.proofs.RenewedReads.{renewal_m2_fields, renewal_m2_message, fits-renewal_m2, reads-renewal_m2, secure-renewal_m2, secured-renewal, m1-opening, counter_taken, counter_left}
use Rattle.domain_rules.proofs.SentReads.{assoc_req_body, assoc_req_said, reads-assoc_req, m1_message, reads-m1, few-m2, rsne_said, rsne_spelled, mic-sealed, reads-counter}
use Rattle.domain_rules.proofs.SuiteWords.{inputs_suite, m2_data_suite, m2_further_suite, no_response}
use Rattle.domain_rules.proofs.Unprotected.{news_off, reads_so}
use Rattle.domain_rules.proofs.Verdicts.{m2-in, verified-same, keyed-from}
use Rattle.domain_rules.proofs.HandshakeActs as first
use Rattle.example_domains.proofs.Elements.{same_bytes}
use Rattle.example_domains.proofs.UsedActs as w
use Rattle.example_domains.proofs.UsedData.{carried_up}

module _ (d : Domain) (k m : ℕ) (up : List ℕ) (pair : IsPair d k m) (from : IsSender d k m) (fit : IsPayload up) (begins : renews d ≡ true) where
  abbrev a : Node
  a = w.a d k m up

  abbrev s : Node
  s = w.s d k m up

  abbrev i : Inputs
  i = w.i d k m up

  abbrev i2 : Inputs
  i2 = w.i2 d k m up

  abbrev key : Derivation
  key = w.key d k m up

  abbrev g : GroupKey
  g = w.g d k m up

  abbrev snonce : List ℕ
  snonce = w.snonce d k m up

  abbrev anonce : List ℕ
  anonce = w.anonce d k m up

  abbrev octets1 : List ℕ
  octets1 = first.octets1 d k m

  abbrev octets10 : List ℕ
  octets10 = w.octets10 d k m up

  abbrev octets11 : List ℕ
  octets11 = w.octets11 d k m up

  abbrev octets12 : List ℕ
  octets12 = w.octets12 d k m up

  abbrev seal11 : Seal
  seal11 = w.seal11 d k m up

  abbrev acts12 : List Act
  acts12 = w.acts12 d k m up

  abbrev acts13 : List Act
  acts13 = w.acts13 d k m up

  abbrev acts14 : List Act
  acts14 = w.acts14 d k m up

  abbrev sta10 : List Act
  sta10 = w.sta10 d k m up

  abbrev sta13 : List Act
  sta13 = w.sta13 d k m up

  abbrev ap11 : List Act
  ap11 = w.ap11 d k m up

  abbrev ap12 : List Act
  ap12 = w.ap12 d k m up

  abbrev ap14 : List Act
  ap14 = w.ap14 d k m up

  abbrev part12 : List Act
  part12 = w.part12 d k m up

  abbrev rounds11 : List (List Event)
  rounds11 = w.rounds11 d k m up

  abbrev rounds12 : List (List Event)
  rounds12 = w.rounds12 d k m up

  abbrev rounds13 : List (List Event)
  rounds13 = w.rounds13 d k m up

  abbrev rounds14 : List (List Event)
  rounds14 = w.rounds14 d k m up

  -- ---- rounds 10 and 11: the station sends a payload, and the access point hands it up

  st : Stage d k m rounds11 sta10 ap11 9 (w.octets9 d k m up)
  st = carried_up d k m pair from i (first.rounds9 d k m) (first.sta8 d k m) (first.ap9 d k m) 8 (first.octets8 d k m) (stage9 d k m pair) up fit (rw (same-refl a) refl) (rw (same-refl a) refl) (rw (same-refl s) refl)
      (rw (same-refl s, same_bytes (ptk i).tk) refl) refl

  -- ---- round 12: the access point begins

  has12 : session s ap11 ≡ Some key
  has12 = rw (same-refl s) refl

  none12 : attempt s ap11 ≡ None
  none12 = rw (same-refl s) refl

  -- the attempt that became the session had one M1 and two M3
  abbrev before : List Act
  before = Installed (One s) (Pairwise (ptk i).tk i) ∷ Took (Some s) (first.octets8 d k m) (kind.Key M4) Accepted (Some (first.seal8 d k m)) ∷ first.ap7 d k m

  abbrev part11 : List Act
  part11 = Installed (One s) (Pairwise (ptk i).tk i) ∷ Took (Some s) (first.octets8 d k m) (kind.Key M4) Accepted (Some (first.seal8 d k m)) ∷ first.part7 d k m

  attempt2 : attempt s (first.ap2 d k m) ≡ Some (first.part2 d k m)
  attempt2 = rw (same-refl s) refl

  attempt5 : attempt s (first.ap5 d k m) ≡ Some (first.part5 d k m)
  attempt5 = attempt_more s (sent_m3 d a s (keyed_by i) 2 (gtk_news g 0)) (Derived s i (ptk i) ∷ Took (Some s) (first.octets4 d k m) (kind.Key M2) Accepted (Some (first.seal4 d k m)) ∷ first.ap2 d k m) (Derived s i (ptk i) ∷ Took (Some s) (first.octets4 d k m) (kind.Key M2) Accepted (Some (first.seal4 d k m)) ∷ first.part2 d k m) refl refl
      (attempt_more s (Derived s i (ptk i)) (Took (Some s) (first.octets4 d k m) (kind.Key M2) Accepted (Some (first.seal4 d k m)) ∷ first.ap2 d k m) (Took (Some s) (first.octets4 d k m) (kind.Key M2) Accepted (Some (first.seal4 d k m)) ∷ first.part2 d k m) refl refl
      (attempt_more s (Took (Some s) (first.octets4 d k m) (kind.Key M2) Accepted (Some (first.seal4 d k m))) (first.ap2 d k m) (first.part2 d k m) refl refl attempt2))

  attempt11 : attempt s before ≡ Some part11
  attempt11 = attempt_more s (Installed (One s) (Pairwise (ptk i).tk i)) (Took (Some s) (first.octets8 d k m) (kind.Key M4) Accepted (Some (first.seal8 d k m)) ∷ first.ap7 d k m) (Took (Some s) (first.octets8 d k m) (kind.Key M4) Accepted (Some (first.seal8 d k m)) ∷ first.part7 d k m) refl refl
      (attempt_more s (Took (Some s) (first.octets8 d k m) (kind.Key M4) Accepted (Some (first.seal8 d k m))) (first.ap7 d k m) (first.part7 d k m) refl refl
      (attempt_more s (sent_m3 d a s (keyed_by i) 3 (gtk_news g 0)) (first.ap5 d k m) (first.part5 d k m) refl refl attempt5))

  -- the payload leaves the counters
  abbrev took11 : Act
  took11 = Took (Some s) (w.octets9 d k m up) kind.Data Accepted (Some (data_seal (ptk i).tk (data_header_octets ToDs true (Some 5) (address d a) (address d s) (address d a)) 1 up))

  counter11 : next_in_session s ap11 ≡ 4
  counter11 = counter_left s (HandedUp s (ptk i).tk 0 5 1 up) (took11 ∷ first.ap9 d k m) 4 refl refl (counter_left s took11 (first.ap9 d k m) 4 refl refl (counter9 d k m pair begins))

  row12 : RenewRow (here d 0 a) ap11 s acts12
  row12 = Begins refl begins key has12 none12 (omega arith) (ap (λ (c : ℕ). Opened s start.Renew ∷ Drew (Nonce anonce) ∷ sent_m1 d a s c anonce ∷ []) (sym counter11))

  step12 : AtOne d 12 (Renew k m) st.journal (push 12 a acts12 st.journal)
  step12 = record {
    node = a;
    at_node = event.Renew m;
    happens = (refl, refl);
    acts = acts12;
    group = subst (λ (h : List Act). Adds (here d 0 a) h (event.Renew m) acts12) (sym st.ap_is) (record { acts = acts12; row = row12; is = refl });
    is = refl;
  }

  stage12 : Stage d k m rounds12 sta10 ap12 10 octets10
  stage12 = after_ap d k m rounds11 sta10 ap11 9 (w.octets9 d k m up) st (Renew k m) acts12 10 octets10 step12 (ap suc st.count)
      (record { entry = _; there = inl refl; earlier = omega arith; is = ap suc st.count; act = (_, (_, (_, refl))) })

  -- ---- round 13: the station begins by M1, and answers with M2

  abbrev m1 : KeyMessage
  m1 = m1_message d a s 4 anonce

  has13 : session a sta10 ≡ Some key
  has13 = rw (same-refl a) refl

  none13 : attempt a sta10 ≡ None
  none13 = refl

  abbrev before6 : List Act
  before6 = Installed (One a) (Group groups.Gtk g.key g.id (mac d a)) ∷ Installed (One a) (Pairwise (ptk i).tk i) ∷ Took (Some a) (first.octets5 d k m) (kind.Key M3) Accepted (Some (first.seal5 d k m)) ∷ first.sta4 d k m

  begun13 : has_four_way (session_start a sta10) ≡ true
  begun13 = ap has_four_way (start-session a sta10 before6 before6 (rw (same-refl a) refl) (rw (same-refl a) refl))

  opens13 : opens_renewal d sta10 a ≡ true
  opens13 = rw (begins, has13, begun13) refl

  since13 : chain a sta10 ≡ sta10
  since13 = rw (same-refl a) refl

  counter13 : kept_counter a (chain a sta10) ≡ Some 3
  counter13 = ap (kept_counter a) since13 ∙ rw (same-refl a) (ap (λ (c : ℕ). greatest (c ∷ replay_counter (first.octets5 d k m) ∷ [])) (counted7 d k m pair begins) ∙ ap (λ (c : ℕ). greatest (3 ∷ c ∷ [])) (counted5 d k m pair begins))

  mine13 : (not (is_mine d s m1.header) || false) ≡ false
  mine13 = rw (same_octets d s) refl

  accepted13 : verdict d 0 s sta10 (Keyed m1) no_facts ≡ Accepted
  accepted13 = stands Accepted _ _ (keyed-from d 0 s sta10 m1 a mine13 pair.finds_ap ∙ m1-opening d (draws sta10) sta10 a m1 3 none13 opens13 counter13 refl refl)
      (nothing_further (peer_of d s m1.header.a2) (λ p. key_further d s sta10 p m1 M1 no_facts) (λ p. refl)) refl

  reads13 : Reads d.akm octets10 (Keyed m1)
  reads13 = reads-m1 d a s 4 anonce pair.ap_whole pair.sta_whole (omega arith) (length-nonce d a 2)

  row13 : TakeRow (here d 0 s) sta10 octets10 acts13
  row13 = record {
    r = Keyed m1;
    reads = reads_so d octets10 (Keyed m1) refl reads13;
    facts = no_facts;
    knows = λ came p from. (tt, no_response d.akm sta10 p M1 no_facts pair.suite);
    row = By_opening_m1 (record { k = m1; is = refl; message_is = refl; p = a; from = pair.finds_ap; accepted = accepted13; none = none13; i = i2; inputs_are = inputs_suite d [] s a snonce anonce pair.suite; says = refl });
  }

  step13 : AtOne d 13 (Deliver 10 s) stage12.journal (push 13 s acts13 stage12.journal)
  step13 = take_step d 13 10 s octets10 stage12.journal sta10 acts13 stage12.sta_is stage12.was row13 refl

  stage13 : Stage d k m rounds13 sta13 ap12 11 octets11
  stage13 = after_sta d k m rounds12 sta10 ap12 10 octets10 stage12 (Deliver 10 s) acts13 11 octets11 step13 (ap suc stage12.count)
      (record { entry = _; there = inl refl; earlier = omega arith; is = ap suc stage12.count; act = (_, (_, (_, refl))) })

  -- ---- round 14: the access point derives the key by M2, and answers with M3

  abbrev m2 : KeyMessage
  m2 = renewal_m2_message d s a (keyed_by i2) 4

  attempt12 : attempt s ap12 ≡ Some part12
  attempt12 = rw (same-refl s) refl

  offers14 : offered s M1 part12 ≡ 4 ∷ []
  offers14 = rw (same-refl s) (ap (λ (c : ℕ). c ∷ []) (reads-counter d.akm octets10 m1 reads13))

  verifies14 : verified d.akm (ptk i2).kck m2 Accepted ≡ Accepted
  verifies14 = verified-same d.akm (ptk i2).kck m2 Accepted (mic-sealed d.akm (ptk i2).kck (renewal_m2_fields d (keyed_by i2) 4) pair.has_mic (fits-renewal_m2 d (keyed_by i2) 4 (omega arith) (length-nonce d s 1) (few-m2 d (keyed_by i2) [] pair.suite pair.unprotected)))

  mine14 : (not (is_mine d a m2.header) || false) ≡ false
  mine14 = rw (same_octets d a) refl

  first14 : first_verdict d 0 a ap12 (Keyed m2) ≡ Accepted
  first14 = keyed-from d 0 a ap12 m2 s mine14 pair.finds_sta ∙ m2-in d a ap12 s m2 part12 false (4 ∷ []) anonce attempt12 refl refl (secured-renewal d part12 m2 refl (secure-renewal_m2 d s a (keyed_by i2) 4)) offers14 refl
      ∙ ap (λ (v : Inputs). verified d.akm (ptk v).kck m2 Accepted) (sym (inputs_suite d (r0kh_id d a) a s anonce snonce pair.suite)) ∙ verifies14

  abbrev facts14 : Facts
  facts14 = record { requested = Some (assoc_req_said d); responded = None; unwrapped = None; data_ = Some (rsne_said d.akm); pulled = None; opened = None; unwrapped_igtk = None; kept = 0 }

  same_rsne : m2_key_data (requested_rsne facts14.requested) facts14.data_ ≡ Accepted
  same_rsne = rw ((bytes_eq-Decides (rsne_octets d.akm None) (rsne_octets d.akm None)).1 refl) refl

  further14 : further d 0 a ap12 (Keyed m2) facts14 ≡ Accepted
  further14 = from_named (peer_of d a m2.header.a2) s (λ p. key_further d a ap12 p m2 M2 facts14) pair.finds_sta ∙ m2_further_suite d.akm d a s facts14 pair.suite ∙ same_rsne

  accepted14 : verdict d 0 a ap12 (Keyed m2) facts14 ≡ Accepted
  accepted14 = stands Accepted _ _ first14 further14 refl

  -- the request is the one that the chain began with
  abbrev asked : List Act
  asked = Took (Some s) octets1 kind.AssocReq Accepted None ∷ first.ap0 d k m

  origin11 : origin s before ≡ asked
  origin11 = rw (same-refl s) refl

  origin12 : session_origin s ap12 ≡ cond (in_renewal (attempt s before)) (session_origin s before) (origin s before)
  origin12 = rw (same-refl s) refl

  chain14 : chain_origin s ap12 ≡ asked
  chain14 = ap (λ (o : Option (List Act)). cond (in_renewal o) (session_origin s ap12) (origin s ap12)) attempt12 ∙ origin12
      ∙ ap (λ (o : Option (List Act)). cond (in_renewal o) (session_origin s before) (origin s before)) attempt11 ∙ origin11

  asked14 : heard s kind.AssocReq asked ≡ Some octets1
  asked14 = rw (same-refl s) refl

  request14 : request s ap12 ≡ Some octets1
  request14 = ap (heard s kind.AssocReq) chain14 ∙ asked14

  knows14 : KnowsM2 d.akm ap12 s m2 facts14
  knows14 = record {
    requested = subst (λ (o : Option (List ℕ)). IsRequested d.akm o facts14.requested) (sym request14) (assoc_req_body d s a, reads-assoc_req d s a pair.suite pair.unprotected pair.sta_whole pair.ap_whole);
    data_ = subst (λ (x : List ℕ). ReadsKeyData x facts14.data_) (sym (m2_data_suite d.akm d (keyed_by i2) [] pair.suite pair.unprotected)) (rsne_spelled d.akm);
  }

  opened12 : next_in_session s (Opened s start.Renew ∷ ap11) ≡ 4
  opened12 = counter_left s (Opened s start.Renew) ap11 4 refl refl counter11

  drew12 : next_in_session s (Drew (Nonce anonce) ∷ Opened s start.Renew ∷ ap11) ≡ 4
  drew12 = counter_left s (Drew (Nonce anonce)) (Opened s start.Renew ∷ ap11) 4 refl refl opened12

  takes12 : takes_counter s (in_renewal (attempt s (Drew (Nonce anonce) ∷ Opened s start.Renew ∷ ap11))) (sent_m1 d a s 4 anonce) ≡ true
  takes12 = rw (same-refl s) refl

  pub counter12 : next_in_session s ap12 ≡ 5
  counter12 = counter_taken s (sent_m1 d a s 4 anonce) (Drew (Nonce anonce) ∷ Opened s start.Renew ∷ ap11) 4 refl takes12 drew12

  counter14 : next_counter s ap12 part12 ≡ 5
  counter14 = counter12

  says14 : acts14 ≡ Took (Some s) octets11 (kind.Key M2) Accepted (Some seal11) ∷ Derived s i2 (ptk i2) ∷ sent_m3 d a s (keyed_by i2) (next_counter s ap12 part12) (news d ap12) ∷ []
  says14 = ap (λ (c : ℕ). Took (Some s) octets11 (kind.Key M2) Accepted (Some seal11) ∷ Derived s i2 (ptk i2) ∷ sent_m3 d a s (keyed_by i2) c (gtk_news g 0) ∷ []) (sym counter14)
      ∙ ap (λ (x : News). Took (Some s) octets11 (kind.Key M2) Accepted (Some seal11) ∷ Derived s i2 (ptk i2) ∷ sent_m3 d a s (keyed_by i2) (next_counter s ap12 part12) x ∷ []) (sym (news_off d ap12 pair.unprotected))

  row14 : TakeRow (here d 0 a) ap12 octets11 acts14
  row14 = record {
    r = Keyed m2;
    reads = reads_so d octets11 (Keyed m2) refl (reads-renewal_m2 d s a (keyed_by i2) 4 pair.has_mic pair.sta_whole pair.ap_whole (omega arith) (length-nonce d s 1) (few-m2 d (keyed_by i2) [] pair.suite pair.unprotected));
    facts = facts14;
    knows = λ came p from. (let same : s ≡ p = cc (from, pair.finds_sta) in (subst (λ (x : Node). KnowsM2 d.akm ap12 x m2 facts14) same knows14, no_response d.akm ap12 p M2 facts14 pair.suite));
    row = By_m2 (record { k = m2; is = refl; message_is = refl; p = s; from = pair.finds_sta; accepted = accepted14; part = part12; awaited = attempt12; i = i2; inputs_are = inputs_suite d (r0kh_id d a) a s anonce snonce pair.suite; says = says14 });
  }

  step14 : AtOne d 14 (Deliver 11 a) stage13.journal (push 14 a acts14 stage13.journal)
  step14 = take_step d 14 11 a octets11 stage13.journal ap12 acts14 stage13.ap_is stage13.was row14 refl

  pub stage14 : Stage d k m rounds14 sta13 ap14 12 octets12
  stage14 = after_ap d k m rounds13 sta13 ap12 11 octets11 stage13 (Deliver 11 a) acts14 12 octets12 step14 (ap suc stage13.count)
      (record { entry = _; there = inl refl; earlier = omega arith; is = ap suc stage13.count; act = (_, (_, (_, refl))) })
