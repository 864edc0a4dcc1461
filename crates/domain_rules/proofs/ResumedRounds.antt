-- The last rounds of an example of the group key handshake: the station associates anew, and resumes the new key.
use Rattle.domain_base.specs.declared.names.Node.{Node}
use Rattle.domain_base.specs.declared.names.Node.TheVariants.{Ap}
use Rattle.domain_base.specs.declared.names.Peer.TheVariants.{One, All}
use Rattle.domain_rules.proofs.Refused.{no_facts}
use Rattle.domain_rules.proofs.Exchange.{not-replaced, length-nonce, length-gtk, octets-gtk, take_step, some-injective, m3-keyed, m3-in, key_data-same, status-sent, same_octets, nothing_further, stands, IsPair, Stage, after_sta}
use Rattle.domain_rules.proofs.Journals.{AtOne, history-push, history-other, explained_still}
use Rattle.domain_rules.proofs.Parts.{same-refl, attempt_more, attempt_none, chain_part}
use Rattle.domain_rules.proofs.Effects.{request-begun}
use Rattle.domain_rules.proofs.CarriedKey.{IsGroupKey, says}
use Rattle.domain_rules.proofs.OneOutcome.{from_named}
use Rattle.domain_rules.proofs.SuiteWords.{plain_key_data, inputs_suite, m2_data_suite, mobility_suite, fields_suite, m2_further_suite, m3_further_suite, no_response}
use Rattle.domain_rules.proofs.KeyOctets.{octets-kek}
use Rattle.domain_rules.proofs.SentReads.{assoc_req_body, assoc_req_said, reads-assoc_req, assoc_resp_body, rates_said, reads-assoc_resp, m1_message, reads-m1, m2_message, m2_fields, clear-m2, reads-m2, fits-m2, few-m2, m3_message, m3_fields, reads-m3, fits-m3, few-m3, wraps-m3, rsne_said, rsne_spelled, mic-sealed, reads-counter}
use Rattle.domain_rules.proofs.Verdicts.{assoc_resp-in, m1-in, m2-in, secured-connect, verified-same, management-from, managed-from, keyed-from}
use Rattle.domain_rules.specs.Counters.{next_counter}
use Rattle.domain_rules.specs.Example.{HasRenewal}
use Rattle.run_journal.specs.Premises.{In}
use Rattle.domain_rules.specs.Explained.{push, WasSent, Explained}
use Rattle.domain_rules.specs.Frames.{sent_assoc_resp, sent_m1, sent_m2, sent_m3, sent_m4, sent_g1, keyed_by, assoc_resp_elements}
use Rattle.domain_rules.specs.GroupKeys.{find_key, memory, give_by, give_all, News, gtk_news, news}
use Rattle.domain_rules.specs.StationRows.{carried_keys}
use Rattle.domain_rules.specs.Network.{mac, gtk, r0kh_id, peer_of}
use Rattle.domain_rules.specs.TransitionKeyData.{responded_r0kh_id}
use Rattle.domain_rules.specs.Reading.{KeyMessage, Managed, Keyed, Reads}
use Rattle.domain_rules.specs.StationRows.{Asks}
use Rattle.domain_rules.specs.Rows.{Begin, Adds, TakeRow, By_assoc_req, By_assoc_resp, By_m1, By_m2, By_m3}
use Rattle.domain_rules.specs.Closing.{close_attempt}
use Rattle.domain_rules.specs.AccessPointKeys.{requested_rsne, m2_key_data, IsRequested, KnowsM2, request}
use Rattle.domain_rules.specs.StationKeys.{Keying, m3_keying, KnowsM3}
use Rattle.domain_rules.specs.Asking.{has_heard, kept_counter, offered, verified}
use Rattle.domain_rules.specs.Verdict.{is_mine, management_sender, management_further, key_further, further, first_verdict, verdict}
use Rattle.domain_rules.specs.Associating.{management_verdict}
use Rattle.domain_rules.specs.Facts.{Facts, ReadsKeyData}
use Rattle.domain_rules.specs.Here.{here}
use Rattle.eapol_key.specs.declared.messages.Message.TheVariants.{M1, M2, M3, G2}
use Rattle.key_hierarchy.specs.Keys.{ptk}
use Rattle.key_hierarchy.specs.declared.inputs.Inputs.{Inputs}
use Rattle.rsn_elements.specs.Elements.{ElementFields}
use Rattle.rsn_elements.specs.Pieces.{SentRsne, SentGtkKde, said}
use Rattle.rsn_elements.specs.declared.framing.Within.TheVariants.{KeyData}
use Rattle.rsn_elements.specs.Sent.{rsne_octets}
use Rattle.run_journal.specs.Acts.{Derivation, GroupKey}
use Rattle.run_journal.specs.Questions.{attempt, derivation, draws, history, add, chain}
use Rattle.run_journal.specs.declared.acts.Act.TheVariants.{Opened, Drew, Derived, Took, Installed, Finished}
use Rattle.run_journal.specs.declared.acts.Act.{Act}
use Rattle.run_journal.specs.declared.acts.Drawn.TheVariants as draw
use Rattle.run_journal.specs.declared.acts.Drawn.TheVariants.{Nonce}
use Rattle.run_journal.specs.declared.acts.Entry.{Entry}
use Rattle.run_journal.specs.declared.acts.Key.TheVariants.{Pairwise, Group}
use Rattle.run_journal.specs.declared.acts.Kind.TheVariants as kind
use Rattle.run_journal.specs.declared.acts.Outcome.TheVariants.{Accepted}
use Rattle.run_journal.specs.declared.acts.Seal.{Seal}
use Rattle.run_journal.specs.declared.acts.Start.TheVariants as start
use Rattle.run_journal.specs.declared.domain.Domain.{Domain}
use Rattle.run_journal.specs.declared.domain.Event.TheVariants.{Connect, Deliver}
use Rattle.run_journal.specs.declared.domain.Event.{Event}
use Rattle.run_journal.specs.declared.acts.GroupKind.TheVariants as groups
use Rattle.std.proofs.Common.{◌≡◌, ℕ, suc, ◌<◌, true, false, List, [], ◌∷◌, length, Option, Some, None, refl, sym, ap, subst, ◌∙◌, arith, inl, inr}
use Rattle.std.proofs.lemmas.Slice.Eq.{bytes_eq-Decides}
use Rattle.std.specs.Prelude.{not, ◌||◌, ◌++◌}
use Rattle.domain_rules.proofs.Unprotected.{news_off, give_off, reads_so}
use Rattle.domain_rules.proofs.RenewalActs as w
use Rattle.domain_rules.proofs.RenewalRounds.{stage12}

module _ (d : Domain) (k m : ℕ) (pair : IsPair d k m) (listed : m < length d.stas) (differ : gtk d (Ap k) 2 ≡ gtk d (Ap k) 0 → ⊥) where
  abbrev a : Node
  a = w.a d k m

  abbrev s : Node
  s = w.s d k m

  abbrev i2 : Inputs
  i2 = w.i2 d k m

  abbrev key2 : Derivation
  key2 = w.key2 d k m

  abbrev new : GroupKey
  new = w.new d k m

  abbrev snonce : List ℕ
  snonce = w.snonce d k m

  abbrev anonce : List ℕ
  anonce = w.anonce d k m

  abbrev octets11 : List ℕ
  octets11 = w.octets11 d k m

  abbrev octets12 : List ℕ
  octets12 = w.octets12 d k m

  abbrev octets13 : List ℕ
  octets13 = w.octets13 d k m

  abbrev octets14 : List ℕ
  octets14 = w.octets14 d k m

  abbrev octets15 : List ℕ
  octets15 = w.octets15 d k m

  abbrev octets16 : List ℕ
  octets16 = w.octets16 d k m

  abbrev seal14 : Seal
  seal14 = w.seal14 d k m

  abbrev seal15 : Seal
  seal15 = w.seal15 d k m

  abbrev acts13 : List Act
  acts13 = w.acts13 d k m

  abbrev acts14 : List Act
  acts14 = w.acts14 d k m

  abbrev acts15 : List Act
  acts15 = w.acts15 d k m

  abbrev acts16 : List Act
  acts16 = w.acts16 d k m

  abbrev acts17 : List Act
  acts17 = w.acts17 d k m

  abbrev acts18 : List Act
  acts18 = w.acts18 d k m

  abbrev asked : List Act
  asked = w.asked d k m

  abbrev joined : List Act
  joined = w.joined d k m

  abbrev derived : List Act
  derived = w.derived d k m

  abbrev answered : List Act
  answered = w.answered d k m

  abbrev sta11 : List Act
  sta11 = w.sta11 d k m

  abbrev sta13 : List Act
  sta13 = w.sta13 d k m

  abbrev sta15 : List Act
  sta15 = w.sta15 d k m

  abbrev sta16 : List Act
  sta16 = w.sta16 d k m

  abbrev sta18 : List Act
  sta18 = w.sta18 d k m

  abbrev ap12 : List Act
  ap12 = w.ap12 d k m

  abbrev ap14 : List Act
  ap14 = w.ap14 d k m

  abbrev ap17 : List Act
  ap17 = w.ap17 d k m

  abbrev rounds12 : List (List Event)
  rounds12 = w.rounds12 d k m

  abbrev rounds13 : List (List Event)
  rounds13 = w.rounds13 d k m

  abbrev rounds14 : List (List Event)
  rounds14 = w.rounds14 d k m

  abbrev rounds15 : List (List Event)
  rounds15 = w.rounds15 d k m

  abbrev rounds16 : List (List Event)
  rounds16 = w.rounds16 d k m

  abbrev rounds17 : List (List Event)
  rounds17 = w.rounds17 d k m

  abbrev rounds18 : List (List Event)
  rounds18 = w.rounds18 d k m

  st : Stage d k m rounds12 sta11 ap12 10 (w.octets10 d k m)
  st = stage12 d k m pair listed differ

  -- round 13: the station asks once more, and drops its session
  step13 : AtOne d 13 (Connect m k) st.journal (push 13 s acts13 st.journal)
  step13 = record {
    node = s;
    at_node = Begin k;
    happens = (refl, refl);
    acts = acts13;
    group = subst (λ (h : List Act). Adds (here d 0 s) h (Begin k) acts13) (sym st.sta_is) (record { acts = acts13; row = Asks (omega arith) refl; is = refl });
    is = refl;
  }

  stage13 : Stage d k m rounds13 sta13 ap12 11 octets11
  stage13 = after_sta d k m rounds12 sta11 ap12 10 (w.octets10 d k m) st (Connect m k) acts13 11 octets11 step13 (ap suc st.count)
      (record { entry = _; there = inl refl; earlier = omega arith; is = ap suc st.count; act = (_, (_, (_, refl))) })

  -- round 14: the access point answers, and keeps its session
  awaited14 : management_verdict d 0 a ap12 s kind.AssocReq (assoc_req_body d s a) (assoc_req_said d) ≡ Accepted
  awaited14 = rw (status-sent d pair.unprotected, mobility_suite d.akm d None pair.suite) refl

  accepted14 : verdict d 0 a ap12 (Managed (assoc_req_body d s a) (assoc_req_said d)) no_facts ≡ Accepted
  accepted14 = stands Accepted _ _
      (managed-from d 0 a ap12 (assoc_req_body d s a) (assoc_req_said d) s (same_octets d a) (management-from d a s (assoc_req_body d s a).header pair.finds_sta refl) ∙ awaited14)
      (nothing_further (management_sender d a (assoc_req_body d s a).header) (λ p. management_further d (draws ap12) a ap12 p (assoc_req_body d s a) (assoc_req_said d) no_facts kind.AssocReq) (λ p. refl)) refl

  attempt9 : attempt s (w.ap9 d k m) ≡ None
  attempt9 = rw (same-refl s) refl

  attempt12 : attempt s ap12 ≡ None
  attempt12 = attempt_none s (Installed All (Group groups.Gtk new.key new.id (mac d a))) (Took (Some s) (w.octets10 d k m) (kind.Key G2) Accepted (Some (w.seal10 d k m)) ∷ w.ap10 d k m) refl
      (attempt_none s (Took (Some s) (w.octets10 d k m) (kind.Key G2) Accepted (Some (w.seal10 d k m))) (w.ap10 d k m) refl
      (attempt_none s (sent_g1 d a s (keyed_by (w.i d k m)) 4 (gtk_news new 0)) (Drew (draw.Group groups.Gtk new.key) ∷ w.ap9 d k m) refl
      (attempt_none s (Drew (draw.Group groups.Gtk new.key)) (w.ap9 d k m) refl attempt9)))

  says14 : acts14 ≡ Took (Some s) octets11 kind.AssocReq Accepted None ∷ close_attempt s (attempt s ap12) ++ Opened s start.Connect ∷ Drew (Nonce anonce) ∷ sent_assoc_resp d a s ∷ sent_m1 d a s 1 anonce ∷ []
  says14 = ap (λ (o : Option (List Act)). Took (Some s) octets11 kind.AssocReq Accepted None ∷ close_attempt s o ++ Opened s start.Connect ∷ Drew (Nonce anonce) ∷ sent_assoc_resp d a s ∷ sent_m1 d a s 1 anonce ∷ []) (sym attempt12)

  row14 : TakeRow (here d 0 a) ap12 octets11 acts14
  row14 = record {
    r = Managed (assoc_req_body d s a) (assoc_req_said d);
    reads = reads_so d octets11 (Managed (assoc_req_body d s a) (assoc_req_said d)) refl (reads-assoc_req d s a pair.suite pair.unprotected pair.sta_whole pair.ap_whole);
    facts = no_facts;
    knows = λ came p from. tt;
    row = By_assoc_req (record { b = assoc_req_body d s a; e = assoc_req_said d; is = refl; kind_is = refl; p = s; from = pair.finds_sta; accepted = accepted14; says = says14 });
  }

  abbrev past13 : List Entry
  past13 = stage13.journal

  abbrev past14 : List Entry
  past14 = push 14 a acts14 past13

  step14 : AtOne d 14 (Deliver 11 a) past13 past14
  step14 = take_step d 14 11 a octets11 past13 ap12 acts14 stage13.ap_is stage13.was row14 refl

  ap14-is : history a past14 ≡ ap14
  ap14-is = history-push 14 a acts14 past13 ∙ ap (add acts14) stage13.ap_is

  sta14-is : history s past14 ≡ sta13
  sta14-is = history-other 14 a s acts14 past13 refl ∙ stage13.sta_is

  -- round 15: the station is associated
  abbrev past15 : List Entry
  past15 = push 15 s acts15 past14

  was12 : WasSent past14 15 12 octets12
  was12 = record { entry = _; there = inr (inl refl); earlier = omega arith; is = ap suc stage13.count; act = (_, (_, (_, refl))) }

  attempt13 : attempt a sta13 ≡ Some asked
  attempt13 = rw (same-refl a) refl

  accepted15 : verdict d 0 s sta13 (Managed (assoc_resp_body d a s 0 (assoc_resp_elements d a)) rates_said) no_facts ≡ Accepted
  accepted15 = stands Accepted _ _ (
      managed-from d 0 s sta13 (assoc_resp_body d a s 0 (assoc_resp_elements d a)) rates_said a (same_octets d s) (management-from d s a (assoc_resp_body d a s 0 (assoc_resp_elements d a)).header pair.finds_ap refl)
      ∙ assoc_resp-in d sta13 a (assoc_resp_body d a s 0 (assoc_resp_elements d a)) rates_said asked false attempt13 refl refl
      ∙ fields_suite d.akm d a rates_said pair.suite
      )
      (nothing_further (management_sender d s (assoc_resp_body d a s 0 (assoc_resp_elements d a)).header) (λ p. management_further d (draws sta13) s sta13 p (assoc_resp_body d a s 0 (assoc_resp_elements d a)) rates_said no_facts kind.AssocResp) (λ p. refl)) refl

  row15 : TakeRow (here d 0 s) sta13 octets12 acts15
  row15 = record {
    r = Managed (assoc_resp_body d a s 0 (assoc_resp_elements d a)) rates_said;
    reads = reads_so d octets12 (Managed (assoc_resp_body d a s 0 (assoc_resp_elements d a)) rates_said) refl (reads-assoc_resp d a s pair.suite pair.ap_whole pair.sta_whole (omega (arith, pair.sta_low)));
    facts = no_facts;
    knows = λ came p from. tt;
    row = By_assoc_resp (record { b = assoc_resp_body d a s 0 (assoc_resp_elements d a); e = rates_said; is = refl; kind_is = refl; p = a; from = pair.finds_ap; accepted = accepted15; says = refl });
  }

  step15 : AtOne d 15 (Deliver 12 s) past14 past15
  step15 = take_step d 15 12 s octets12 past14 sta13 acts15 sta14-is was12 row15 refl

  sta15-is : history s past15 ≡ sta15
  sta15-is = history-push 15 s acts15 past14 ∙ ap (add acts15) sta14-is

  ap15-is : history a past15 ≡ ap14
  ap15-is = history-other 15 s a acts15 past14 refl ∙ ap14-is

  -- round 16: the station derives the key by M1 and answers with M2
  abbrev m1 : KeyMessage
  m1 = m1_message d a s 1 anonce

  abbrev past16 : List Entry
  past16 = push 16 s acts16 past15

  was13 : WasSent past15 16 13 octets13
  was13 = record { entry = _; there = inr (inl refl); earlier = omega arith; is = ap (λ (n : ℕ). suc (suc n)) stage13.count; act = (_, (_, (_, refl))) }

  attempt15 : attempt a sta15 ≡ Some joined
  attempt15 = attempt_more a (Took (Some a) octets12 kind.AssocResp Accepted None) sta13 asked refl refl attempt13

  heard16 : has_heard a kind.AssocResp joined ≡ true
  heard16 = rw (same-refl a) refl

  counter16 : kept_counter a joined ≡ None
  counter16 = rw (same-refl a) refl

  mine16 : (not (is_mine d s m1.header) || false) ≡ false
  mine16 = rw (same_octets d s) refl

  accepted16 : verdict d 0 s sta15 (Keyed m1) no_facts ≡ Accepted
  accepted16 = stands Accepted _ _ (keyed-from d 0 s sta15 m1 a mine16 pair.finds_ap ∙ m1-in d (draws sta15) sta15 a m1 joined true None attempt15 refl heard16 (ap (kept_counter a) (chain_part a sta15 joined attempt15 refl) ∙ counter16))
      (nothing_further (peer_of d s m1.header.a2) (λ p. key_further d s sta15 p m1 M1 no_facts) (λ p. refl)) refl

  reads16 : Reads d.akm octets13 (Keyed m1)
  reads16 = reads-m1 d a s 1 anonce pair.ap_whole pair.sta_whole (omega arith) (length-nonce d a 3)

  row16 : TakeRow (here d 0 s) sta15 octets13 acts16
  row16 = record {
    r = Keyed m1;
    reads = reads_so d octets13 (Keyed m1) refl reads16;
    facts = no_facts;
    knows = λ came p from. (tt, no_response d.akm sta15 p M1 no_facts pair.suite);
    row = By_m1 (record { k = m1; is = refl; message_is = refl; p = a; from = pair.finds_ap; accepted = accepted16; part = joined; awaited = attempt15; i = i2; inputs_are = inputs_suite d (responded_r0kh_id None) s a snonce anonce pair.suite; says = refl });
  }

  step16 : AtOne d 16 (Deliver 13 s) past15 past16
  step16 = take_step d 16 13 s octets13 past15 sta15 acts16 sta15-is was13 row16 refl

  ap16-is : history a past16 ≡ ap14
  ap16-is = history-other 16 s a acts16 past15 refl ∙ ap15-is

  -- round 17: the access point derives it by M2, and gives its newest group key with M3
  abbrev m2 : KeyMessage
  m2 = m2_message d s a (keyed_by i2) 1 []

  abbrev past17 : List Entry
  past17 = push 17 a acts17 past16

  was14 : WasSent past16 17 14 octets14
  was14 = record { entry = _; there = inl refl; earlier = omega arith; is = ap (λ (n : ℕ). suc (suc (suc n))) stage13.count; act = (_, (_, (_, refl))) }

  attempt14 : attempt s ap14 ≡ Some answered
  attempt14 = rw (same-refl s) refl

  offers17 : offered s M1 answered ≡ 1 ∷ []
  offers17 = rw (same-refl s) (ap (λ (c : ℕ). c ∷ []) (reads-counter d.akm octets13 m1 reads16))

  verifies17 : verified d.akm (ptk i2).kck m2 Accepted ≡ Accepted
  verifies17 = verified-same d.akm (ptk i2).kck m2 Accepted (mic-sealed d.akm (ptk i2).kck (m2_fields d (keyed_by i2) 1 []) pair.has_mic (fits-m2 d (keyed_by i2) 1 [] (omega arith) (length-nonce d s 1) (few-m2 d (keyed_by i2) [] pair.suite pair.unprotected)))

  mine17 : (not (is_mine d a m2.header) || false) ≡ false
  mine17 = rw (same_octets d a) refl

  first17 : first_verdict d 0 a ap14 (Keyed m2) ≡ Accepted
  first17 = keyed-from d 0 a ap14 m2 s mine17 pair.finds_sta ∙ m2-in d a ap14 s m2 answered false (1 ∷ []) anonce attempt14 refl refl (secured-connect d answered m2 refl (clear-m2 d s a (keyed_by i2) 1 [])) offers17 refl
      ∙ ap (λ (v : Inputs). verified d.akm (ptk v).kck m2 Accepted) (sym (inputs_suite d (r0kh_id d a) a s anonce snonce pair.suite)) ∙ verifies17

  abbrev facts17 : Facts
  facts17 = record { requested = Some (assoc_req_said d); responded = None; unwrapped = None; data_ = Some (rsne_said d.akm); pulled = None; opened = None; unwrapped_igtk = None; kept = 0 }

  same_rsne : m2_key_data (requested_rsne facts17.requested) facts17.data_ ≡ Accepted
  same_rsne = rw ((bytes_eq-Decides (rsne_octets d.akm None) (rsne_octets d.akm None)).1 refl) refl

  further17 : further d 0 a ap14 (Keyed m2) facts17 ≡ Accepted
  further17 = from_named (peer_of d a m2.header.a2) s (λ p. key_further d a ap14 p m2 M2 facts17) pair.finds_sta ∙ m2_further_suite d.akm d a s facts17 pair.suite ∙ same_rsne

  accepted17 : verdict d 0 a ap14 (Keyed m2) facts17 ≡ Accepted
  accepted17 = stands Accepted _ _ first17 further17 refl

  request17 : request s ap14 ≡ Some octets11
  request17 = request-begun d a s anonce (Took (Some s) octets11 kind.AssocReq Accepted None ∷ ap12) ∙ rw (same-refl s) refl

  knows17 : KnowsM2 d.akm ap14 s m2 facts17
  knows17 = record {
    requested = subst (λ (o : Option (List ℕ)). IsRequested d.akm o facts17.requested) (sym request17) (assoc_req_body d s a, reads-assoc_req d s a pair.suite pair.unprotected pair.sta_whole pair.ap_whole);
    data_ = subst (λ (x : List ℕ). ReadsKeyData x facts17.data_) (sym (m2_data_suite d.akm d (keyed_by i2) [] pair.suite pair.unprotected)) (rsne_spelled d.akm);
  }

  counter17 : next_counter s ap14 answered ≡ 2
  counter17 = rw (same-refl s) refl

  says17 : acts17 ≡ Took (Some s) octets14 (kind.Key M2) Accepted (Some seal14) ∷ Derived s i2 (ptk i2) ∷ sent_m3 d a s (keyed_by i2) (next_counter s ap14 answered) (news d ap14) ∷ []
  says17 = ap (λ (c : ℕ). Took (Some s) octets14 (kind.Key M2) Accepted (Some seal14) ∷ Derived s i2 (ptk i2) ∷ sent_m3 d a s (keyed_by i2) c (gtk_news new 0) ∷ []) (sym counter17)
      ∙ ap (λ (x : News). Took (Some s) octets14 (kind.Key M2) Accepted (Some seal14) ∷ Derived s i2 (ptk i2) ∷ sent_m3 d a s (keyed_by i2) (next_counter s ap14 answered) x ∷ []) (sym (news_off d ap14 pair.unprotected))

  row17 : TakeRow (here d 0 a) ap14 octets14 acts17
  row17 = record {
    r = Keyed m2;
    reads = reads_so d octets14 (Keyed m2) refl (reads-m2 d s a (keyed_by i2) 1 [] pair.has_mic pair.sta_whole pair.ap_whole (omega arith) (length-nonce d s 1) (few-m2 d (keyed_by i2) [] pair.suite pair.unprotected));
    facts = facts17;
    knows = λ came p from. (let same : s ≡ p = cc (from, pair.finds_sta) in (subst (λ (x : Node). KnowsM2 d.akm ap14 x m2 facts17) same knows17, no_response d.akm ap14 p M2 facts17 pair.suite));
    row = By_m2 (record { k = m2; is = refl; message_is = refl; p = s; from = pair.finds_sta; accepted = accepted17; part = answered; awaited = attempt14; i = i2; inputs_are = inputs_suite d (r0kh_id d a) a s anonce snonce pair.suite; says = says17 });
  }

  step17 : AtOne d 17 (Deliver 14 a) past16 past17
  step17 = take_step d 17 14 a octets14 past16 ap14 acts17 ap16-is was14 row17 refl

  explained14 : Explained d rounds14 past14
  explained14 = explained_still d rounds13 (Deliver 11 a) past13 past14 stage13.explained refl step14

  explained15 : Explained d rounds15 past15
  explained15 = explained_still d rounds14 (Deliver 12 s) past14 past15 explained14 refl step15

  explained16 : Explained d rounds16 past16
  explained16 = explained_still d rounds15 (Deliver 13 s) past15 past16 explained15 refl step16

  stage17 : Stage d k m rounds17 sta16 ap17 15 octets15
  stage17 = record {
    journal = past17;
    still = refl;
    explained = explained_still d rounds16 (Deliver 14 a) past16 past17 explained16 refl step17;
    sta_is = history-other 17 a s acts17 past16 refl ∙ history-push 16 s acts16 past15 ∙ ap (add acts16) sta15-is;
    ap_is = history-push 17 a acts17 past16 ∙ ap (add acts17) ap16-is;
    count = ap (λ (n : ℕ). suc (suc (suc (suc n)))) stage13.count;
    was = record { entry = _; there = inl refl; earlier = omega arith; is = ap (λ (n : ℕ). suc (suc (suc (suc n)))) stage13.count; act = (_, (_, (_, refl))) };
  }

  -- round 18: the station installs the pairwise key by M3, and resumes the group key
  abbrev m3 : KeyMessage
  m3 = m3_message d a s (keyed_by i2) 2 new 0

  abbrev keying : Keying
  keying = record { key = key2; is_session = false }

  is_key : IsGroupKey new
  is_key = record { octets = octets-gtk d a 2; size = length-gtk d a 2; low = omega arith }

  attempt18 : attempt a sta16 ≡ Some derived
  attempt18 = attempt_more a (sent_m2 d s a (keyed_by i2) 1 []) (Derived a i2 (ptk i2) ∷ Took (Some a) octets13 (kind.Key M1) Accepted None ∷ sta15) (Derived a i2 (ptk i2) ∷ Took (Some a) octets13 (kind.Key M1) Accepted None ∷ joined) refl refl
      (attempt_more a (Derived a i2 (ptk i2)) (Took (Some a) octets13 (kind.Key M1) Accepted None ∷ sta15) (Took (Some a) octets13 (kind.Key M1) Accepted None ∷ joined) refl refl
      (attempt_more a (Took (Some a) octets13 (kind.Key M1) Accepted None) sta15 joined refl refl attempt15))

  heard18 : has_heard a (kind.Key M1) derived ≡ true
  heard18 = rw (same-refl a) refl

  derives18 : derivation a derived ≡ Some key2
  derives18 = rw (same-refl a) refl

  keying18 : m3_keying a sta16 m3 ≡ Some keying
  keying18 = m3-keyed a sta16 derived m3 key2 attempt18 refl refl heard18 derives18

  counter18 : kept_counter a (chain a sta16) ≡ None
  counter18 = ap (kept_counter a) (chain_part a sta16 derived attempt18 refl) ∙ rw (same-refl a) refl

  reads18 : Reads d.akm octets15 (Keyed m3)
  reads18 = reads-m3 d a s (keyed_by i2) 2 new 0 pair.has_mic pair.ap_whole pair.sta_whole (omega arith) (length-nonce d a 3) (few-m3 d a (keyed_by i2) (gtk_news new 0) pair.suite pair.unprotected refl (octets-kek i2) is_key)

  verifies18 : verified d.akm (ptk i2).kck m3 Accepted ≡ Accepted
  verifies18 = verified-same d.akm (ptk i2).kck m3 Accepted (mic-sealed d.akm (ptk i2).kck (m3_fields d a (keyed_by i2) 2 new 0) pair.has_mic (fits-m3 d a (keyed_by i2) 2 new 0 (omega arith) (length-nonce d a 3) (few-m3 d a (keyed_by i2) (gtk_news new 0) pair.suite pair.unprotected refl (octets-kek i2) is_key)))

  mine18 : (not (is_mine d s m3.header) || false) ≡ false
  mine18 = rw (same_octets d s) refl

  first18 : first_verdict d 0 s sta16 (Keyed m3) ≡ Accepted
  first18 = keyed-from d 0 s sta16 m3 a mine18 pair.finds_ap ∙ m3-in d sta16 a m3 keying keying18 counter18 refl ∙ verifies18

  abbrev said_by_m3 : ElementFields
  said_by_m3 = said KeyData (SentRsne d.akm None ∷ SentGtkKde new.id new.key ∷ [])

  abbrev facts18 : Facts
  facts18 = record { requested = None; responded = None; unwrapped = Some (plain_key_data d new); data_ = Some said_by_m3; pulled = None; opened = None; unwrapped_igtk = None; kept = 0 }

  further18 : further d 0 s sta16 (Keyed m3) facts18 ≡ Accepted
  further18 = from_named (peer_of d s m3.header.a2) a (λ p. key_further d s sta16 p m3 M3 facts18) pair.finds_ap ∙ m3_further_suite d.akm d (m3_keying a sta16 m3) facts18 pair.suite ∙ key_data-same d.akm d new.key 2 pair.unprotected (length-gtk d a 2) refl

  accepted18 : verdict d 0 s sta16 (Keyed m3) facts18 ≡ Accepted
  accepted18 = stands Accepted _ _ first18 further18 refl

  knows18 : KnowsM3 (ptk i2).kek m3 facts18
  knows18 = record {
    unwrapped = (octets-kek i2, wraps-m3 d a (keyed_by i2) (gtk_news new 0) pair.suite pair.unprotected refl is_key);
    data_ = λ plain e. (let same : plain_key_data d new ≡ plain = cc e in subst (λ (x : List ℕ). ReadsKeyData x facts18.data_) same (says d new is_key));
  }

  -- the station has it
  kept18 : find_key new.key (memory groups.Gtk a sta16) ≡ Some new
  kept18 = rw (same-refl a, (bytes_eq-Decides new.key new.key).1 refl) refl

  says18 : acts18 ≡ Took (Some a) octets15 (kind.Key M3) Accepted (Some seal15) ∷ Installed (One a) (Pairwise (ptk i2).tk i2) ∷ (give_all d a (mac d a) (carried_keys facts18.data_) sta16 ++ Finished a i2 ∷ sent_m4 d s a (keyed_by i2) 2 ∷ [])
  says18 = ap (λ (o : Option GroupKey). Took (Some a) octets15 (kind.Key M3) Accepted (Some seal15) ∷ Installed (One a) (Pairwise (ptk i2).tk i2) ∷ give_by groups.Gtk a (mac d a) new o ∷ Finished a i2 ∷ sent_m4 d s a (keyed_by i2) 2 ∷ []) (sym kept18)
      ∙ ap (λ (given : List Act). Took (Some a) octets15 (kind.Key M3) Accepted (Some seal15) ∷ Installed (One a) (Pairwise (ptk i2).tk i2) ∷ (given ++ Finished a i2 ∷ sent_m4 d s a (keyed_by i2) 2 ∷ [])) (sym (give_off d a (mac d a) (carried_keys facts18.data_) sta16 pair.unprotected))

  row18 : TakeRow (here d 0 s) sta16 octets15 acts18
  row18 = record {
    r = Keyed m3;
    reads = reads_so d octets15 (Keyed m3) refl reads18;
    facts = facts18;
    knows = λ came p from. (
      λ y awaited.
          (let same : a ≡ p = cc (from, pair.finds_ap) in
          let one : keying ≡ y = some-injective keying y (sym keying18 ∙ subst (λ (x : Node). m3_keying x sta16 m3 ≡ Some y) (sym same) awaited) in
          subst (λ (x : Keying). KnowsM3 x.key.ptk.kek m3 facts18) one knows18),
      no_response d.akm sta16 p M3 facts18 pair.suite,
    );
    row = By_m3 (record { k = m3; is = refl; message_is = refl; p = a; from = pair.finds_ap; accepted = accepted18; y = keying; awaited = keying18; says = says18 ∙ not-replaced a sta16 derived _ _ attempt18 refl });
  }

  step18 : AtOne d 18 (Deliver 15 s) stage17.journal (push 18 s acts18 stage17.journal)
  step18 = take_step d 18 15 s octets15 stage17.journal sta16 acts18 stage17.sta_is stage17.was row18 refl

  pub stage18 : Stage d k m rounds18 sta18 ap17 16 octets16
  stage18 = after_sta d k m rounds17 sta16 ap17 15 octets15 stage17 (Deliver 15 s) acts18 16 octets16 step18 (ap suc stage17.count)
      (record { entry = _; there = inl refl; earlier = omega arith; is = ap suc stage17.count; act = (_, (_, (_, refl))) })

  at_sta : (e : Act) → In e sta18 → In e (history s stage18.journal)
  at_sta e there = subst (λ (h : List Act). In e h) (sym stage18.sta_is) there

  at_ap : (e : Act) → In e ap17 → In e (history a stage18.journal)
  at_ap e there = subst (λ (h : List Act). In e h) (sym stage18.ap_is) there

  pub renewed : HasRenewal d k m
  renewed = record {
    journal = stage18.journal;
    explained = stage18.explained;
    new = new;
    is_new = refl;
    drawn = at_ap _ (inr (inr (inr (inr (inr (inr (inr (inr (inr (inr (inr (inl refl))))))))))));
    given = at_sta _ (inr (inr (inr (inr (inr (inr (inr (inr (inr (inr (inr (inr (inr (inr (inl refl)))))))))))))));
    octets = w.octets10 d k m;
    seal = w.seal10 d k m;
    answered = at_ap _ (inr (inr (inr (inr (inr (inr (inr (inr (inr (inl refl))))))))));
    current = at_ap _ (inr (inr (inr (inr (inr (inr (inr (inr (inl refl)))))))));
    i = i2;
    of_second = refl;
    station = at_sta _ (inr (inr (inr (inl refl))));
    resumed = at_sta _ (inr (inr (inl refl)));
  }
