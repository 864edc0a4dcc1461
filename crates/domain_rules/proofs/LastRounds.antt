-- The last rounds of an example handshake: a second attempt begins at both nodes.
use Rattle.domain_base.specs.declared.names.Node.{Node}
use Rattle.domain_base.specs.declared.names.Peer.TheVariants.{One}
use Rattle.domain_rules.proofs.Refused.{no_facts}
use Rattle.domain_rules.proofs.Exchange.{take_step, status-sent, same_octets, nothing_further, stands, IsPair, Stage, after_sta, after_ap}
use Rattle.domain_rules.proofs.Parts.{same-refl, attempt_ends}
use Rattle.domain_rules.proofs.SentReads.{assoc_req_body, assoc_req_said, reads-assoc_req}
use Rattle.domain_rules.proofs.Verdicts.{management-from, managed-from}
use Rattle.domain_rules.specs.Example.{HasHandshake}
use Rattle.domain_rules.specs.Explained.{push}
use Rattle.domain_rules.specs.Frames.{sent_assoc_req, sent_assoc_resp, sent_m1}
use Rattle.domain_rules.specs.Reading.{Managed}
use Rattle.domain_rules.specs.StationRows.{Asks}
use Rattle.domain_rules.specs.Rows.{Begin, Adds, TakeRow, By_assoc_req}
use Rattle.domain_rules.specs.Closing.{close_attempt}
use Rattle.domain_rules.specs.Associating.{management_verdict}
use Rattle.domain_rules.specs.Verdict.{management_sender, management_further, verdict}
use Rattle.domain_rules.proofs.SuiteWords.{mobility_suite}
use Rattle.domain_rules.specs.Here.{here}
use Rattle.eapol_key.specs.declared.messages.Message.TheVariants.{M4}
use Rattle.key_hierarchy.specs.Keys.{ptk}
use Rattle.key_hierarchy.specs.declared.inputs.Inputs.{Inputs}
use Rattle.run_journal.specs.Acts.{Derivation, GroupKey}
use Rattle.run_journal.specs.Premises.{In}
use Rattle.run_journal.specs.Questions.{attempt, draws, history, add, session}
use Rattle.run_journal.specs.declared.acts.Act.TheVariants.{Opened, Drew, Took, Installed, Finished}
use Rattle.run_journal.specs.declared.acts.Act.{Act}
use Rattle.run_journal.specs.declared.acts.Drawn.TheVariants.{Nonce}
use Rattle.run_journal.specs.declared.acts.Key.TheVariants.{Pairwise}
use Rattle.run_journal.specs.declared.acts.Kind.TheVariants as kind
use Rattle.run_journal.specs.declared.acts.Outcome.TheVariants.{Accepted}
use Rattle.run_journal.specs.declared.acts.Seal.{Seal}
use Rattle.run_journal.specs.declared.acts.Start.TheVariants as start
use Rattle.run_journal.specs.declared.domain.Domain.{Domain}
use Rattle.run_journal.specs.declared.domain.Event.TheVariants.{Connect, Deliver}
use Rattle.run_journal.specs.declared.domain.Event.{Event}
use Rattle.std.proofs.Common.{◌≡◌, ℕ, suc, List, [], ◌∷◌, Option, Some, None, refl, sym, ap, subst, ◌∙◌, arith, inl, inr}
use Rattle.std.specs.Prelude.{◌++◌}
use Rattle.domain_rules.proofs.Journals.{AtOne}
use Rattle.domain_rules.proofs.Unprotected.{reads_so}
use Rattle.domain_rules.proofs.HandshakeActs as w
use Rattle.domain_rules.proofs.KeyRounds.{stage9}

module _ (d : Domain) (k m : ℕ) (pair : IsPair d k m) where
  abbrev a : Node
  a = w.a d k m

  abbrev s : Node
  s = w.s d k m

  abbrev snonce2 : List ℕ
  snonce2 = w.snonce2 d k m

  abbrev anonce2 : List ℕ
  anonce2 = w.anonce2 d k m

  abbrev i : Inputs
  i = w.i d k m

  abbrev g : GroupKey
  g = w.g d k m

  abbrev key : Derivation
  key = w.key d k m

  abbrev octets1 : List ℕ
  octets1 = w.octets1 d k m

  abbrev octets7 : List ℕ
  octets7 = w.octets7 d k m

  abbrev octets8 : List ℕ
  octets8 = w.octets8 d k m

  abbrev octets11 : List ℕ
  octets11 = w.octets11 d k m

  abbrev seal7 : Seal
  seal7 = w.seal7 d k m

  abbrev seal8 : Seal
  seal8 = w.seal8 d k m

  abbrev acts10 : List Act
  acts10 = w.acts10 d k m

  abbrev acts11 : List Act
  acts11 = w.acts11 d k m

  abbrev sta8 : List Act
  sta8 = w.sta8 d k m

  abbrev sta10 : List Act
  sta10 = w.sta10 d k m

  abbrev ap7 : List Act
  ap7 = w.ap7 d k m

  abbrev ap9 : List Act
  ap9 = w.ap9 d k m

  abbrev ap11 : List Act
  ap11 = w.ap11 d k m

  abbrev rounds9 : List (List Event)
  rounds9 = w.rounds9 d k m

  abbrev rounds10 : List (List Event)
  rounds10 = w.rounds10 d k m

  abbrev rounds11 : List (List Event)
  rounds11 = w.rounds11 d k m

  abbrev st : Stage d k m rounds9 sta8 ap9 8 octets8
  st = stage9 d k m pair

  -- round 10: the station asks once more, and drops its session
  step10 : AtOne d 10 (Connect m k) st.journal (push 10 s acts10 st.journal)
  step10 = record {
    node = s;
    at_node = Begin k;
    happens = (refl, refl);
    acts = acts10;
    group = subst (λ (h : List Act). Adds (here d 0 s) h (Begin k) acts10) (sym st.sta_is) (record { acts = acts10; row = Asks (omega arith) refl; is = refl });
    is = refl;
  }

  stage10 : Stage d k m rounds10 sta10 ap9 9 octets1
  stage10 = after_sta d k m rounds9 sta8 ap9 8 octets8 st (Connect m k) acts10 9 octets1 step10 (ap suc st.count)
      (record { entry = _; there = inl refl; earlier = omega arith; is = ap suc st.count; act = (_, (_, (_, refl))) })

  -- round 11: the access point begins a second attempt, and keeps its session
  awaited11 : management_verdict d 0 a ap9 s kind.AssocReq (assoc_req_body d s a) (assoc_req_said d) ≡ Accepted
  awaited11 = rw (status-sent d pair.unprotected, mobility_suite d.akm d None pair.suite) refl

  accepted11 : verdict d 0 a ap9 (Managed (assoc_req_body d s a) (assoc_req_said d)) no_facts ≡ Accepted
  accepted11 = stands Accepted _ _
      (managed-from d 0 a ap9 (assoc_req_body d s a) (assoc_req_said d) s (same_octets d a) (management-from d a s (assoc_req_body d s a).header pair.finds_sta refl) ∙ awaited11)
      (nothing_further (management_sender d a (assoc_req_body d s a).header) (λ p. management_further d (draws ap9) a ap9 p (assoc_req_body d s a) (assoc_req_said d) no_facts kind.AssocReq) (λ p. refl)) refl

  attempt11 : attempt s ap9 ≡ None
  attempt11 = attempt_ends s (Finished s i) (add (Took (Some s) octets8 (kind.Key M4) Accepted (Some seal8) ∷ Installed (One s) (Pairwise (ptk i).tk i) ∷ []) ap7) refl (same-refl s)

  says11 : acts11 ≡ Took (Some s) octets1 kind.AssocReq Accepted None ∷ close_attempt s (attempt s ap9) ++ Opened s start.Connect ∷ Drew (Nonce anonce2) ∷ sent_assoc_resp d a s ∷ sent_m1 d a s 1 anonce2 ∷ []
  says11 = ap (λ (o : Option (List Act)). Took (Some s) octets1 kind.AssocReq Accepted None ∷ close_attempt s o ++ Opened s start.Connect ∷ Drew (Nonce anonce2) ∷ sent_assoc_resp d a s ∷ sent_m1 d a s 1 anonce2 ∷ []) (sym attempt11)

  row11 : TakeRow (here d 0 a) ap9 octets1 acts11
  row11 = record {
    r = Managed (assoc_req_body d s a) (assoc_req_said d);
    reads = reads_so d octets1 (Managed (assoc_req_body d s a) (assoc_req_said d)) refl (reads-assoc_req d s a pair.suite pair.unprotected pair.sta_whole pair.ap_whole);
    facts = no_facts;
    knows = λ came p from. tt;
    row = By_assoc_req (record { b = assoc_req_body d s a; e = assoc_req_said d; is = refl; kind_is = refl; p = s; from = pair.finds_sta; accepted = accepted11; says = says11 });
  }

  step11 : AtOne d 11 (Deliver 9 a) stage10.journal (push 11 a acts11 stage10.journal)
  step11 = take_step d 11 9 a octets1 stage10.journal ap9 acts11 stage10.ap_is stage10.was row11 refl

  stage11 : Stage d k m rounds11 sta10 ap11 11 octets11
  stage11 = after_ap d k m rounds10 sta10 ap9 9 octets1 stage10 (Deliver 9 a) acts11 11 octets11 step11 (ap (λ (n : ℕ). suc (suc n)) stage10.count)
      (record { entry = _; there = inl refl; earlier = omega arith; is = ap (λ (n : ℕ). suc (suc n)) stage10.count; act = (_, (_, (_, refl))) })

  at_sta : (e : Act) → In e sta10 → In e (history s stage11.journal)
  at_sta e there = subst (λ (h : List Act). In e h) (sym stage11.sta_is) there

  at_ap : (e : Act) → In e ap11 → In e (history a stage11.journal)
  at_ap e there = subst (λ (h : List Act). In e h) (sym stage11.ap_is) there

  sta_again : attempt a sta10 ≡ Some (sent_assoc_req d s a ∷ Drew (Nonce snonce2) ∷ Opened a start.Connect ∷ [])
  sta_again = rw (same-refl a) refl

  ap_again : attempt s ap11 ≡ Some (sent_m1 d a s 1 anonce2 ∷ sent_assoc_resp d a s ∷ Drew (Nonce anonce2) ∷ Opened s start.Connect ∷ [])
  ap_again = rw (same-refl s) refl

  sta_drops : session a sta10 ≡ None
  sta_drops = rw (same-refl a) refl

  ap_keeps : session s ap11 ≡ Some key
  ap_keeps = rw (same-refl s) refl

  pub whole : HasHandshake d k m
  whole = record {
    journal = stage11.journal;
    explained = stage11.explained;
    i = i;
    of_first = refl;
    station = at_sta _ (inr (inr (inr (inr (inr (inr (inr (inr (inr (inl refl))))))))));
    access_point = at_ap _ (inr (inr (inr (inr (inr (inr (inl refl)))))));
    station_ends = at_sta _ (inr (inr (inr (inr (inr (inr (inr (inl refl))))))));
    access_point_ends = at_ap _ (inr (inr (inr (inr (inr (inl refl))))));
    group = g;
    current = at_ap _ (inr (inr (inr (inr (inr (inr (inr (inr (inr (inr (inr (inr (inr (inr (inr (inr (inr (inl refl))))))))))))))))));
    given = at_sta _ (inr (inr (inr (inr (inr (inr (inr (inr (inl refl)))))))));
    octets = octets7;
    seal = seal7;
    repeated = at_sta _ (inr (inr (inr (inr (inr (inl refl))))));
    station_part = sent_assoc_req d s a ∷ Drew (Nonce snonce2) ∷ Opened a start.Connect ∷ [];
    station_again = ap (attempt a) stage11.sta_is ∙ sta_again;
    station_nonce = refl;
    station_drew = at_sta _ (inr (inl refl));
    station_drops = ap (session a) stage11.sta_is ∙ sta_drops;
    access_point_part = sent_m1 d a s 1 anonce2 ∷ sent_assoc_resp d a s ∷ Drew (Nonce anonce2) ∷ Opened s start.Connect ∷ [];
    access_point_again = ap (attempt s) stage11.ap_is ∙ ap_again;
    access_point_nonce = refl;
    access_point_drew = at_ap _ (inr (inr (inl refl)));
    access_point_keeps = ap (session s) stage11.ap_is ∙ ap_keeps;
  }
