-- The rounds of an example with suite 4 that protects management frames, from the start to M4: a station is associated, with both group keys.
use Rattle.std.proofs.Common.{◌≡◌, ℕ, ◌≤◌, true, false, List, [], ◌∷◌, length, Option, Some, None, refl, sym, ap, subst, ◌∙◌, arith}
use Rattle.std.proofs.lemmas.List.{length-append}
use Rattle.std.specs.Prelude.{not, ◌||◌, ◌++◌}
use Rattle.domain_base.specs.declared.names.Akm.TheVariants.{FtPsk}
use Rattle.domain_base.specs.declared.names.Node.{Node}
use Rattle.domain_rules.proofs.Exchange.{not-replaced, length-nonce, length-gtk, octets-gtk, some-injective, m3-keyed, m4-keyed, m3-in, m4-in, same_octets}
use Rattle.domain_rules.proofs.KeyOctets.{octets-kek}
use Rattle.domain_rules.proofs.Parts.{same-refl, attempt_more, since_part, chain_part}
use Rattle.domain_rules.proofs.Effects.{request-begun}
use Rattle.domain_rules.proofs.Refused.{no_facts}
use Rattle.domain_rules.proofs.SentReads.{HasMic, assoc_req_body, assoc_resp_body, m1_message, reads-m1, m2_message, m2_fields, clear-m2, reads-m2, fits-m2, m4_message, m4_fields, reads-m4, fits-m4, mic-sealed, reads-counter}
use Rattle.domain_rules.proofs.Verdicts.{assoc_resp-in, m1-in, m2-in, secured-connect, verified-same}
use Rattle.domain_rules.specs.AccessPointKeys.{KnowsM2, m4_keying, request, IsRequested}
use Rattle.domain_rules.specs.AccessPointRows.{m4_acts, newer_acts, carried_older}
use Rattle.domain_rules.specs.Asking.{has_heard, kept_counter, offered, verified}
use Rattle.domain_rules.specs.Associating.{management_verdict, response_fields}
use Rattle.domain_rules.specs.Counters.{next_counter}
use Rattle.domain_rules.specs.Facts.{Facts, ReadsKeyData}
use Rattle.domain_rules.specs.FastTransition.{r1_name, no_nonce, assoc_fte}
use Rattle.domain_rules.specs.Frames.{assoc_resp_elements, sent_m2_key_data, sent_m3, keyed_by, m3_key_data, wrapped}
use Rattle.domain_rules.specs.GroupKeys.{IgtkNews, News, news}
use Rattle.domain_rules.specs.Here.{here}
use Rattle.domain_rules.specs.KeyHolders.{put_acts}
use Rattle.domain_rules.specs.Network.{address, r0kh_id}
use Rattle.domain_rules.specs.Reading.{KeyMessage, Managed, Keyed, Reads}
use Rattle.domain_rules.specs.Rows.{Begin, Take, TakeRow, By_assoc_req, By_assoc_resp, By_m1, By_m2, By_m3, By_m4}
use Rattle.domain_rules.specs.StationKeys.{KnowsM3, Keying, m3_keying}
use Rattle.domain_rules.specs.StationRows.{Asks}
use Rattle.domain_rules.specs.TransitionKeyData.{response}
use Rattle.domain_rules.specs.Verdict.{is_mine, key_further, m3_further, verdict}
use Rattle.eapol_key.specs.declared.messages.Message.TheVariants.{M1, M2, M3}
use Rattle.key_hierarchy.specs.Keys.{ptk}
use Rattle.key_hierarchy.specs.declared.inputs.Inputs.{Inputs}
use Rattle.mac_prf.proofs.Parts.{length-mic}
use Rattle.rsn_elements.specs.Pieces.{suite}
use Rattle.rsn_elements.specs.Sent.{mde_octets}
use Rattle.rsn_elements.specs.declared.framing.Within.TheVariants.{KeyData}
use Rattle.run_journal.specs.Acts.{Derivation, GroupKey}
use Rattle.run_journal.specs.Questions.{attempt, derivation, before_sent, chain, heard, draws, add}
use Rattle.run_journal.specs.declared.acts.Start.TheVariants.{Connect}
use Rattle.run_journal.specs.declared.acts.Act.TheVariants.{Derived, Took}
use Rattle.run_journal.specs.declared.acts.Act.{Act}
use Rattle.run_journal.specs.declared.acts.Kind.TheVariants as kind
use Rattle.run_journal.specs.declared.acts.Outcome.TheVariants.{Accepted}
use Rattle.run_journal.specs.declared.acts.Seal.{Seal}
use Rattle.run_journal.specs.declared.domain.Domain.{Domain}
use Rattle.run_journal.specs.declared.domain.Event.TheVariants.{Connect, Deliver}
use Rattle.run_journal.specs.declared.domain.Event.{Event}
use Rattle.example_domains.proofs.Elements.{responded, same_bytes, response_spelled, fits-plain}
use Rattle.example_domains.proofs.Judging.{managed-is, keyed-is}
use Rattle.example_domains.proofs.MobileData.{IsNamed, length-r1_name, octets-r1_name, few_fte}
use Rattle.example_domains.proofs.ProtectedData.{AreCarried, m3_fields, m3_message, fits-m3, reads-m3}
use Rattle.example_domains.proofs.ProtectedTransition.{guarded, named_rsne, told, requested, three_spelled, mobile_said, mobile_says, mobile_wraps, few_mobile, reads-request}
use Rattle.example_domains.proofs.ProtectedActs as w
use Rattle.example_domains.proofs.Stages.{Stage, begun, by_sta, by_ap}
use Rattle.example_domains.proofs.TransitionReads.{reads-response_of}
use Rattle.example_domains.proofs.Trio.{IsTrio}
use Rattle.example_domains.specs.Roaming.{association}

module _ (c : Domain) (k l m : ℕ) (t : IsTrio (guarded c) k l m) where
  abbrev d : Domain
  d = w.d c k l m

  abbrev a : Node
  a = w.a c k l m

  abbrev s : Node
  s = w.s c k l m

  abbrev snonce : List ℕ
  snonce = w.snonce c k l m

  abbrev anonce : List ℕ
  anonce = w.anonce c k l m

  abbrev i : Inputs
  i = w.i c k l m

  abbrev key : Derivation
  key = w.key c k l m

  abbrev g : GroupKey
  g = w.g c k l m

  abbrev k1 : IgtkNews
  k1 = w.k1 c k l m

  abbrev keys : News
  keys = w.keys c k l m

  abbrev fte : List ℕ
  fte = w.fte c k l m

  abbrev octets1 : List ℕ
  octets1 = w.octets1 c k l m

  abbrev octets2 : List ℕ
  octets2 = w.octets2 c k l m

  abbrev octets3 : List ℕ
  octets3 = w.octets3 c k l m

  abbrev octets4 : List ℕ
  octets4 = w.octets4 c k l m

  abbrev octets5 : List ℕ
  octets5 = w.octets5 c k l m

  abbrev octets6 : List ℕ
  octets6 = w.octets6 c k l m

  abbrev seal4 : Seal
  seal4 = w.seal4 c k l m

  abbrev sta1 : List Act
  sta1 = w.sta1 c k l m

  abbrev sta3 : List Act
  sta3 = w.sta3 c k l m

  abbrev sta4 : List Act
  sta4 = w.sta4 c k l m

  abbrev sta6 : List Act
  sta6 = w.sta6 c k l m

  abbrev ap0 : List Act
  ap0 = w.ap0 c k l m

  abbrev ap2 : List Act
  ap2 = w.ap2 c k l m

  abbrev ap5 : List Act
  ap5 = w.ap5 c k l m

  abbrev ap7 : List Act
  ap7 = w.ap7 c k l m

  abbrev to0 : List Act
  to0 = w.to0 c k l m

  abbrev part2 : List Act
  part2 = w.part2 c k l m

  abbrev part5 : List Act
  part5 = w.part5 c k l m

  has_mic : HasMic FtPsk
  has_mic = length-mic FtPsk

  are : AreCarried g k1
  are = record {
    gtk = record { octets = octets-gtk d a 0; size = length-gtk d a 0; low = omega arith };
    other = refl;
    octets = octets-gtk d a 1;
    size = length-gtk d a 1;
    low = omega arith;
    one_of = refl;
    id_octets = refl;
    number_octets = refl;
  }

  is_named : IsNamed (address d a) (r0kh_id d a) c.mdid
  is_named = record { size = t.ap_whole; octets = t.ap_octets; holder = t.holder; id_octets = t.id_octets; mdid_size = t.mdid; mdid_octets = t.mdid_octets }

  -- ---- round 1: the station asks
  stage0 : Stage d d k l m [] [] ap0 to0 []
  stage0 = begun d k l m t.ap_low t.to_low

  stage1 : Stage d d k l m ((Connect m k ∷ []) ∷ []) sta1 ap0 to0 (octets1 ∷ [])
  stage1 = by_sta d d k l m t.apart [] [] ap0 to0 [] stage0 (Connect m k) (w.acts1 c k l m) (Begin k) (refl, refl) (Asks (omega arith) refl) refl

  -- ---- round 2: the access point answers with its response and M1
  awaited2 : management_verdict d (draws ap0) a ap0 s kind.AssocReq (assoc_req_body d s a) (requested c.mdid) ≡ Accepted
  awaited2 = rw (same_bytes c.mdid) refl

  accepted2 : verdict d 0 a ap0 (Managed (assoc_req_body d s a) (requested c.mdid)) no_facts ≡ Accepted
  accepted2 = managed-is d a s ap0 (assoc_req_body d s a) (requested c.mdid) (same_octets d a) t.ap_finds refl no_facts Accepted Accepted Accepted awaited2 refl refl

  reads1 : Reads FtPsk octets1 (Managed (assoc_req_body d s a) (requested c.mdid))
  reads1 = reads-request c s a t.sta_whole t.ap_whole t.mdid

  row2 : TakeRow (here d 0 a) ap0 octets1 (w.acts2 c k l m)
  row2 = record {
    r = Managed (assoc_req_body d s a) (requested c.mdid);
    reads = reads1;
    facts = no_facts;
    knows = λ came p from. tt;
    row = By_assoc_req (record { b = assoc_req_body d s a; e = requested c.mdid; is = refl; kind_is = refl; p = s; from = t.ap_finds; accepted = accepted2; says = refl });
  }

  stage2 : Stage d d k l m ((Deliver 1 a ∷ []) ∷ (Connect m k ∷ []) ∷ []) sta1 ap2 to0 (octets3 ∷ octets2 ∷ octets1 ∷ [])
  stage2 = by_ap d d k l m t.apart ((Connect m k ∷ []) ∷ []) sta1 ap0 to0 (octets1 ∷ []) stage1 (Deliver 1 a) (w.acts2 c k l m) (Take octets1) (octets1, (stage1.were.0, (refl, refl))) row2 refl refl

  -- ---- round 3: the station is associated
  attempt1 : attempt a sta1 ≡ Some sta1
  attempt1 = rw (same-refl a) refl

  fields3 : response_fields FtPsk d a (responded c.mdid (assoc_fte d a)) ≡ Accepted
  fields3 = rw (same_bytes c.mdid, same_bytes (address d a)) refl

  accepted3 : verdict d 0 s sta1 (Managed (assoc_resp_body d a s 0 (assoc_resp_elements d a)) (responded c.mdid (assoc_fte d a))) no_facts ≡ Accepted
  accepted3 = managed-is d s a sta1 (assoc_resp_body d a s 0 (assoc_resp_elements d a)) (responded c.mdid (assoc_fte d a)) (same_octets d s) t.finds_ap refl no_facts Accepted Accepted Accepted
      (assoc_resp-in d sta1 a (assoc_resp_body d a s 0 (assoc_resp_elements d a)) (responded c.mdid (assoc_fte d a)) sta1 false attempt1 refl refl ∙ fields3) refl refl

  reads2 : Reads FtPsk octets2 (Managed (assoc_resp_body d a s 0 (assoc_resp_elements d a)) (responded c.mdid (assoc_fte d a)))
  reads2 = reads-response_of d a s (responded c.mdid (assoc_fte d a)) t.ap_whole t.sta_whole (omega (arith, t.sta_low)) (response_spelled c.mdid (assoc_fte d a) t.mdid (fits-plain no_nonce no_nonce (address d a) (r0kh_id d a) refl refl t.ap_whole t.holder))

  row3 : TakeRow (here d 0 s) sta1 octets2 (w.acts3 c k l m)
  row3 = record {
    r = Managed (assoc_resp_body d a s 0 (assoc_resp_elements d a)) (responded c.mdid (assoc_fte d a));
    reads = reads2;
    facts = no_facts;
    knows = λ came p from. tt;
    row = By_assoc_resp (record { b = assoc_resp_body d a s 0 (assoc_resp_elements d a); e = responded c.mdid (assoc_fte d a); is = refl; kind_is = refl; p = a; from = t.finds_ap; accepted = accepted3; says = refl });
  }

  abbrev rounds3 : List (List Event)
  rounds3 = (Deliver 2 s ∷ []) ∷ (Deliver 1 a ∷ []) ∷ (Connect m k ∷ []) ∷ []

  stage3 : Stage d d k l m rounds3 sta3 ap2 to0 (octets3 ∷ octets2 ∷ octets1 ∷ [])
  stage3 = by_sta d d k l m t.apart ((Deliver 1 a ∷ []) ∷ (Connect m k ∷ []) ∷ []) sta1 ap2 to0 (octets3 ∷ octets2 ∷ octets1 ∷ []) stage2 (Deliver 2 s) (w.acts3 c k l m) (Take octets2) (octets2, (stage2.were.1.0, (refl, refl))) row3 refl

  -- ---- round 4: the station derives the key by M1 and answers with M2
  abbrev m1 : KeyMessage
  m1 = m1_message d a s 1 anonce

  attempt3 : attempt a sta3 ≡ Some sta3
  attempt3 = attempt_more a (Took (Some a) octets2 kind.AssocResp Accepted None) sta1 sta1 refl refl attempt1

  heard4 : has_heard a kind.AssocResp sta3 ≡ true
  heard4 = rw (same-refl a) refl

  counter4 : kept_counter a (chain a sta3) ≡ None
  counter4 = ap (kept_counter a) (chain_part a sta3 sta3 attempt3 refl) ∙ rw (same-refl a) refl

  mine4 : (not (is_mine d s m1.header) || false) ≡ false
  mine4 = rw (same_octets d s) refl

  abbrev facts4 : Facts
  facts4 = record { requested = None; responded = Some (responded c.mdid (assoc_fte d a)); unwrapped = None; data_ = None; pulled = None; opened = None; unwrapped_igtk = None; kept = 0 }

  accepted4 : verdict d 0 s sta3 (Keyed m1) facts4 ≡ Accepted
  accepted4 = keyed-is d s a sta3 m1 facts4 Accepted mine4 t.finds_ap (m1-in d (draws sta3) sta3 a m1 sta3 true None attempt3 refl heard4 counter4) refl refl

  reads3 : Reads FtPsk octets3 (Keyed m1)
  reads3 = reads-m1 d a s 1 anonce t.ap_whole t.sta_whole (omega arith) (length-nonce d a 2)

  response4 : response a sta3 ≡ Some octets2
  response4 = ap (λ (h : List Act). heard a kind.AssocResp h) (since_part a sta3 sta3 attempt3) ∙ rw (same-refl a) refl

  row4 : TakeRow (here d 0 s) sta3 octets3 (w.acts4 c k l m)
  row4 = record {
    r = Keyed m1;
    reads = reads3;
    facts = facts4;
    knows = λ came p from.
        (let same : a ≡ p = cc (from, t.finds_ap) in
        (tt, subst (λ (x : Node). IsRequested FtPsk (response x sta3) facts4.responded) same (subst (λ (o : Option (List ℕ)). IsRequested FtPsk o facts4.responded) (sym response4) (assoc_resp_body d a s 0 (assoc_resp_elements d a), reads2))));
    row = By_m1 (record { k = m1; is = refl; message_is = refl; p = a; from = t.finds_ap; accepted = accepted4; part = sta3; awaited = attempt3; i = i; inputs_are = refl; says = refl });
  }

  abbrev rounds4 : List (List Event)
  rounds4 = (Deliver 3 s ∷ []) ∷ rounds3

  stage4 : Stage d d k l m rounds4 sta4 ap2 to0 (octets4 ∷ octets3 ∷ octets2 ∷ octets1 ∷ [])
  stage4 = by_sta d d k l m t.apart rounds3 sta3 ap2 to0 (octets3 ∷ octets2 ∷ octets1 ∷ []) stage3 (Deliver 3 s) (w.acts4 c k l m) (Take octets3) (octets3, (stage3.were.0, (refl, refl))) row4 refl

  -- ---- round 5: the access point derives it by M2
  abbrev m2 : KeyMessage
  m2 = m2_message d s a (keyed_by i) 1 fte

  attempt4 : attempt s ap2 ≡ Some part2
  attempt4 = rw (same-refl s) refl

  offers5 : offered s M1 part2 ≡ 1 ∷ []
  offers5 = rw (same-refl s) (ap (λ (x : ℕ). x ∷ []) (reads-counter FtPsk octets3 m1 reads3))

  few5 : length (sent_m2_key_data FtPsk d key fte) ≤ 65440
  few5 =
      let few = few_fte (address d a) (r0kh_id d a) t.ap_whole t.holder in
      let name = length-r1_name i in
      omega (arith, few, name, t.mdid, length-append (named_rsne (r1_name i) ++ mde_octets c.mdid) fte, length-append (named_rsne (r1_name i)) (mde_octets c.mdid), length-append c.mdid (0 ∷ []), length-append (r1_name i) (suite 6))

  verifies5 : verified FtPsk (ptk i).kck m2 Accepted ≡ Accepted
  verifies5 = verified-same FtPsk (ptk i).kck m2 Accepted (mic-sealed FtPsk (ptk i).kck (m2_fields d (keyed_by i) 1 fte) has_mic (fits-m2 d (keyed_by i) 1 fte (omega arith) (length-nonce d s 0) few5))

  mine5 : (not (is_mine d a m2.header) || false) ≡ false
  mine5 = rw (same_octets d a) refl

  abbrev facts5 : Facts
  facts5 = record { requested = Some (requested c.mdid); responded = None; unwrapped = None; data_ = Some (told (r1_name i) c.mdid (assoc_fte d a)); pulled = None; opened = None; unwrapped_igtk = None; kept = 0 }

  further5 : key_further d a ap2 s m2 M2 facts5 ≡ Accepted
  further5 = rw (same_bytes (r1_name i), same_bytes c.mdid, same_bytes fte) refl

  accepted5 : verdict d 0 a ap2 (Keyed m2) facts5 ≡ Accepted
  accepted5 = keyed-is d a s ap2 m2 facts5 Accepted mine5 t.ap_finds (m2-in d a ap2 s m2 part2 false (1 ∷ []) anonce attempt4 refl refl (secured-connect d part2 m2 refl (clear-m2 d s a (keyed_by i) 1 fte)) offers5 refl ∙ verifies5) further5 refl

  request5 : request s ap2 ≡ Some octets1
  request5 = request-begun d a s anonce (Took (Some s) octets1 kind.AssocReq Accepted None ∷ ap0) ∙ rw (same-refl s) refl

  knows5 : KnowsM2 FtPsk ap2 s m2 facts5
  knows5 = record {
    requested = subst (λ (o : Option (List ℕ)). IsRequested FtPsk o facts5.requested) (sym request5) (assoc_req_body d s a, reads1);
    data_ = three_spelled KeyData (r1_name i) c.mdid (assoc_fte d a) (length-r1_name i) t.mdid (fits-plain no_nonce no_nonce (address d a) (r0kh_id d a) refl refl t.ap_whole t.holder);
  }

  counter5 : next_counter s ap2 part2 ≡ 2
  counter5 = rw (same-refl s) refl

  says5 : w.acts5 c k l m ≡ Took (Some s) octets4 (kind.Key M2) Accepted (Some seal4) ∷ Derived s i (ptk i) ∷ sent_m3 d a s (keyed_by i) (next_counter s ap2 part2) (news d ap2) ∷ []
  says5 = ap (λ (x : ℕ). Took (Some s) octets4 (kind.Key M2) Accepted (Some seal4) ∷ Derived s i (ptk i) ∷ sent_m3 d a s (keyed_by i) x keys ∷ []) (sym counter5)

  row5 : TakeRow (here d 0 a) ap2 octets4 (w.acts5 c k l m)
  row5 = record {
    r = Keyed m2;
    reads = reads-m2 d s a (keyed_by i) 1 fte has_mic t.sta_whole t.ap_whole (omega arith) (length-nonce d s 0) few5;
    facts = facts5;
    knows = λ came p from. (let same : s ≡ p = cc (from, t.ap_finds) in (subst (λ (x : Node). KnowsM2 FtPsk ap2 x m2 facts5) same knows5, tt));
    row = By_m2 (record { k = m2; is = refl; message_is = refl; p = s; from = t.ap_finds; accepted = accepted5; part = part2; awaited = attempt4; i = i; inputs_are = refl; says = says5 });
  }

  abbrev rounds5 : List (List Event)
  rounds5 = (Deliver 4 a ∷ []) ∷ rounds4

  stage5 : Stage d d k l m rounds5 sta4 ap5 to0 (octets5 ∷ octets4 ∷ octets3 ∷ octets2 ∷ octets1 ∷ [])
  stage5 = by_ap d d k l m t.apart rounds4 sta4 ap2 to0 (octets4 ∷ octets3 ∷ octets2 ∷ octets1 ∷ []) stage4 (Deliver 4 a) (w.acts5 c k l m) (Take octets4) (octets4, (stage4.were.0, (refl, refl))) row5 refl refl

  -- ---- round 6: the station installs both keys by M3
  abbrev m3 : KeyMessage
  m3 = m3_message d a s (keyed_by i) 2 keys

  abbrev keying : Keying
  keying = record { key = key; is_session = false }

  attempt6 : attempt a sta4 ≡ Some sta4
  attempt6 = rw (same-refl a) refl

  heard6 : has_heard a (kind.Key M1) sta4 ≡ true
  heard6 = rw (same-refl a) refl

  derives6 : derivation a sta4 ≡ Some key
  derives6 = rw (same-refl a) refl

  keying6 : m3_keying a sta4 m3 ≡ Some keying
  keying6 = m3-keyed a sta4 sta4 m3 key attempt6 refl refl heard6 derives6

  counter6 : kept_counter a (chain a sta4) ≡ None
  counter6 = ap (kept_counter a) (chain_part a sta4 sta4 attempt6 refl) ∙ rw (same-refl a) refl

  -- its key data
  abbrev plain6 : List ℕ
  plain6 = m3_key_data d a key keys

  few6 : length (wrapped (ptk i).kek plain6) ≤ 65440
  few6 = few_mobile (address d a) (r0kh_id d a) c.mdid (r1_name i) g k1 is_named are (length-r1_name i) (octets-r1_name i) (ptk i).kek (octets-kek i)

  reads6 : Reads FtPsk octets5 (Keyed m3)
  reads6 = reads-m3 d a s (keyed_by i) 2 keys has_mic t.ap_whole t.sta_whole (omega arith) (length-nonce d a 2) few6

  verifies6 : verified FtPsk (ptk i).kck m3 Accepted ≡ Accepted
  verifies6 = verified-same FtPsk (ptk i).kck m3 Accepted (mic-sealed FtPsk (ptk i).kck (m3_fields d a s (keyed_by i) 2 keys) has_mic (fits-m3 d a s (keyed_by i) 2 keys (omega arith) (length-nonce d a 2) few6))

  mine6 : (not (is_mine d s m3.header) || false) ≡ false
  mine6 = rw (same_octets d s) refl

  abbrev facts6 : Facts
  facts6 = record {
    requested = None;
    responded = Some (responded c.mdid (assoc_fte d a));
    unwrapped = Some plain6;
    data_ = Some (mobile_said (address d a) (r0kh_id d a) c.mdid (r1_name i) g k1 is_named are (length-r1_name i) (octets-r1_name i));
    pulled = None;
    opened = None;
    unwrapped_igtk = None;
    kept = 0;
  }

  said_same : m3_further FtPsk d (Some keying) facts6 ≡ Accepted
  said_same = rw (same_bytes (named_rsne (r1_name i)), same_bytes c.mdid, same_bytes fte, length-gtk d a 0, length-gtk d a 1) refl

  further6 : key_further d s sta4 a m3 M3 facts6 ≡ Accepted
  further6 = ap (λ (o : Option Keying). m3_further FtPsk d o facts6) keying6 ∙ said_same

  accepted6 : verdict d 0 s sta4 (Keyed m3) facts6 ≡ Accepted
  accepted6 = keyed-is d s a sta4 m3 facts6 Accepted mine6 t.finds_ap (m3-in d sta4 a m3 keying keying6 counter6 refl ∙ verifies6) further6 refl

  knows6 : KnowsM3 (ptk i).kek m3 facts6
  knows6 = record {
    unwrapped = (octets-kek i, mobile_wraps (address d a) (r0kh_id d a) c.mdid (r1_name i) g k1 is_named are (length-r1_name i) (octets-r1_name i) (ptk i).kek);
    data_ = λ plain e. (let same : plain6 ≡ plain = cc e in subst (λ (x : List ℕ). ReadsKeyData x facts6.data_) same (mobile_says (address d a) (r0kh_id d a) c.mdid (r1_name i) g k1 is_named are (length-r1_name i) (octets-r1_name i)));
  }

  response6 : response a sta4 ≡ Some octets2
  response6 = ap (λ (h : List Act). heard a kind.AssocResp h) (since_part a sta4 sta4 attempt6) ∙ rw (same-refl a) refl

  row6 : TakeRow (here d 0 s) sta4 octets5 (w.acts6 c k l m)
  row6 = record {
    r = Keyed m3;
    reads = reads6;
    facts = facts6;
    knows = λ came p from.
        (let same : a ≡ p = cc (from, t.finds_ap) in (
          λ y awaited.
              (let one : keying ≡ y = some-injective keying y (sym keying6 ∙ subst (λ (x : Node). m3_keying x sta4 m3 ≡ Some y) (sym same) awaited) in
              subst (λ (x : Keying). KnowsM3 x.key.ptk.kek m3 facts6) one knows6),
          subst (λ (x : Node). IsRequested FtPsk (response x sta4) facts6.responded) same (subst (λ (o : Option (List ℕ)). IsRequested FtPsk o facts6.responded) (sym response6) (assoc_resp_body d a s 0 (assoc_resp_elements d a), reads2)),
        ));
    row = By_m3 (record { k = m3; is = refl; message_is = refl; p = a; from = t.finds_ap; accepted = accepted6; y = keying; awaited = keying6; says = not-replaced a sta4 sta4 _ _ attempt6 refl });
  }

  abbrev rounds6 : List (List Event)
  rounds6 = (Deliver 5 s ∷ []) ∷ rounds5

  stage6 : Stage d d k l m rounds6 sta6 ap5 to0 (w.frames7 c k l m)
  stage6 = by_sta d d k l m t.apart rounds5 sta4 ap5 to0 (octets5 ∷ octets4 ∷ octets3 ∷ octets2 ∷ octets1 ∷ []) stage5 (Deliver 5 s) (w.acts6 c k l m) (Take octets5) (octets5, (stage5.were.0, (refl, refl))) row6 refl

  -- ---- round 7: the access point installs the pairwise key by M4, and puts the PMK-R0
  abbrev m4 : KeyMessage
  m4 = m4_message d s a (keyed_by i) 2

  attempt7 : attempt s ap5 ≡ Some part5
  attempt7 = attempt_more s (sent_m3 d a s (keyed_by i) 2 keys) (Derived s i (ptk i) ∷ Took (Some s) octets4 (kind.Key M2) Accepted (Some seal4) ∷ ap2) (Derived s i (ptk i) ∷ Took (Some s) octets4 (kind.Key M2) Accepted (Some seal4) ∷ part2) refl refl
      (attempt_more s (Derived s i (ptk i)) (Took (Some s) octets4 (kind.Key M2) Accepted (Some seal4) ∷ ap2) (Took (Some s) octets4 (kind.Key M2) Accepted (Some seal4) ∷ part2) refl refl
      (attempt_more s (Took (Some s) octets4 (kind.Key M2) Accepted (Some seal4)) ap2 part2 refl refl attempt4))

  heard7 : has_heard s (kind.Key M2) part5 ≡ true
  heard7 = rw (same-refl s) refl

  derives7 : derivation s part5 ≡ Some key
  derives7 = rw (same-refl s) refl

  keying7 : m4_keying s part5 ≡ Some key
  keying7 = m4-keyed s part5 key refl heard7 derives7

  offers7 : offered s M3 part5 ≡ 2 ∷ []
  offers7 = rw (same-refl s) (ap (λ (x : ℕ). x ∷ []) (reads-counter FtPsk octets5 m3 reads6))

  verifies7 : verified FtPsk (ptk i).kck m4 Accepted ≡ Accepted
  verifies7 = verified-same FtPsk (ptk i).kck m4 Accepted (mic-sealed FtPsk (ptk i).kck (m4_fields d 2) has_mic (fits-m4 d 2 (omega arith)))

  mine7 : (not (is_mine d a m4.header) || false) ≡ false
  mine7 = rw (same_octets d a) refl

  accepted7 : verdict d 0 a ap5 (Keyed m4) no_facts ≡ Accepted
  accepted7 = keyed-is d a s ap5 m4 no_facts Accepted mine7 t.ap_finds (m4-in d ap5 s m4 part5 key (2 ∷ []) attempt7 keying7 offers7 refl ∙ verifies7) refl refl

  before7 : before_sent s (kind.Key M3) ap5 ≡ Some (Derived s i (ptk i) ∷ Took (Some s) octets4 (kind.Key M2) Accepted (Some seal4) ∷ ap2)
  before7 = rw (same-refl s) refl

  abbrev put7 : List Act
  put7 = put_acts d a ap5 s key

  says7 : w.acts7 c k l m ≡ m4_acts octets6 m4 s key None put7 ++ newer_acts d a s (add (m4_acts octets6 m4 s key None put7) ap5) key (carried_older s ap5 (before_sent s (kind.Key M3) ap5))
  says7 = ap (λ (o : Option (List Act)). m4_acts octets6 m4 s key None put7 ++ newer_acts d a s (add (m4_acts octets6 m4 s key None put7) ap5) key (carried_older s ap5 o)) (sym before7)

  row7 : TakeRow (here d 0 a) ap5 octets6 (w.acts7 c k l m)
  row7 = record {
    r = Keyed m4;
    reads = reads-m4 d s a (keyed_by i) 2 has_mic t.sta_whole t.ap_whole (omega arith);
    facts = no_facts;
    knows = λ came p from. (tt, tt);
    row = By_m4 (record { k = m4; is = refl; message_is = refl; p = s; from = t.ap_finds; accepted = accepted7; part = part5; awaited = attempt7; x = key; keyed = keying7; says = says7 });
  }

  pub stage7 : Stage d d k l m (association k m) sta6 ap7 to0 (w.frames7 c k l m)
  stage7 = by_ap d d k l m t.apart rounds6 sta6 ap5 to0 (w.frames7 c k l m) stage6 (Deliver 6 a) (w.acts7 c k l m) (Take octets6) (octets6, (stage6.were.0, (refl, refl))) row7 refl refl
