-- The rounds of an example with suite 4 after a changed key: the station is associated anew, resumes the group key that it has, and its
-- access point puts the PMK-R0 of the new key with its key holder.
use Rattle.std.proofs.Common.{◌≡◌, ℕ, ◌≤◌, Bool, true, false, cond, List, [], ◌∷◌, length, Option, Some, None, refl, sym, ap, subst, ◌∙◌, arith, inl, inr}
use Rattle.std.proofs.lemmas.List.{length-append}
use Rattle.std.specs.Prelude.{not, ◌||◌, ◌++◌, bytes_eq}
use Rattle.domain_base.specs.declared.names.Peer.TheVariants.{One}
use Rattle.domain_base.specs.declared.names.Akm.TheVariants.{FtPsk}
use Rattle.domain_base.specs.declared.names.Node.{Node}
use Rattle.domain_rules.proofs.CarriedKey.{IsGroupKey}
use Rattle.domain_rules.proofs.Exchange.{not-replaced, length-nonce, length-gtk, octets-gtk, some-injective, m3-keyed, m4-keyed, m3-in, m4-in, same_octets}
use Rattle.domain_rules.proofs.KeyOctets.{octets-kek}
use Rattle.domain_rules.proofs.Parts.{since_part, chain_part}
use Rattle.domain_rules.proofs.Refused.{no_facts}
use Rattle.domain_rules.proofs.SentReads.{HasMic, FewWrapped, assoc_req_body, assoc_resp_body, m1_message, reads-m1, m2_message, m2_fields, clear-m2, reads-m2, fits-m2, m3_message, m3_fields, reads-m3, fits-m3, m4_message, m4_fields, reads-m4, fits-m4, mic-sealed, reads-counter}
use Rattle.domain_rules.proofs.Verdicts.{assoc_resp-in, m1-in, m2-in, secured-connect, verified-same}
use Rattle.domain_rules.specs.AccessPointKeys.{KnowsM2, m4_keying, request, IsRequested}
use Rattle.domain_rules.specs.AccessPointRows.{m4_acts, newer_acts, carried_older}
use Rattle.domain_rules.specs.Asking.{has_heard, kept_counter, offered, verified}
use Rattle.domain_rules.specs.Associating.{management_verdict, response_fields}
use Rattle.domain_rules.specs.Counters.{next_counter}
use Rattle.domain_rules.specs.Facts.{Facts, ReadsKeyData}
use Rattle.domain_rules.specs.FastTransition.{r1_name, no_nonce, assoc_fte}
use Rattle.domain_rules.specs.Frames.{assoc_resp_elements, in_data, m2_frame, m3_frame, m4_frame, frame_seal, sent_assoc_req, sent_assoc_resp, sent_m1, sent_m2, sent_m2_key_data, sent_m3, sent_m4, keyed_by, m3_key_data}
use Rattle.domain_rules.specs.GroupKeys.{find_key, memory, give_by, gtk_news, news}
use Rattle.domain_rules.specs.Here.{here}
use Rattle.domain_rules.specs.KeyHolders.{put_acts, put_answer}
use Rattle.domain_rules.specs.Network.{address, mac, r0kh_id}
use Rattle.domain_rules.specs.Reading.{KeyMessage, Managed, Keyed, Reads}
use Rattle.domain_rules.specs.Rows.{Begin, Take, TakeRow, By_assoc_req, By_assoc_resp, By_m1, By_m2, By_m3, By_m4}
use Rattle.domain_rules.specs.StationKeys.{KnowsM3, Keying, m3_keying}
use Rattle.domain_rules.specs.StationRows.{Asks}
use Rattle.domain_rules.specs.TransitionKeyData.{response}
use Rattle.domain_rules.specs.Verdict.{is_mine, key_further, m3_further, verdict}
use Rattle.eapol_key.specs.Octets.{frame_octets}
use Rattle.eapol_key.specs.Sent.{sent_fields}
use Rattle.eapol_key.specs.declared.messages.Message.TheVariants.{M1, M2, M3, M4}
use Rattle.key_hierarchy.specs.Keys.{ptk}
use Rattle.key_hierarchy.specs.declared.inputs.Inputs.{Inputs}
use Rattle.key_hierarchy.specs.declared.answers.PutAnswer.TheVariants.{Held}
use Rattle.mac_prf.proofs.Parts.{length-mic}
use Rattle.rsn_elements.specs.Sent.{rsne_octets, mde_octets}
use Rattle.rsn_elements.specs.declared.framing.Within.TheVariants.{KeyData}
use Rattle.run_journal.specs.Acts.{Derivation, GroupKey}
use Rattle.run_journal.specs.declared.acts.GroupKind.TheVariants as groups
use Rattle.run_journal.specs.Holders.{row}
use Rattle.run_journal.specs.Questions.{or_else, attempt, derivation, before_sent, chain, heard, draws, add}
use Rattle.run_journal.specs.declared.acts.Act.TheVariants.{Opened, Drew, Derived, Took, Installed, Resumed, Finished, Put}
use Rattle.run_journal.specs.declared.acts.Act.{Act}
use Rattle.run_journal.specs.declared.acts.Drawn.TheVariants.{Nonce}
use Rattle.run_journal.specs.declared.acts.Key.TheVariants.{Pairwise, Group}
use Rattle.run_journal.specs.declared.acts.Kind.TheVariants as kind
use Rattle.run_journal.specs.declared.acts.Outcome.TheVariants.{Accepted}
use Rattle.run_journal.specs.declared.acts.Seal.{Seal}
use Rattle.run_journal.specs.declared.acts.Start.TheVariants as start
use Rattle.run_journal.specs.declared.domain.Domain.{Domain}
use Rattle.run_journal.specs.declared.domain.Event.TheVariants.{Connect, Deliver}
use Rattle.run_journal.specs.declared.domain.Event.{Event}
use Rattle.example_domains.proofs.Elements.{told, requested, responded, same_bytes, three_spelled, fits-plain}
use Rattle.example_domains.proofs.Judging.{managed-is, keyed-is}
use Rattle.example_domains.proofs.MobileData.{IsNamed, length-r1_name, octets-r1_name, few_fte, mobile_said, mobile_says, mobile_wraps, few_mobile}
use Rattle.example_domains.proofs.RoamingActs as w
use Rattle.example_domains.proofs.RoamingActs.{mobile}
use Rattle.example_domains.proofs.Stages.{Stage, TimelyIsRight, by_sta, by_ap, at_sta, at_ap}
use Rattle.example_domains.proofs.ChangedKeyRounds as before
use Rattle.example_domains.proofs.TransitionReads.{reads-request, reads-response}
use Rattle.example_domains.proofs.Trio.{IsTrio}
use Rattle.example_domains.specs.ChangedKey.{second_pair, change, anew, HasAnew}

module _ (seed ssid psk mdid key : List ℕ) (t : IsTrio (mobile (second_pair seed ssid psk mdid)) 0 1 0) (u : IsTrio (mobile (second_pair seed ssid key mdid)) 0 1 0) where
  -- the header, and that of a network whose station has the new key
  abbrev first : Domain
  first = second_pair seed ssid psk mdid

  abbrev c : Domain
  c = second_pair seed ssid key mdid

  -- the network as it was, and as it is
  abbrev h : Domain
  h = w.d first 0 1 0

  abbrev d : Domain
  d = w.d c 0 1 0

  abbrev a : Node
  a = w.a c 0 1 0

  abbrev s : Node
  s = w.s c 0 1 0

  abbrev id : List ℕ
  id = w.id c 0 1 0

  -- the names of the old key and of the new one
  abbrev old_name : List ℕ
  old_name = w.name first 0 1 0

  abbrev name : List ℕ
  name = w.name c 0 1 0

  abbrev snonce : List ℕ
  snonce = w.snonce3 c 0 1 0

  abbrev anonce : List ℕ
  anonce = w.anonce3 c 0 1 0

  abbrev i : Inputs
  i = w.i3 c 0 1 0

  abbrev keys : Derivation
  keys = w.key3 c 0 1 0

  abbrev g : GroupKey
  g = w.g first 0 1 0

  abbrev fte : List ℕ
  fte = w.fte c 0 1 0

  -- the frames, from that of number 9 on
  abbrev octets1 : List ℕ
  octets1 = w.octets1 c 0 1 0

  abbrev octets2 : List ℕ
  octets2 = w.octets2 c 0 1 0

  abbrev octets3 : List ℕ
  octets3 = in_data d a s (frame_octets (sent_fields M1 d.akm 1 anonce 0 []))

  abbrev octets4 : List ℕ
  octets4 = in_data d s a (m2_frame d (keyed_by i) 1 fte)

  abbrev octets5 : List ℕ
  octets5 = in_data d a s (m3_frame d a (keyed_by i) 2 (gtk_news g 0))

  abbrev octets6 : List ℕ
  octets6 = in_data d s a (m4_frame d (keyed_by i) 2)

  abbrev seal4 : Seal
  seal4 = frame_seal (ptk i).kck (m2_frame d (keyed_by i) 1 fte)

  abbrev seal5 : Seal
  seal5 = frame_seal (ptk i).kck (m3_frame d a (keyed_by i) 2 (gtk_news g 0))

  abbrev seal6 : Seal
  seal6 = frame_seal (ptk i).kck (m4_frame d (keyed_by i) 2)

  abbrev acts1 : List Act
  acts1 = Opened a start.Connect ∷ Drew (Nonce snonce) ∷ sent_assoc_req d s a ∷ []

  abbrev acts2 : List Act
  acts2 = Took (Some s) octets1 kind.AssocReq Accepted None ∷ Opened s start.Connect ∷ Drew (Nonce anonce) ∷ sent_assoc_resp d a s ∷ sent_m1 d a s 1 anonce ∷ []

  abbrev acts3 : List Act
  acts3 = Took (Some a) octets2 kind.AssocResp Accepted None ∷ []

  abbrev acts4 : List Act
  acts4 = Took (Some a) octets3 (kind.Key M1) Accepted None ∷ Derived a i (ptk i) ∷ sent_m2 d s a (keyed_by i) 1 fte ∷ []

  abbrev acts5 : List Act
  acts5 = Took (Some s) octets4 (kind.Key M2) Accepted (Some seal4) ∷ Derived s i (ptk i) ∷ sent_m3 d a s (keyed_by i) 2 (gtk_news g 0) ∷ []

  abbrev acts6 : List Act
  acts6 = Took (Some a) octets5 (kind.Key M3) Accepted (Some seal5) ∷ Installed (One a) (Pairwise (ptk i).tk i) ∷ Resumed a (Group groups.Gtk g.key g.id (mac d a)) ∷ Finished a i ∷ sent_m4 d s a (keyed_by i) 2 ∷ []

  abbrev acts7 : List Act
  acts7 = Took (Some s) octets6 (kind.Key M4) Accepted (Some seal6) ∷ Installed (One s) (Pairwise (ptk i).tk i) ∷ Finished s i ∷ Put id name s Held ∷ []

  -- the histories, from those before on
  abbrev sta0 : List Act
  sta0 = before.sta9 seed ssid psk mdid key t u

  abbrev ap0 : List Act
  ap0 = before.ap9 seed ssid psk mdid key t u

  abbrev pub to0 : List Act
  to0 = before.to10 seed ssid psk mdid key t u

  abbrev frames0 : List (List ℕ)
  frames0 = before.frames10 seed ssid psk mdid key t u

  abbrev sta1 : List Act
  sta1 = add acts1 sta0

  abbrev sta3 : List Act
  sta3 = add acts3 sta1

  abbrev sta4 : List Act
  sta4 = add acts4 sta3

  abbrev pub sta6 : List Act
  sta6 = add acts6 sta4

  abbrev ap2 : List Act
  ap2 = add acts2 ap0

  abbrev ap5 : List Act
  ap5 = add acts5 ap2

  abbrev pub ap7 : List Act
  ap7 = add acts7 ap5

  -- the parts of the attempts
  abbrev asked : List Act
  asked = add acts1 []

  abbrev joined : List Act
  joined = add acts3 asked

  abbrev derived : List Act
  derived = add acts4 joined

  abbrev part2 : List Act
  part2 = sent_m1 d a s 1 anonce ∷ sent_assoc_resp d a s ∷ Drew (Nonce anonce) ∷ Opened s start.Connect ∷ []

  abbrev part5 : List Act
  part5 = add acts5 part2

  has_mic : HasMic FtPsk
  has_mic = length-mic FtPsk

  is_key : IsGroupKey g
  is_key = record { octets = octets-gtk h a 0; size = length-gtk h a 0; low = omega arith }

  is_named : IsNamed (address d a) (r0kh_id d a) c.mdid
  is_named = record { size = u.ap_whole; octets = u.ap_octets; holder = u.holder; id_octets = u.id_octets; mdid_size = u.mdid; mdid_octets = u.mdid_octets }

  -- ---- round 11: the station asks
  abbrev rounds0 : List (List Event)
  rounds0 = change key

  stage0 : Stage h d 0 1 0 rounds0 sta0 ap0 to0 frames0
  stage0 = before.stage10 seed ssid psk mdid key t u

  abbrev rounds1 : List (List Event)
  rounds1 = (Connect 0 0 ∷ []) ∷ rounds0

  stage1 : Stage h d 0 1 0 rounds1 sta1 ap0 to0 (octets1 ∷ frames0)
  stage1 = by_sta h d 0 1 0 t.apart rounds0 sta0 ap0 to0 frames0 stage0 (Connect 0 0) acts1 (Begin 0) (refl, refl) (Asks (omega arith) refl) refl

  -- ---- round 12: the access point answers with its response and M1
  awaited2 : management_verdict d (draws ap0) a ap0 s kind.AssocReq (assoc_req_body d s a) (requested c.mdid) ≡ Accepted
  awaited2 = rw (same_bytes c.mdid) refl

  accepted2 : verdict d 0 a ap0 (Managed (assoc_req_body d s a) (requested c.mdid)) no_facts ≡ Accepted
  accepted2 = managed-is d a s ap0 (assoc_req_body d s a) (requested c.mdid) (same_octets d a) u.ap_finds refl no_facts Accepted Accepted Accepted awaited2 refl refl

  reads1 : Reads FtPsk octets1 (Managed (assoc_req_body d s a) (requested c.mdid))
  reads1 = reads-request c s a u.sta_whole u.ap_whole u.mdid

  row2 : TakeRow (here d 0 a) ap0 octets1 acts2
  row2 = record {
    r = Managed (assoc_req_body d s a) (requested c.mdid);
    reads = reads1;
    facts = no_facts;
    knows = λ came p from. tt;
    row = By_assoc_req (record { b = assoc_req_body d s a; e = requested c.mdid; is = refl; kind_is = refl; p = s; from = u.ap_finds; accepted = accepted2; says = refl });
  }

  abbrev rounds2 : List (List Event)
  rounds2 = (Deliver 9 a ∷ []) ∷ rounds1

  stage2 : Stage h d 0 1 0 rounds2 sta1 ap2 to0 (octets3 ∷ octets2 ∷ octets1 ∷ frames0)
  stage2 = by_ap h d 0 1 0 t.apart rounds1 sta1 ap0 to0 (octets1 ∷ frames0) stage1 (Deliver 9 a) acts2 (Take octets1) (octets1, (stage1.were.0, (refl, refl))) row2 refl refl

  -- ---- round 13: the station is associated
  attempt1 : attempt a sta1 ≡ Some asked
  attempt1 = refl

  fields3 : response_fields FtPsk d a (responded c.mdid (assoc_fte d a)) ≡ Accepted
  fields3 = rw (same_bytes c.mdid) refl

  accepted3 : verdict d 0 s sta1 (Managed (assoc_resp_body d a s 0 (assoc_resp_elements d a)) (responded c.mdid (assoc_fte d a))) no_facts ≡ Accepted
  accepted3 = managed-is d s a sta1 (assoc_resp_body d a s 0 (assoc_resp_elements d a)) (responded c.mdid (assoc_fte d a)) (same_octets d s) u.finds_ap refl no_facts Accepted Accepted Accepted
      (assoc_resp-in d sta1 a (assoc_resp_body d a s 0 (assoc_resp_elements d a)) (responded c.mdid (assoc_fte d a)) asked false attempt1 refl refl ∙ fields3) refl refl

  reads2 : Reads FtPsk octets2 (Managed (assoc_resp_body d a s 0 (assoc_resp_elements d a)) (responded c.mdid (assoc_fte d a)))
  reads2 = reads-response c a s u.ap_whole u.sta_whole (omega (arith, u.sta_low)) u.mdid u.holder

  row3 : TakeRow (here d 0 s) sta1 octets2 acts3
  row3 = record {
    r = Managed (assoc_resp_body d a s 0 (assoc_resp_elements d a)) (responded c.mdid (assoc_fte d a));
    reads = reads2;
    facts = no_facts;
    knows = λ came p from. tt;
    row = By_assoc_resp (record { b = assoc_resp_body d a s 0 (assoc_resp_elements d a); e = responded c.mdid (assoc_fte d a); is = refl; kind_is = refl; p = a; from = u.finds_ap; accepted = accepted3; says = refl });
  }

  abbrev rounds3 : List (List Event)
  rounds3 = (Deliver 10 s ∷ []) ∷ rounds2

  stage3 : Stage h d 0 1 0 rounds3 sta3 ap2 to0 (octets3 ∷ octets2 ∷ octets1 ∷ frames0)
  stage3 = by_sta h d 0 1 0 t.apart rounds2 sta1 ap2 to0 (octets3 ∷ octets2 ∷ octets1 ∷ frames0) stage2 (Deliver 10 s) acts3 (Take octets2) (octets2, (stage2.were.1.0, (refl, refl))) row3 refl

  -- ---- round 14: the station derives the key by M1 and answers with M2
  abbrev m1 : KeyMessage
  m1 = m1_message d a s 1 anonce

  attempt3 : attempt a sta3 ≡ Some joined
  attempt3 = refl

  heard4 : has_heard a kind.AssocResp joined ≡ true
  heard4 = refl

  counter4 : kept_counter a (chain a sta3) ≡ None
  counter4 = ap (kept_counter a) (chain_part a sta3 joined attempt3 refl)

  mine4 : (not (is_mine d s m1.header) || false) ≡ false
  mine4 = refl

  abbrev facts4 : Facts
  facts4 = record { requested = None; responded = Some (responded c.mdid (assoc_fte d a)); unwrapped = None; data_ = None; pulled = None; opened = None; unwrapped_igtk = None; kept = 0 }

  accepted4 : verdict d 0 s sta3 (Keyed m1) facts4 ≡ Accepted
  accepted4 = keyed-is d s a sta3 m1 facts4 Accepted mine4 u.finds_ap (m1-in d (draws sta3) sta3 a m1 joined true None attempt3 refl heard4 counter4) refl refl

  reads3 : Reads FtPsk octets3 (Keyed m1)
  reads3 = reads-m1 d a s 1 anonce u.ap_whole u.sta_whole (omega arith) (length-nonce d a 2)

  response4 : response a sta3 ≡ Some octets2
  response4 = ap (λ (x : List Act). heard a kind.AssocResp x) (since_part a sta3 joined attempt3)

  row4 : TakeRow (here d 0 s) sta3 octets3 acts4
  row4 = record {
    r = Keyed m1;
    reads = reads3;
    facts = facts4;
    knows = λ came p from.
        (let same : a ≡ p = cc (from) in
        (tt, subst (λ (x : Node). IsRequested FtPsk (response x sta3) facts4.responded) same (subst (λ (o : Option (List ℕ)). IsRequested FtPsk o facts4.responded) (sym response4) (assoc_resp_body d a s 0 (assoc_resp_elements d a), reads2))));
    row = By_m1 (record { k = m1; is = refl; message_is = refl; p = a; from = u.finds_ap; accepted = accepted4; part = joined; awaited = attempt3; i = i; inputs_are = refl; says = refl });
  }

  abbrev rounds4 : List (List Event)
  rounds4 = (Deliver 11 s ∷ []) ∷ rounds3

  stage4 : Stage h d 0 1 0 rounds4 sta4 ap2 to0 (octets4 ∷ octets3 ∷ octets2 ∷ octets1 ∷ frames0)
  stage4 = by_sta h d 0 1 0 t.apart rounds3 sta3 ap2 to0 (octets3 ∷ octets2 ∷ octets1 ∷ frames0) stage3 (Deliver 11 s) acts4 (Take octets3) (octets3, (stage3.were.0, (refl, refl))) row4 refl

  -- ---- round 15: the access point derives it by M2
  abbrev m2 : KeyMessage
  m2 = m2_message d s a (keyed_by i) 1 fte

  attempt4 : attempt s ap2 ≡ Some part2
  attempt4 = refl

  offers5 : offered s M1 part2 ≡ 1 ∷ []
  offers5 = ap (λ (x : ℕ). x ∷ []) (reads-counter FtPsk octets3 m1 reads3)

  few5 : length (sent_m2_key_data FtPsk d keys fte) ≤ 65440
  few5 =
      let few = few_fte (address d a) (r0kh_id d a) u.ap_whole u.holder in
      let name = length-r1_name i in
      omega (arith, few, name, u.mdid, length-append (rsne_octets FtPsk (Some (r1_name i)) ++ mde_octets c.mdid) fte, length-append (rsne_octets FtPsk (Some (r1_name i))) (mde_octets c.mdid), length-append c.mdid (0 ∷ []))

  verifies5 : verified FtPsk (ptk i).kck m2 Accepted ≡ Accepted
  verifies5 = verified-same FtPsk (ptk i).kck m2 Accepted (mic-sealed FtPsk (ptk i).kck (m2_fields d (keyed_by i) 1 fte) has_mic (fits-m2 d (keyed_by i) 1 fte (omega arith) (length-nonce d s 2) few5))

  mine5 : (not (is_mine d a m2.header) || false) ≡ false
  mine5 = refl

  abbrev facts5 : Facts
  facts5 = record { requested = Some (requested c.mdid); responded = None; unwrapped = None; data_ = Some (told (r1_name i) c.mdid (assoc_fte d a)); pulled = None; opened = None; unwrapped_igtk = None; kept = 0 }

  further5 : key_further d a ap2 s m2 M2 facts5 ≡ Accepted
  further5 = rw (same_bytes (r1_name i), same_bytes c.mdid) refl

  accepted5 : verdict d 0 a ap2 (Keyed m2) facts5 ≡ Accepted
  accepted5 = keyed-is d a s ap2 m2 facts5 Accepted mine5 u.ap_finds (m2-in d a ap2 s m2 part2 false (1 ∷ []) anonce attempt4 refl refl (secured-connect d part2 m2 refl (clear-m2 d s a (keyed_by i) 1 fte)) offers5 refl ∙ verifies5) further5 refl

  request5 : request s ap2 ≡ Some octets1
  request5 = refl

  knows5 : KnowsM2 FtPsk ap2 s m2 facts5
  knows5 = record {
    requested = subst (λ (o : Option (List ℕ)). IsRequested FtPsk o facts5.requested) (sym request5) (assoc_req_body d s a, reads1);
    data_ = three_spelled KeyData (r1_name i) c.mdid (assoc_fte d a) (length-r1_name i) u.mdid (fits-plain no_nonce no_nonce (address d a) (r0kh_id d a) refl refl u.ap_whole u.holder);
  }

  counter5 : next_counter s ap2 part2 ≡ 2
  counter5 = refl

  says5 : acts5 ≡ Took (Some s) octets4 (kind.Key M2) Accepted (Some seal4) ∷ Derived s i (ptk i) ∷ sent_m3 d a s (keyed_by i) (next_counter s ap2 part2) (news d ap2) ∷ []
  says5 = ap (λ (x : ℕ). Took (Some s) octets4 (kind.Key M2) Accepted (Some seal4) ∷ Derived s i (ptk i) ∷ sent_m3 d a s (keyed_by i) x (gtk_news g 0) ∷ []) (sym counter5)

  row5 : TakeRow (here d 0 a) ap2 octets4 acts5
  row5 = record {
    r = Keyed m2;
    reads = reads-m2 d s a (keyed_by i) 1 fte has_mic u.sta_whole u.ap_whole (omega arith) (length-nonce d s 2) few5;
    facts = facts5;
    knows = λ came p from. (let same : s ≡ p = cc (from) in (subst (λ (x : Node). KnowsM2 FtPsk ap2 x m2 facts5) same knows5, tt));
    row = By_m2 (record { k = m2; is = refl; message_is = refl; p = s; from = u.ap_finds; accepted = accepted5; part = part2; awaited = attempt4; i = i; inputs_are = refl; says = says5 });
  }

  abbrev rounds5 : List (List Event)
  rounds5 = (Deliver 12 a ∷ []) ∷ rounds4

  stage5 : Stage h d 0 1 0 rounds5 sta4 ap5 to0 (octets5 ∷ octets4 ∷ octets3 ∷ octets2 ∷ octets1 ∷ frames0)
  stage5 = by_ap h d 0 1 0 t.apart rounds4 sta4 ap2 to0 (octets4 ∷ octets3 ∷ octets2 ∷ octets1 ∷ frames0) stage4 (Deliver 12 a) acts5 (Take octets4) (octets4, (stage4.were.0, (refl, refl))) row5 refl refl

  -- ---- round 16: the station installs the pairwise key by M3, and resumes the group key
  abbrev m3 : KeyMessage
  m3 = m3_message d a s (keyed_by i) 2 g 0

  abbrev keying : Keying
  keying = record { key = keys; is_session = false }

  attempt6 : attempt a sta4 ≡ Some derived
  attempt6 = refl

  heard6 : has_heard a (kind.Key M1) derived ≡ true
  heard6 = refl

  derives6 : derivation a derived ≡ Some keys
  derives6 = refl

  keying6 : m3_keying a sta4 m3 ≡ Some keying
  keying6 = m3-keyed a sta4 derived m3 keys attempt6 refl refl heard6 derives6

  counter6 : kept_counter a (chain a sta4) ≡ None
  counter6 = ap (kept_counter a) (chain_part a sta4 derived attempt6 refl)

  -- its key data
  abbrev plain6 : List ℕ
  plain6 = m3_key_data d a keys (gtk_news g 0)

  few6 : FewWrapped d a keys (gtk_news g 0)
  few6 = few_mobile (address d a) (r0kh_id d a) c.mdid (r1_name i) g is_named is_key (length-r1_name i) (octets-r1_name i) (ptk i).kek (octets-kek i)

  reads6 : Reads FtPsk octets5 (Keyed m3)
  reads6 = reads-m3 d a s (keyed_by i) 2 g 0 has_mic u.ap_whole u.sta_whole (omega arith) (length-nonce d a 2) few6

  verifies6 : verified FtPsk (ptk i).kck m3 Accepted ≡ Accepted
  verifies6 = verified-same FtPsk (ptk i).kck m3 Accepted (mic-sealed FtPsk (ptk i).kck (m3_fields d a (keyed_by i) 2 g 0) has_mic (fits-m3 d a (keyed_by i) 2 g 0 (omega arith) (length-nonce d a 2) few6))

  mine6 : (not (is_mine d s m3.header) || false) ≡ false
  mine6 = refl

  abbrev facts6 : Facts
  facts6 = record {
    requested = None;
    responded = Some (responded c.mdid (assoc_fte d a));
    unwrapped = Some plain6;
    data_ = Some (mobile_said (address d a) (r0kh_id d a) c.mdid (r1_name i) g is_named is_key (length-r1_name i) (octets-r1_name i));
    pulled = None;
    opened = None;
    unwrapped_igtk = None;
    kept = 0;
  }

  said_same : m3_further FtPsk d (Some keying) facts6 ≡ Accepted
  said_same = rw (same_bytes (rsne_octets FtPsk (Some (r1_name i))), same_bytes c.mdid, same_bytes fte, length-gtk h a 0) refl

  further6 : key_further d s sta4 a m3 M3 facts6 ≡ Accepted
  further6 = ap (λ (o : Option Keying). m3_further FtPsk d o facts6) keying6 ∙ said_same

  accepted6 : verdict d 0 s sta4 (Keyed m3) facts6 ≡ Accepted
  accepted6 = keyed-is d s a sta4 m3 facts6 Accepted mine6 u.finds_ap (m3-in d sta4 a m3 keying keying6 counter6 refl ∙ verifies6) further6 refl

  knows6 : KnowsM3 (ptk i).kek m3 facts6
  knows6 = record {
    unwrapped = (octets-kek i, mobile_wraps (address d a) (r0kh_id d a) c.mdid (r1_name i) g is_named is_key (length-r1_name i) (octets-r1_name i) (ptk i).kek);
    data_ = λ plain e. (let same : plain6 ≡ plain = cc e in subst (λ (x : List ℕ). ReadsKeyData x facts6.data_) same (mobile_says (address d a) (r0kh_id d a) c.mdid (r1_name i) g is_named is_key (length-r1_name i) (octets-r1_name i)));
  }

  response6 : response a sta4 ≡ Some octets2
  response6 = ap (λ (x : List Act). heard a kind.AssocResp x) (since_part a sta4 derived attempt6)

  -- it has the group key of its first association
  kept6 : find_key g.key (memory groups.Gtk a sta4) ≡ Some g
  kept6 = rw (same_bytes g.key) refl

  says6 : acts6 ≡ Took (Some a) octets5 (kind.Key M3) Accepted (Some seal5) ∷ Installed (One a) (Pairwise (ptk i).tk i) ∷ give_by groups.Gtk a (mac d a) g (find_key g.key (memory groups.Gtk a sta4)) ∷ Finished a i ∷ sent_m4 d s a (keyed_by i) 2 ∷ []
  says6 = ap (λ (o : Option GroupKey). Took (Some a) octets5 (kind.Key M3) Accepted (Some seal5) ∷ Installed (One a) (Pairwise (ptk i).tk i) ∷ give_by groups.Gtk a (mac d a) g o ∷ Finished a i ∷ sent_m4 d s a (keyed_by i) 2 ∷ []) (sym kept6)

  row6 : TakeRow (here d 0 s) sta4 octets5 acts6
  row6 = record {
    r = Keyed m3;
    reads = reads6;
    facts = facts6;
    knows = λ came p from.
        (let same : a ≡ p = cc (from) in (
          λ y awaited.
              (let one : keying ≡ y = some-injective keying y (sym keying6 ∙ subst (λ (x : Node). m3_keying x sta4 m3 ≡ Some y) (sym same) awaited) in
              subst (λ (x : Keying). KnowsM3 x.key.ptk.kek m3 facts6) one knows6),
          subst (λ (x : Node). IsRequested FtPsk (response x sta4) facts6.responded) same (subst (λ (o : Option (List ℕ)). IsRequested FtPsk o facts6.responded) (sym response6) (assoc_resp_body d a s 0 (assoc_resp_elements d a), reads2)),
        ));
    row = By_m3 (record { k = m3; is = refl; message_is = refl; p = a; from = u.finds_ap; accepted = accepted6; y = keying; awaited = keying6; says = says6 ∙ not-replaced a sta4 derived _ _ attempt6 refl });
  }

  abbrev rounds6 : List (List Event)
  rounds6 = (Deliver 13 s ∷ []) ∷ rounds5

  abbrev pub frames6 : List (List ℕ)
  frames6 = octets6 ∷ octets5 ∷ octets4 ∷ octets3 ∷ octets2 ∷ octets1 ∷ frames0

  stage6 : Stage h d 0 1 0 rounds6 sta6 ap5 to0 frames6
  stage6 = by_sta h d 0 1 0 t.apart rounds5 sta4 ap5 to0 (octets5 ∷ octets4 ∷ octets3 ∷ octets2 ∷ octets1 ∷ frames0) stage5 (Deliver 13 s) acts6 (Take octets5) (octets5, (stage5.were.0, (refl, refl))) row6 refl

  -- ---- round 17: the access point installs the pairwise key by M4, and puts the PMK-R0 of the new key
  abbrev m4 : KeyMessage
  m4 = m4_message d s a (keyed_by i) 2

  attempt7 : attempt s ap5 ≡ Some part5
  attempt7 = refl

  heard7 : has_heard s (kind.Key M2) part5 ≡ true
  heard7 = refl

  derives7 : derivation s part5 ≡ Some keys
  derives7 = refl

  keying7 : m4_keying s part5 ≡ Some keys
  keying7 = m4-keyed s part5 keys refl heard7 derives7

  offers7 : offered s M3 part5 ≡ 2 ∷ []
  offers7 = ap (λ (x : ℕ). x ∷ []) (reads-counter FtPsk octets5 m3 reads6)

  verifies7 : verified FtPsk (ptk i).kck m4 Accepted ≡ Accepted
  verifies7 = verified-same FtPsk (ptk i).kck m4 Accepted (mic-sealed FtPsk (ptk i).kck (m4_fields d 2) has_mic (fits-m4 d 2 (omega arith)))

  mine7 : (not (is_mine d a m4.header) || false) ≡ false
  mine7 = refl

  accepted7 : verdict d 0 a ap5 (Keyed m4) no_facts ≡ Accepted
  accepted7 = keyed-is d a s ap5 m4 no_facts Accepted mine7 u.ap_finds (m4-in d ap5 s m4 part5 keys (2 ∷ []) attempt7 keying7 offers7 refl ∙ verifies7) refl refl

  -- there is no live row of the new name, whatever that of the old one is
  none_by : (x : Bool) → cond x None (or_else (cond x (Some s) None) None) ≡ None
  none_by true = refl
  none_by false = refl

  no_row : row name ap5 ≡ None
  no_row = none_by (bytes_eq old_name name)

  abbrev put7 : List Act
  put7 = put_acts d a ap5 s keys

  says7 : acts7 ≡ m4_acts octets6 m4 s keys None put7 ++ newer_acts d a s (add (m4_acts octets6 m4 s keys None put7) ap5) keys (carried_older s ap5 (before_sent s (kind.Key M3) ap5))
  says7 = ap (λ (o : Option Node). Took (Some s) octets6 (kind.Key M4) Accepted (Some seal6) ∷ Installed (One s) (Pairwise (ptk i).tk i) ∷ Finished s i ∷ Put id name s (put_answer o 1) ∷ []) (sym no_row)

  row7 : TakeRow (here d 0 a) ap5 octets6 acts7
  row7 = record {
    r = Keyed m4;
    reads = reads-m4 d s a (keyed_by i) 2 has_mic u.sta_whole u.ap_whole (omega arith);
    facts = no_facts;
    knows = λ came p from. (tt, tt);
    row = By_m4 (record { k = m4; is = refl; message_is = refl; p = s; from = u.ap_finds; accepted = accepted7; part = part5; awaited = attempt7; x = keys; keyed = keying7; says = says7 });
  }

  pub stage7 : Stage h d 0 1 0 (anew key) sta6 ap7 to0 frames6
  stage7 = by_ap h d 0 1 0 t.apart rounds6 sta6 ap5 to0 frames6 stage6 (Deliver 14 a) acts7 (Take octets6) (octets6, (stage6.were.0, (refl, refl))) row7 refl refl

  pub associated : TimelyIsRight → HasAnew first key
  associated law = record {
    journal = stage7.journal;
    explained = stage7.explained;
    held = law h stage7.journal stage7.right;
    network = d;
    is_network = stage7.network;
    i = i;
    of_third = refl;
    psk_is = refl;
    station = at_sta h d 0 1 0 (anew key) _ _ _ _ stage7 _ (inr (inr (inr (inl refl))));
    access_point = at_ap h d 0 1 0 (anew key) _ _ _ _ stage7 _ (inr (inr (inl refl)));
    resumed = at_sta h d 0 1 0 (anew key) _ _ _ _ stage7 _ (inr (inr (inl refl)));
    put = at_ap h d 0 1 0 (anew key) _ _ _ _ stage7 _ (inl refl);
  }
