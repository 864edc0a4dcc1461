-- An association of an example that protects management frames, after any histories: from the request up to M4, with both group keys in M3.
use Rattle.std.proofs.Common.{◌≡◌, ℕ, suc, ◌+◌, ◌<◌, ◌≤◌, true, false, List, [], ◌∷◌, length, Option, Some, None, refl, sym, ap, subst, ◌∙◌, arith}
use Rattle.std.proofs.lemmas.Bool.{lt-ltb, le-ltb}
use Rattle.std.proofs.lemmas.List.{append-nil}
use Rattle.std.specs.List.{AllByRecursion}
use Rattle.std.specs.Prelude.{◌||◌, ◌++◌, cond, Bool}
use Rattle.air_frame.specs.Sent.{assoc_req_octets, assoc_resp_octets}
use Rattle.domain_base.specs.Octets.{AreOctets}
use Rattle.domain_base.specs.declared.names.Akm.TheVariants.{PskSha256}
use Rattle.domain_base.specs.declared.names.Node.TheVariants.{Ap, Sta}
use Rattle.domain_base.specs.declared.names.Node.{Node}
use Rattle.domain_base.specs.declared.names.Peer.TheVariants.{One}
use Rattle.domain_rules.proofs.Exchange.{not-replaced, length-nonce, some-injective, m3-keyed, m4-keyed, m3-in, m4-in, same_octets}
use Rattle.domain_rules.proofs.IntegrityKeys.{some_ipn_told}
use Rattle.domain_rules.proofs.KeyOctets.{octets-kek}
use Rattle.domain_rules.proofs.Parts.{chain_part}
use Rattle.domain_rules.proofs.Refused.{no_facts}
use Rattle.domain_rules.proofs.SentReads.{HasMic, assoc_req_body, assoc_resp_body, rates_said, reads-assoc_resp, m1_message, reads-m1, m2_message, m2_fields, clear-m2, reads-m2, fits-m2, m4_message, m4_fields, reads-m4, fits-m4, mic-sealed, reads-counter}
use Rattle.domain_rules.proofs.Unprotected.{reads_so}
use Rattle.domain_rules.proofs.Verdicts.{assoc_resp-in, m1-in, m2-in, secured-connect, verified-same}
use Rattle.domain_rules.specs.AccessPointKeys.{KnowsM2, m4_keying}
use Rattle.domain_rules.specs.AccessPointRows.{m4_acts, newer_acts, carried_older}
use Rattle.domain_rules.specs.Asking.{kept_counter, offered, verified}
use Rattle.domain_rules.specs.Associating.{management_verdict}
use Rattle.domain_rules.specs.Closing.{close_attempt, close_session, next_nonce}
use Rattle.domain_rules.specs.Counters.{next_counter}
use Rattle.domain_rules.specs.Facts.{Facts, ReadsKeyData}
use Rattle.domain_rules.specs.Frames.{assoc_req_elements, assoc_resp_elements, aid, in_data, m2_frame, m3_frame, m4_frame, frame_seal, sent_assoc_req, sent_assoc_resp, sent_m1, sent_m2, sent_m3, sent_m4, keyed_by, wrapped}
use Rattle.domain_rules.specs.GroupKeys.{IgtkNews, News, news, give_all, is_current, got_by}
use Rattle.domain_rules.specs.Here.{here}
use Rattle.domain_rules.specs.IntegrityKeys.{ipn_value, TellsIpn, IsIpnTold, IsIpnGot}
use Rattle.domain_rules.specs.Network.{address, mac, root, inputs, draw_end}
use Rattle.domain_rules.specs.Owing.{any_owes, current_acts, switch_acts}
use Rattle.domain_rules.specs.Reading.{KeyMessage, Managed, Keyed, Reads}
use Rattle.domain_rules.specs.Rows.{Take, TakeRow, By_assoc_req, By_assoc_resp, By_m1, By_m2, By_m3, By_m4}
use Rattle.domain_rules.specs.StationKeys.{KnowsM3, Keying, m3_keying}
use Rattle.domain_rules.specs.Verdict.{key_further, m3_further, verdict}
use Rattle.eapol_key.specs.Octets.{frame_octets}
use Rattle.eapol_key.specs.Sent.{sent_fields}
use Rattle.eapol_key.specs.declared.messages.Message.TheVariants.{M1, M2, M3, M4}
use Rattle.key_hierarchy.specs.Keys.{ptk}
use Rattle.key_hierarchy.specs.declared.inputs.Inputs.{Inputs}
use Rattle.key_wrap.specs.KeyWrap.{Wraps}
use Rattle.mac_prf.proofs.Parts.{length-mic}
use Rattle.rsn_elements.specs.Sent.{ipn_octets}
use Rattle.run_journal.specs.Acts.{Derivation, GroupKey}
use Rattle.run_journal.specs.Questions.{attempt, session, before_sent, chain, draws, add, group_keys}
use Rattle.run_journal.specs.declared.acts.Act.TheVariants.{Opened, Drew, Derived, Took, Installed, Finished}
use Rattle.run_journal.specs.declared.acts.Act.{Act}
use Rattle.run_journal.specs.declared.acts.Drawn.TheVariants.{Nonce}
use Rattle.run_journal.specs.declared.acts.GroupKind.TheVariants as groups
use Rattle.run_journal.specs.declared.acts.Key.TheVariants.{Pairwise}
use Rattle.run_journal.specs.declared.acts.Kind.TheVariants as kind
use Rattle.run_journal.specs.declared.acts.Outcome.TheVariants.{Accepted}
use Rattle.run_journal.specs.declared.acts.Seal.{Seal}
use Rattle.run_journal.specs.declared.acts.Start.TheVariants as start
use Rattle.run_journal.specs.declared.domain.Domain.{Domain}
use Rattle.run_journal.specs.declared.domain.Event.TheVariants.{Deliver}
use Rattle.run_journal.specs.declared.domain.Event.{Event}
use Rattle.example_domains.proofs.Judging.{managed-is, keyed-is}
use Rattle.example_domains.proofs.ProtectedData.{asked, reads-asked, answered, answered_spelled, both, AreCarried, data3, said3, says3, wraps3, few3, m3_fields, m3_message, fits-m3, reads-m3, key_data-read}
use Rattle.example_domains.proofs.ProtectedStages.{Stage, by_sta, by_ap, quietly}
use Rattle.example_domains.proofs.Stages.{octets_sent, sent_after}
use Rattle.example_domains.specs.Protection.{protecting}

-- the access point, and the station
abbrev pub a : Node
a = Ap 0

abbrev pub s : Node
s = Sta 0

-- the newest group key does not come into use where it is current already
pub no_switch : (d : Domain) (h : List Act) → is_current groups.Gtk h ≡ true → switch_acts d 0 h ≡ []
no_switch d h current = ap (λ (b : Bool). cond (b || any_owes groups.Gtk (length d.stas) h) [] (current_acts d a h)) current

pub stays : (d : Domain) (g h : List Act) → is_current groups.Gtk h ≡ true → g ++ [] ≡ g ++ switch_acts d 0 h
stays d g h current = ap (λ (l : List Act). g ++ l) (sym (no_switch d h current))

-- an act leaves the receive counter of an IGTK as it is
abbrev pub Keeps : List ℕ → ℕ → ℕ → Act → Type 0
Keeps key id n e = (heard : ℕ) → got_by groups.Igtk a key id e heard n ≡ n

pub got_more : (key : List ℕ) (id n : ℕ) (g h : List Act) → AllByRecursion (Keeps key id n) g → IsIpnGot a key id h n → IsIpnGot a key id (add g h) n
got_more key id n [] h all was = was
got_more key id n (e ∷ g) h all was = let heard = some_ipn_told a h in got_more key id n g (e ∷ h) all.1 (heard.0, (heard.1, (n, (was, sym (all.0 heard.0)))))

-- what the histories before it have: the group keys that M3 carries, and what the station does with them
pub record Begins (d : Domain) (sta0 ap0 : List Act) (g : GroupKey) (rsc : ℕ) (k : IgtkNews) (one two : Act) : Type 0 where
  pub ap_low : 0 + draws ap0 < draw_end
  pub none : attempt s ap0 ≡ None
  pub current : is_current groups.Gtk ap0 ≡ true
  pub carries : news d ap0 ≡ both g rsc k
  pub gives : give_all d a (mac d a) (record { gtk = g; igtk = k.igtk }) sta0 ≡ one ∷ two ∷ []
  pub are : AreCarried g k
  pub one_quiet : octets_sent one ≡ None
  pub two_quiet : octets_sent two ≡ None

module _ (seed ssid psk : List ℕ) (snonce : List ℕ) (size : length snonce ≡ 32) (sta0 ap0 : List Act) (g : GroupKey) (rsc : ℕ) (k : IgtkNews) (one two : Act) (w : Begins (protecting seed ssid psk) sta0 ap0 g rsc k one two) where
  abbrev d : Domain
  d = protecting seed ssid psk

  abbrev pub anonce : List ℕ
  anonce = next_nonce d 0 a ap0

  abbrev pub i : Inputs
  i = inputs d (root d s) s a snonce anonce

  abbrev pub key : Derivation
  key = record { inputs = i; ptk = ptk i }

  abbrev pub octets1 : List ℕ
  octets1 = assoc_req_octets (address d a) (address d s) (address d a) (assoc_req_elements d)

  abbrev pub octets2 : List ℕ
  octets2 = assoc_resp_octets (address d s) (address d a) (address d a) 0 (aid s) (assoc_resp_elements d a)

  abbrev pub octets3 : List ℕ
  octets3 = in_data d a s (frame_octets (sent_fields M1 d.akm 1 anonce 0 []))

  abbrev pub octets4 : List ℕ
  octets4 = in_data d s a (m2_frame d (keyed_by i) 1 [])

  abbrev pub octets5 : List ℕ
  octets5 = in_data d a s (m3_frame d a (keyed_by i) 2 (both g rsc k))

  abbrev pub octets6 : List ℕ
  octets6 = in_data d s a (m4_frame d (keyed_by i) 2)

  abbrev seal4 : Seal
  seal4 = frame_seal (ptk i).kck (m2_frame d (keyed_by i) 1 [])

  abbrev seal5 : Seal
  seal5 = frame_seal (ptk i).kck (m3_frame d a (keyed_by i) 2 (both g rsc k))

  abbrev seal6 : Seal
  seal6 = frame_seal (ptk i).kck (m4_frame d (keyed_by i) 2)

  abbrev acts2 : List Act
  acts2 = Took (Some s) octets1 kind.AssocReq Accepted None ∷ Opened s start.Connect ∷ Drew (Nonce anonce) ∷ sent_assoc_resp d a s ∷ sent_m1 d a s 1 anonce ∷ []

  abbrev acts3 : List Act
  acts3 = Took (Some a) octets2 kind.AssocResp Accepted None ∷ []

  abbrev acts4 : List Act
  acts4 = Took (Some a) octets3 (kind.Key M1) Accepted None ∷ Derived a i (ptk i) ∷ sent_m2 d s a (keyed_by i) 1 [] ∷ []

  abbrev acts5 : List Act
  acts5 = Took (Some s) octets4 (kind.Key M2) Accepted (Some seal4) ∷ Derived s i (ptk i) ∷ sent_m3 d a s (keyed_by i) 2 (both g rsc k) ∷ []

  abbrev acts6 : List Act
  acts6 = Took (Some a) octets5 (kind.Key M3) Accepted (Some seal5) ∷ Installed (One a) (Pairwise (ptk i).tk i) ∷ one ∷ two ∷ Finished a i ∷ sent_m4 d s a (keyed_by i) 2 ∷ []

  abbrev acts7_by : Option Derivation → List Act
  acts7_by old = Took (Some s) octets6 (kind.Key M4) Accepted (Some seal6) ∷ close_session s old ++ Installed (One s) (Pairwise (ptk i).tk i) ∷ Finished s i ∷ []

  abbrev acts7 : List Act
  acts7 = acts7_by (session s ap0)

  -- the histories, and the parts of the attempts
  abbrev pub sta1 : List Act
  sta1 = sent_assoc_req d s a ∷ Drew (Nonce snonce) ∷ Opened a start.Connect ∷ sta0

  abbrev sta3 : List Act
  sta3 = add acts3 sta1

  abbrev pub sta4 : List Act
  sta4 = add acts4 sta3

  abbrev pub sta6 : List Act
  sta6 = add acts6 sta4

  abbrev ap2 : List Act
  ap2 = add acts2 ap0

  abbrev ap5 : List Act
  ap5 = add acts5 ap2

  abbrev pub ap7 : List Act
  ap7 = add acts7 ap5

  abbrev asking : List Act
  asking = sent_assoc_req d s a ∷ Drew (Nonce snonce) ∷ Opened a start.Connect ∷ []

  abbrev joined : List Act
  joined = add acts3 asking

  abbrev derived : List Act
  derived = add acts4 joined

  abbrev part2 : List Act
  part2 = sent_m1 d a s 1 anonce ∷ sent_assoc_resp d a s ∷ Drew (Nonce anonce) ∷ Opened s start.Connect ∷ []

  abbrev part5 : List Act
  part5 = add acts5 part2

  has_mic : HasMic PskSha256
  has_mic = length-mic PskSha256

  octets-key : AreOctets (ptk i).kek
  octets-key = octets-kek i

  length-anonce : length anonce ≡ 32
  length-anonce = length-nonce d a (0 + draws ap0)

  -- ---- what the frames are

  pub reads1 : Reads PskSha256 octets1 (Managed (assoc_req_body d s a) (asked ssid))
  reads1 = reads-asked seed ssid psk s a refl refl

  reads2 : Reads PskSha256 octets2 (Managed (assoc_resp_body d a s 0 (assoc_resp_elements d a)) rates_said)
  reads2 = reads-assoc_resp d a s (λ e. cc e) refl refl (omega arith)

  abbrev m1 : KeyMessage
  m1 = m1_message d a s 1 anonce

  reads3 : Reads PskSha256 octets3 (Keyed m1)
  reads3 = reads-m1 d a s 1 anonce refl refl (omega arith) length-anonce

  abbrev m2 : KeyMessage
  m2 = m2_message d s a (keyed_by i) 1 []

  reads4 : Reads PskSha256 octets4 (Keyed m2)
  reads4 = reads-m2 d s a (keyed_by i) 1 [] has_mic refl refl (omega arith) size (omega arith)

  abbrev pub m3 : KeyMessage
  m3 = m3_message d a s (keyed_by i) 2 (both g rsc k)

  few5 : length (wrapped (ptk i).kek (data3 g k w.are)) ≤ 65440
  few5 = few3 g k w.are (ptk i).kek octets-key

  pub reads5 : Reads PskSha256 octets5 (Keyed m3)
  reads5 = reads-m3 d a s (keyed_by i) 2 (both g rsc k) has_mic refl refl (omega arith) length-anonce few5

  abbrev m4 : KeyMessage
  m4 = m4_message d s a (keyed_by i) 2

  reads6 : Reads PskSha256 octets6 (Keyed m4)
  reads6 = reads-m4 d s a (keyed_by i) 2 has_mic refl refl (omega arith)

  -- what M3 tells of the IGTK
  pub tells5 : TellsIpn (ptk i).kek octets5 (ipn_value (ipn_octets k.ipn))
  tells5 = record {
    plain = Some (data3 g k w.are);
    unwrapped = (octets-key, subst (λ (x : List ℕ). Wraps (ptk i).kek (data3 g k w.are) x) (sym (key_data-read PskSha256 octets5 m3 reads5)) (wraps3 g k w.are (ptk i).kek));
    data_ = Some (said3 g k w.are);
    reads = says3 g k w.are;
    is = refl;
  }

  -- what the station has as it takes the group keys
  abbrev taking : List Act
  taking = Installed (One a) (Pairwise (ptk i).tk i) ∷ Took (Some a) octets5 (kind.Key M3) Accepted (Some seal5) ∷ sta4

  abbrev pub heard : ℕ
  heard = ipn_value (ipn_octets k.ipn)

  told5 : IsIpnTold a taking heard
  told5 = tells5

  -- the receive counter of an IGTK after it, where the second key alone moves it
  pub got6 : (igtk : List ℕ) (id n m : ℕ) → IsIpnGot a igtk id sta0 n → Keeps igtk id n one → (IsIpnTold a taking heard → IsIpnTold a (one ∷ taking) heard) → m ≡ got_by groups.Igtk a igtk id two heard n → IsIpnGot a igtk id sta6 m
  got6 igtk id n m was keeps goes is =
      let asks = got_more igtk id n (Opened a start.Connect ∷ Drew (Nonce snonce) ∷ sent_assoc_req d s a ∷ []) sta0 (λ x. refl, (λ x. refl, (λ x. refl, tt))) was in
      let joins = got_more igtk id n acts3 sta1 (λ x. refl, tt) asks in
      let derives = got_more igtk id n acts4 sta3 (λ x. refl, (λ x. refl, (λ x. refl, tt))) joins in
      let takes = got_more igtk id n (Took (Some a) octets5 (kind.Key M3) Accepted (Some seal5) ∷ Installed (One a) (Pairwise (ptk i).tk i) ∷ one ∷ []) sta4 (λ x. refl, (λ x. refl, (keeps, tt))) derives in
      got_more igtk id m (Finished a i ∷ sent_m4 d s a (keyed_by i) 2 ∷ []) (two ∷ one ∷ taking) (λ x. refl, (λ x. refl, tt)) (heard, (goes told5, (n, (takes, is))))

  -- ---- the access point answers with its response and M1
  module _ (rounds0 : List (List Event)) (frames0 : List (List ℕ)) (st : Stage d rounds0 sta1 ap0 (octets1 ∷ frames0)) where
    abbrev number : ℕ
    number = length frames0

    awaited2 : management_verdict d (0 + draws ap0) a ap0 s kind.AssocReq (assoc_req_body d s a) (asked ssid) ≡ Accepted
    awaited2 = rw (lt-ltb (0 + draws ap0) draw_end w.ap_low) refl

    accepted2 : verdict d 0 a ap0 (Managed (assoc_req_body d s a) (asked ssid)) no_facts ≡ Accepted
    accepted2 = managed-is d a s ap0 (assoc_req_body d s a) (asked ssid) (same_octets d a) refl refl no_facts Accepted Accepted Accepted awaited2 refl refl

    says2 : acts2 ≡ Took (Some s) octets1 kind.AssocReq Accepted None ∷ close_attempt s (attempt s ap0) ++ Opened s start.Connect ∷ Drew (Nonce anonce) ∷ sent_assoc_resp d a s ∷ sent_m1 d a s 1 anonce ∷ []
    says2 = ap (λ (o : Option (List Act)). Took (Some s) octets1 kind.AssocReq Accepted None ∷ close_attempt s o ++ Opened s start.Connect ∷ Drew (Nonce anonce) ∷ sent_assoc_resp d a s ∷ sent_m1 d a s 1 anonce ∷ []) (sym w.none)

    row2 : TakeRow (here d 0 a) ap0 octets1 acts2
    row2 = record {
      r = Managed (assoc_req_body d s a) (asked ssid);
      reads = reads_so d octets1 (Managed (assoc_req_body d s a) (asked ssid)) refl reads1;
      facts = no_facts;
      knows = λ came p from. tt;
      row = By_assoc_req (record { b = assoc_req_body d s a; e = asked ssid; is = refl; kind_is = refl; p = s; from = refl; accepted = accepted2; says = says2 });
    }

    abbrev rounds2 : List (List Event)
    rounds2 = (Deliver (suc number) a ∷ []) ∷ rounds0

    stage2 : Stage d rounds2 sta1 ap2 (octets3 ∷ octets2 ∷ octets1 ∷ frames0)
    stage2 = by_ap d rounds0 sta1 ap0 (octets1 ∷ frames0) st (Deliver (suc number) a) (Take octets1) acts2 acts2 (octets1, (st.were.0, (refl, refl))) row2 (stays d acts2 ap2 w.current)

    -- ---- the station is associated
    attempt1 : attempt a sta1 ≡ Some asking
    attempt1 = refl

    accepted3 : verdict d 0 s sta1 (Managed (assoc_resp_body d a s 0 (assoc_resp_elements d a)) rates_said) no_facts ≡ Accepted
    accepted3 = managed-is d s a sta1 (assoc_resp_body d a s 0 (assoc_resp_elements d a)) rates_said (same_octets d s) refl refl no_facts Accepted Accepted Accepted
        (assoc_resp-in d sta1 a (assoc_resp_body d a s 0 (assoc_resp_elements d a)) rates_said asking false attempt1 refl refl) refl refl

    row3 : TakeRow (here d 0 s) sta1 octets2 acts3
    row3 = record {
      r = Managed (assoc_resp_body d a s 0 (assoc_resp_elements d a)) rates_said;
      reads = reads_so d octets2 (Managed (assoc_resp_body d a s 0 (assoc_resp_elements d a)) rates_said) refl reads2;
      facts = no_facts;
      knows = λ came p from. tt;
      row = By_assoc_resp (record { b = assoc_resp_body d a s 0 (assoc_resp_elements d a); e = rates_said; is = refl; kind_is = refl; p = a; from = refl; accepted = accepted3; says = refl });
    }

    abbrev rounds3 : List (List Event)
    rounds3 = (Deliver (suc (suc number)) s ∷ []) ∷ rounds2

    stage3 : Stage d rounds3 sta3 ap2 (octets3 ∷ octets2 ∷ octets1 ∷ frames0)
    stage3 = by_sta d rounds2 sta1 ap2 (octets3 ∷ octets2 ∷ octets1 ∷ frames0) stage2 (Deliver (suc (suc number)) s) (Take octets2) acts3 (octets2, (stage2.were.1.0, (refl, refl))) row3

    -- ---- the station derives the key by M1 and answers with M2
    attempt3 : attempt a sta3 ≡ Some joined
    attempt3 = refl

    counter4 : kept_counter a (chain a sta3) ≡ None
    counter4 = ap (kept_counter a) (chain_part a sta3 joined attempt3 refl)

    accepted4 : verdict d 0 s sta3 (Keyed m1) no_facts ≡ Accepted
    accepted4 = keyed-is d s a sta3 m1 no_facts Accepted refl refl (m1-in d (0 + draws sta3) sta3 a m1 joined true None attempt3 refl refl counter4) refl refl

    row4 : TakeRow (here d 0 s) sta3 octets3 acts4
    row4 = record {
      r = Keyed m1;
      reads = reads_so d octets3 (Keyed m1) refl reads3;
      facts = no_facts;
      knows = λ came p from. (tt, tt);
      row = By_m1 (record { k = m1; is = refl; message_is = refl; p = a; from = refl; accepted = accepted4; part = joined; awaited = attempt3; i = i; inputs_are = refl; says = refl });
    }

    abbrev rounds4 : List (List Event)
    rounds4 = (Deliver (suc (suc (suc number))) s ∷ []) ∷ rounds3

    stage4 : Stage d rounds4 sta4 ap2 (octets4 ∷ octets3 ∷ octets2 ∷ octets1 ∷ frames0)
    stage4 = by_sta d rounds3 sta3 ap2 (octets3 ∷ octets2 ∷ octets1 ∷ frames0) stage3 (Deliver (suc (suc (suc number))) s) (Take octets3) acts4 (octets3, (stage3.were.0, (refl, refl))) row4

    -- ---- the access point derives it by M2
    attempt4 : attempt s ap2 ≡ Some part2
    attempt4 = refl

    offers5 : offered s M1 part2 ≡ 1 ∷ []
    offers5 = ap (λ (x : ℕ). x ∷ []) (reads-counter PskSha256 octets3 m1 reads3)

    verifies5 : verified PskSha256 (ptk i).kck m2 Accepted ≡ Accepted
    verifies5 = verified-same PskSha256 (ptk i).kck m2 Accepted (mic-sealed PskSha256 (ptk i).kck (m2_fields d (keyed_by i) 1 []) has_mic (fits-m2 d (keyed_by i) 1 [] (omega arith) size (omega arith)))

    abbrev facts5 : Facts
    facts5 = record { requested = Some (asked ssid); responded = None; unwrapped = None; data_ = Some answered; pulled = None; opened = None; unwrapped_igtk = None; kept = 0 }

    further5 : key_further d a ap2 s m2 M2 facts5 ≡ Accepted
    further5 = refl

    accepted5 : verdict d 0 a ap2 (Keyed m2) facts5 ≡ Accepted
    accepted5 = keyed-is d a s ap2 m2 facts5 Accepted refl refl (m2-in d a ap2 s m2 part2 false (1 ∷ []) anonce attempt4 refl refl (secured-connect d part2 m2 refl (clear-m2 d s a (keyed_by i) 1 [])) offers5 refl ∙ verifies5) further5 refl

    knows5 : KnowsM2 PskSha256 ap2 s m2 facts5
    knows5 = record { requested = (assoc_req_body d s a, reads1); data_ = answered_spelled }

    says5 : acts5 ≡ Took (Some s) octets4 (kind.Key M2) Accepted (Some seal4) ∷ Derived s i (ptk i) ∷ sent_m3 d a s (keyed_by i) (next_counter s ap2 part2) (news d ap2) ∷ []
    says5 = ap (λ (x : News). Took (Some s) octets4 (kind.Key M2) Accepted (Some seal4) ∷ Derived s i (ptk i) ∷ sent_m3 d a s (keyed_by i) 2 x ∷ []) (sym w.carries)

    row5 : TakeRow (here d 0 a) ap2 octets4 acts5
    row5 = record {
      r = Keyed m2;
      reads = reads_so d octets4 (Keyed m2) refl reads4;
      facts = facts5;
      knows = λ came p from. (let same : s ≡ p = cc from in (subst (λ (x : Node). KnowsM2 PskSha256 ap2 x m2 facts5) same knows5, tt));
      row = By_m2 (record { k = m2; is = refl; message_is = refl; p = s; from = refl; accepted = accepted5; part = part2; awaited = attempt4; i = i; inputs_are = refl; says = says5 });
    }

    abbrev rounds5 : List (List Event)
    rounds5 = (Deliver (suc (suc (suc (suc number)))) a ∷ []) ∷ rounds4

    stage5 : Stage d rounds5 sta4 ap5 (octets5 ∷ octets4 ∷ octets3 ∷ octets2 ∷ octets1 ∷ frames0)
    stage5 = by_ap d rounds4 sta4 ap2 (octets4 ∷ octets3 ∷ octets2 ∷ octets1 ∷ frames0) stage4 (Deliver (suc (suc (suc (suc number)))) a) (Take octets4) acts5 acts5 (octets4, (stage4.were.0, (refl, refl))) row5 (stays d acts5 ap5 w.current)

    -- ---- the station installs the pairwise key by M3, and takes both group keys
    abbrev keying : Keying
    keying = record { key = key; is_session = false }

    attempt6 : attempt a sta4 ≡ Some derived
    attempt6 = refl

    keying6 : m3_keying a sta4 m3 ≡ Some keying
    keying6 = m3-keyed a sta4 derived m3 key attempt6 refl refl refl refl

    counter6 : kept_counter a (chain a sta4) ≡ None
    counter6 = ap (kept_counter a) (chain_part a sta4 derived attempt6 refl)

    verifies6 : verified PskSha256 (ptk i).kck m3 Accepted ≡ Accepted
    verifies6 = verified-same PskSha256 (ptk i).kck m3 Accepted
        (mic-sealed PskSha256 (ptk i).kck (m3_fields d a s (keyed_by i) 2 (both g rsc k)) has_mic (fits-m3 d a s (keyed_by i) 2 (both g rsc k) (omega arith) length-anonce few5))

    abbrev facts6 : Facts
    facts6 = record { requested = None; responded = None; unwrapped = Some (data3 g k w.are); data_ = Some (said3 g k w.are); pulled = None; opened = None; unwrapped_igtk = None; kept = 0 }

    said_same : m3_further PskSha256 d (Some keying) facts6 ≡ Accepted
    said_same = rw (w.are.gtk.size, w.are.other, w.are.size, w.are.one_of) refl

    further6 : key_further d s sta4 a m3 M3 facts6 ≡ Accepted
    further6 = ap (λ (o : Option Keying). m3_further PskSha256 d o facts6) keying6 ∙ said_same

    accepted6 : verdict d 0 s sta4 (Keyed m3) facts6 ≡ Accepted
    accepted6 = keyed-is d s a sta4 m3 facts6 Accepted refl refl (m3-in d sta4 a m3 keying keying6 counter6 refl ∙ verifies6) further6 refl

    knows6 : KnowsM3 (ptk i).kek m3 facts6
    knows6 = record {
      unwrapped = (octets-key, wraps3 g k w.are (ptk i).kek);
      data_ = λ plain e. (let same : data3 g k w.are ≡ plain = cc e in subst (λ (x : List ℕ). ReadsKeyData x facts6.data_) same (says3 g k w.are));
    }

    says6 : acts6 ≡ Took (Some a) octets5 (kind.Key M3) Accepted (Some seal5) ∷ Installed (One a) (Pairwise (ptk i).tk i) ∷ (give_all d a (mac d a) (record { gtk = g; igtk = k.igtk }) sta0 ++ Finished a i ∷ sent_m4 d s a (keyed_by i) 2 ∷ [])
    says6 = ap (λ (l : List Act). Took (Some a) octets5 (kind.Key M3) Accepted (Some seal5) ∷ Installed (One a) (Pairwise (ptk i).tk i) ∷ (l ++ Finished a i ∷ sent_m4 d s a (keyed_by i) 2 ∷ [])) (sym w.gives)

    row6 : TakeRow (here d 0 s) sta4 octets5 acts6
    row6 = record {
      r = Keyed m3;
      reads = reads_so d octets5 (Keyed m3) refl reads5;
      facts = facts6;
      knows = λ came p from.
          (let same : a ≡ p = cc from in (
            λ y awaited.
                (let one_key : keying ≡ y = some-injective keying y (sym keying6 ∙ subst (λ (x : Node). m3_keying x sta4 m3 ≡ Some y) (sym same) awaited) in
                subst (λ (x : Keying). KnowsM3 x.key.ptk.kek m3 facts6) one_key knows6),
            tt,
          ));
      row = By_m3 (record { k = m3; is = refl; message_is = refl; p = a; from = refl; accepted = accepted6; y = keying; awaited = keying6; says = says6 ∙ not-replaced a sta4 derived _ _ attempt6 refl });
    }

    abbrev rounds6 : List (List Event)
    rounds6 = (Deliver (suc (suc (suc (suc (suc number))))) s ∷ []) ∷ rounds5

    abbrev pub frames6 : List (List ℕ)
    frames6 = octets6 ∷ octets5 ∷ octets4 ∷ octets3 ∷ octets2 ∷ octets1 ∷ frames0

    stage6 : Stage d rounds6 sta6 ap5 frames6
    stage6 = quietly d rounds6 sta6 ap5 (octets5 ∷ octets4 ∷ octets3 ∷ octets2 ∷ octets1 ∷ frames0) one two octets6 w.one_quiet w.two_quiet
        (by_sta d rounds5 sta4 ap5 (octets5 ∷ octets4 ∷ octets3 ∷ octets2 ∷ octets1 ∷ frames0) stage5 (Deliver (suc (suc (suc (suc (suc number))))) s) (Take octets5) acts6 (octets5, (stage5.were.0, (refl, refl))) row6)

    -- ---- the access point installs the pairwise key by M4
    attempt7 : attempt s ap5 ≡ Some part5
    attempt7 = refl

    keying7 : m4_keying s part5 ≡ Some key
    keying7 = m4-keyed s part5 key refl refl refl

    offers7 : offered s M3 part5 ≡ 2 ∷ []
    offers7 = ap (λ (x : ℕ). x ∷ []) (reads-counter PskSha256 octets5 m3 reads5)

    verifies7 : verified PskSha256 (ptk i).kck m4 Accepted ≡ Accepted
    verifies7 = verified-same PskSha256 (ptk i).kck m4 Accepted (mic-sealed PskSha256 (ptk i).kck (m4_fields d 2) has_mic (fits-m4 d 2 (omega arith)))

    accepted7 : verdict d 0 a ap5 (Keyed m4) no_facts ≡ Accepted
    accepted7 = keyed-is d a s ap5 m4 no_facts Accepted refl refl (m4-in d ap5 s m4 part5 key (2 ∷ []) attempt7 keying7 offers7 refl ∙ verifies7) refl refl

    -- M3 carried the newest group key
    not_older : carried_older s ap5 (before_sent s (kind.Key M3) ap5) ≡ false
    not_older = le-ltb (length (group_keys groups.Gtk ap0)) (length (group_keys groups.Gtk ap0)) (omega arith)

    says7 : acts7 ≡ m4_acts octets6 m4 s key (session s ap0) [] ++ newer_acts d a s (add (m4_acts octets6 m4 s key (session s ap0) []) ap5) key (carried_older s ap5 (before_sent s (kind.Key M3) ap5))
    says7 = sym (append-nil acts7) ∙ ap (λ (b : Bool). acts7 ++ newer_acts d a s (add acts7 ap5) key b) (sym not_older)

    row7 : TakeRow (here d 0 a) ap5 octets6 acts7
    row7 = record {
      r = Keyed m4;
      reads = reads_so d octets6 (Keyed m4) refl reads6;
      facts = no_facts;
      knows = λ came p from. (tt, tt);
      row = By_m4 (record { k = m4; is = refl; message_is = refl; p = s; from = refl; accepted = accepted7; part = part5; awaited = attempt7; x = key; keyed = keying7; says = says7 });
    }

    current7 : (old : Option Derivation) → is_current groups.Gtk (add (acts7_by old) ap5) ≡ true
    current7 None = w.current
    current7 (Some x) = w.current

    abbrev pub rounds7 : List (List Event)
    rounds7 = (Deliver (suc (suc (suc (suc (suc (suc number)))))) a ∷ []) ∷ rounds6

    -- it sends nothing
    none7 : (old : Option Derivation) → sent_after (acts7_by old) frames6 ≡ frames6
    none7 None = refl
    none7 (Some x) = refl

    pub stage7 : Stage d rounds7 sta6 ap7 frames6
    stage7 = subst (λ (f : List (List ℕ)). Stage d rounds7 sta6 ap7 f) (none7 (session s ap0))
        (by_ap d rounds6 sta6 ap5 frames6 stage6 (Deliver (suc (suc (suc (suc (suc (suc number)))))) a) (Take octets6) acts7 acts7 (octets6, (stage6.were.0, (refl, refl))) row7 (sym (append-nil acts7) ∙ stays d acts7 ap7 (current7 (session s ap0))))
