-- The rounds of an example with suite 4 that protects management frames, in which a station roams: the response brings both group keys of
-- the other access point.
use Rattle.std.proofs.Common.{◌≡◌, ℕ, true, false, List, [], ◌∷◌, length, Option, Some, None, refl, sym, ap, subst, ◌∙◌, arith, inl, inr}
use Rattle.domain_base.specs.declared.names.Akm.TheVariants.{FtPsk}
use Rattle.domain_base.specs.declared.names.Node.{Node}
use Rattle.domain_base.specs.declared.names.Peer.TheVariants.{One}
use Rattle.domain_rules.proofs.Exchange.{length-nonce, length-gtk, octets-gtk, same_octets}
use Rattle.domain_rules.proofs.KeyOctets.{octets-kek}
use Rattle.domain_rules.proofs.Parts.{same-refl}
use Rattle.domain_rules.proofs.Refused.{no_facts}
use Rattle.domain_rules.proofs.Verdicts.{management-from}
use Rattle.domain_rules.specs.Asking.{has_heard}
use Rattle.domain_rules.specs.Facts.{Facts}
use Rattle.domain_rules.specs.FastTransition.{r1_name, no_nonce, plain_fte, single, to_unwrap, igtk_to_unwrap}
use Rattle.domain_rules.specs.GroupKeys.{IgtkNews, find_key, memory, give_by}
use Rattle.domain_rules.specs.Here.{here}
use Rattle.domain_rules.specs.Network.{address, mac}
use Rattle.domain_rules.specs.Reading.{Management, Managed, Reads}
use Rattle.domain_rules.specs.Rows as event
use Rattle.domain_rules.specs.Rows.{Take, TakeRow, By_ft_req, By_ft_resp, By_re_req, By_re_resp}
use Rattle.domain_rules.specs.TransitionFrames.{sent_ft_resp, sent_re_resp}
use Rattle.domain_rules.specs.TransitionKeys.{Transition, transition, re_resp_keying, re_resp_seal, KnowsGtk}
use Rattle.domain_rules.specs.TransitionRows.{RoamRow, Asks}
use Rattle.domain_rules.specs.Verdict.{management_sender, verdict}
use Rattle.key_hierarchy.proofs.Lengths.{length-pmk_r0_name}
use Rattle.domain_base.specs.Octets.{AreOctets}
use Rattle.key_hierarchy.specs.FastTransition.{ft_ptk}
use Rattle.key_hierarchy.specs.Sizes.{IsSsid}
use Rattle.key_hierarchy.specs.Keys.{ptk}
use Rattle.key_hierarchy.specs.declared.answers.PullAnswer.TheVariants.{Found}
use Rattle.key_hierarchy.specs.declared.fast_transition.PmkR1.{PmkR1}
use Rattle.key_hierarchy.specs.declared.inputs.Inputs.{Inputs}
use Rattle.key_hierarchy.specs.declared.inputs.Ptk.{Ptk}
use Rattle.rsn_elements.specs.Elements.{ElementFields}
use Rattle.run_journal.specs.Acts.{Derivation, GroupKey}
use Rattle.run_journal.specs.declared.acts.GroupKind.TheVariants as groups
use Rattle.run_journal.specs.Holders.{Look, look}
use Rattle.run_journal.specs.Questions.{attempt, derivation}
use Rattle.run_journal.specs.declared.acts.Act.TheVariants.{Opened, Closed, Drew, Derived, Took, Looked, Installed, Finished}
use Rattle.run_journal.specs.declared.acts.Act.{Act}
use Rattle.run_journal.specs.declared.acts.Drawn.TheVariants.{Nonce}
use Rattle.run_journal.specs.declared.acts.Key.TheVariants.{Pairwise}
use Rattle.run_journal.specs.declared.acts.Kind.TheVariants as kind
use Rattle.run_journal.specs.declared.acts.Outcome.TheVariants.{Accepted}
use Rattle.run_journal.specs.declared.acts.Part.TheVariants.{Session}
use Rattle.run_journal.specs.declared.acts.Seal.{Seal}
use Rattle.run_journal.specs.declared.acts.Start.TheVariants as start
use Rattle.run_journal.specs.declared.domain.Domain.{Domain}
use Rattle.run_journal.specs.declared.domain.Event.TheVariants.{Roam, Deliver}
use Rattle.run_journal.specs.declared.domain.Event.{Event}
use Rattle.example_domains.proofs.ProtectedMobile.{stage7}
use Rattle.example_domains.proofs.Elements.{same_bytes}
use Rattle.example_domains.proofs.PairNetwork.{pair-can_roam}
use Rattle.example_domains.proofs.Judging.{managed-is}
use Rattle.example_domains.proofs.LookedUp.{looked_elsewhere}
use Rattle.example_domains.proofs.Moments.{stands_in, LooksRight}
use Rattle.example_domains.proofs.ProtectedActs as w
use Rattle.example_domains.proofs.ProtectedData.{AreCarried}
use Rattle.example_domains.proofs.ProtectedTransition.{guarded, told, response_fte, reads-ft_req, reads-ft_resp, re_req_sealed, reads-re_req, re_resp_sealed, reads-re_resp}
use Rattle.example_domains.proofs.Stages.{Stage, TimelyIsRight, by_sta, by_to, looks_to, at_sta, at_to}
use Rattle.example_domains.proofs.TransitionReads.{ft_req_of, ft_resp_of, re_req_of, re_resp_of}
use Rattle.example_domains.proofs.ProtectedVerdicts.{ft_req-first, ft_req-found, ft_resp-first, re_req-first, re_req-further, re_req-seal, judged-attempt, re_resp-first, re_resp-seal, re_resp-further, re_resp-knows}
use Rattle.example_domains.proofs.Transitions.{ptk_of_r1, transition-of, re_resp-keyed}
use Rattle.example_domains.proofs.Trio.{IsTrio, trio}
use Rattle.example_domains.specs.ProtectedRoaming.{protecting_pair, protected_roaming, HasProtectedRoaming}
use Rattle.example_domains.specs.Roaming.{association}

module _ (c : Domain) (k l m : ℕ) (t : IsTrio (guarded c) k l m) where
  abbrev d : Domain
  d = w.d c k l m

  abbrev a : Node
  a = w.a c k l m

  abbrev b : Node
  b = w.b c k l m

  abbrev s : Node
  s = w.s c k l m

  abbrev id : List ℕ
  id = w.id c k l m

  abbrev name : List ℕ
  name = w.name c k l m

  abbrev r1 : PmkR1
  r1 = w.r1 c k l m

  abbrev i : Inputs
  i = w.i2 c k l m

  abbrev key : Derivation
  key = w.key2 c k l m

  abbrev g : GroupKey
  g = w.g2 c k l m

  abbrev j : GroupKey
  j = w.j2 c k l m

  abbrev k2 : IgtkNews
  k2 = w.k2 c k l m

  abbrev snonce : List ℕ
  snonce = w.snonce2 c k l m

  abbrev anonce : List ℕ
  anonce = w.anonce2 c k l m

  abbrev octets7 : List ℕ
  octets7 = w.octets7 c k l m

  abbrev octets8 : List ℕ
  octets8 = w.octets8 c k l m

  abbrev octets9 : List ℕ
  octets9 = w.octets9 c k l m

  abbrev octets10 : List ℕ
  octets10 = w.octets10 c k l m

  abbrev seal9 : Seal
  seal9 = w.seal9 c k l m

  abbrev seal10 : Seal
  seal10 = w.seal10 c k l m

  abbrev sta6 : List Act
  sta6 = w.sta6 c k l m

  abbrev sta8 : List Act
  sta8 = w.sta8 c k l m

  abbrev sta10 : List Act
  sta10 = w.sta10 c k l m

  abbrev sta12 : List Act
  sta12 = w.sta12 c k l m

  abbrev ap7 : List Act
  ap7 = w.ap7 c k l m

  abbrev to0 : List Act
  to0 = w.to0 c k l m

  abbrev to9 : List Act
  to9 = w.to9 c k l m

  abbrev to11 : List Act
  to11 = w.to11 c k l m

  abbrev frames7 : List (List ℕ)
  frames7 = w.frames7 c k l m

  are : AreCarried g k2
  are = record {
    gtk = record { octets = octets-gtk d b 0; size = length-gtk d b 0; low = omega arith };
    other = refl;
    octets = octets-gtk d b 1;
    size = length-gtk d b 1;
    low = omega arith;
    one_of = refl;
    id_octets = refl;
    number_octets = refl;
  }

  -- ---- round 8: the station asks access point l
  abbrev rounds7 : List (List Event)
  rounds7 = association k m

  abbrev rounds8 : List (List Event)
  rounds8 = (Roam m l ∷ []) ∷ rounds7

  row8 : RoamRow (here d 0 s) sta6 b (w.acts8 c k l m)
  row8 = Asks refl a refl t.apart.other (omega arith) refl

  pub stage8 : Stage d d k l m rounds8 sta8 ap7 to0 (octets7 ∷ frames7)
  stage8 = by_sta d d k l m t.apart rounds7 sta6 ap7 to0 frames7 (stage7 c k l m t) (Roam m l) (w.acts8 c k l m) (event.Roam l) (refl, refl) row8 refl

  -- ---- round 9: the access point looks the key up, and answers
  abbrev body7 : Management
  body7 = ft_req_of d s b (w.root c k l m) snonce

  abbrev said7 : ElementFields
  said7 = told name c.mdid (plain_fte no_nonce snonce None id)

  reads7 : Reads FtPsk octets7 (Managed body7 said7)
  reads7 = reads-ft_req c s b (w.root c k l m) snonce t.sta_whole t.to_whole t.mdid (length-nonce d s 1) t.holder

  abbrev facts9 : Facts
  facts9 = record { requested = None; responded = None; unwrapped = None; data_ = None; pulled = Some r1; opened = None; unwrapped_igtk = None; kept = 0 }

  accepted9 : verdict d 0 b to0 (Managed body7 said7) facts9 ≡ Accepted
  accepted9 = managed-is d b s to0 body7 said7 (same_octets d b) t.to_finds refl facts9 Accepted Accepted Accepted
      (ft_req-first c to0 s name snonce id refl a (length-pmk_r0_name _) t.holds) (ft_req-found c to0 s name snonce id refl 2 r1 refl) refl

  named9 : single (Some name) ≡ Some name
  named9 = rw (length-pmk_r0_name _) refl

  says9 : w.acts9 c k l m ≡ Took (Some s) octets7 kind.FtReq Accepted None ∷ Looked id name s (Found r1) ∷ Opened s start.Roam ∷ Drew (Nonce anonce) ∷ Derived s i (ft_ptk r1 i.snonce i.anonce i.aa i.spa) ∷ sent_ft_resp d b s name i ∷ []
  says9 = ap (λ (x : Ptk). Took (Some s) octets7 kind.FtReq Accepted None ∷ Looked id name s (Found r1) ∷ Opened s start.Roam ∷ Drew (Nonce anonce) ∷ Derived s i x ∷ sent_ft_resp d b s name i ∷ []) (ptk_of_r1 i refl)

  pub row9 : TakeRow (here d 0 b) to0 octets7 (w.acts9 c k l m)
  row9 = record {
    r = Managed body7 said7;
    reads = reads7;
    facts = facts9;
    knows = λ came p from. tt;
    row = By_ft_req (record {
      b = body7;
      e = said7;
      is = refl;
      kind_is = refl;
      p = s;
      from = t.to_finds;
      accepted = accepted9;
      a = record { snonce = snonce; r0kh_id = id; names = Some name };
      asks = refl;
      name = name;
      named = named9;
      k = r1;
      pulled = refl;
      i = i;
      inputs_are = refl;
      says = says9;
    });
  }

  stands9 : stands_in name s ap7 ≡ true
  stands9 = rw (same_bytes name, same-refl s) refl

  looks9 : LooksRight d 9 b (w.acts9 c k l m) stage8.journal
  looks9 = looked_elsewhere d d 8 b (Took (Some s) octets7 kind.FtReq Accepted None) id name s (Found r1) (Opened s start.Roam ∷ Drew (Nonce anonce) ∷ Derived s i (ptk i) ∷ sent_ft_resp d b s name i ∷ []) stage8.journal
      a ap7 refl refl t.holds t.apart.one stage8.low stage8.network stage8.ap_is stands9 refl

  abbrev rounds9 : List (List Event)
  rounds9 = (Deliver 7 b ∷ []) ∷ rounds8

  stage9 : Stage d d k l m rounds9 sta8 ap7 to9 (octets8 ∷ octets7 ∷ frames7)
  stage9 = looks_to d d k l m t.apart rounds8 sta8 ap7 to0 (octets7 ∷ frames7) stage8 (Deliver 7 b) (w.acts9 c k l m) (Take octets7) (octets7, (stage8.were.0, (refl, refl))) row9 refl looks9

  -- ---- round 10: the station derives the key, and asks for reassociation
  abbrev body8 : Management
  body8 = ft_resp_of d b s name i

  abbrev said8 : ElementFields
  said8 = told name c.mdid (plain_fte anonce snonce (Some (address d b)) id)

  reads8 : Reads FtPsk octets8 (Managed body8 said8)
  reads8 = reads-ft_resp c b s name i t.to_whole t.sta_whole t.mdid (length-pmk_r0_name _) (length-nonce d b 2) (length-nonce d s 1) t.holder

  abbrev asked : List Act
  asked = w.asked2 c k l m

  attempt10 : attempt b sta8 ≡ Some asked
  attempt10 = rw (same-refl b) refl

  accepted10 : verdict d 0 s sta8 (Managed body8 said8) no_facts ≡ Accepted
  accepted10 = managed-is d s b sta8 body8 said8 (same_octets d s) t.finds_to refl no_facts Accepted Accepted Accepted (ft_resp-first c s b sta8 asked body8 anonce snonce id attempt10 refl refl refl refl refl) refl refl

  row10 : TakeRow (here d 0 s) sta8 octets8 (w.acts10 c k l m)
  row10 = record {
    r = Managed body8 said8;
    reads = reads8;
    facts = no_facts;
    knows = λ came p from. tt;
    row = By_ft_resp (record {
      b = body8;
      e = said8;
      is = refl;
      kind_is = refl;
      p = b;
      from = t.finds_to;
      accepted = accepted10;
      part = asked;
      awaited = attempt10;
      f = plain_fte anonce snonce (Some (address d b)) id;
      fte = refl;
      i = i;
      inputs_are = refl;
      says = refl;
    });
  }

  abbrev rounds10 : List (List Event)
  rounds10 = (Deliver 8 s ∷ []) ∷ rounds9

  stage10 : Stage d d k l m rounds10 sta10 ap7 to9 (octets9 ∷ octets8 ∷ octets7 ∷ frames7)
  stage10 = by_sta d d k l m t.apart rounds9 sta8 ap7 to9 (octets8 ∷ octets7 ∷ frames7) stage9 (Deliver 8 s) (w.acts10 c k l m) (Take octets8) (octets8, (stage9.were.0, (refl, refl))) row10 refl

  -- ---- round 11: the access point installs the pairwise key, and answers
  abbrev body9 : Management
  body9 = re_req_of d s b key

  abbrev said9 : ElementFields
  said9 = told (r1_name i) c.mdid (re_req_sealed c s b key)

  reads9 : Reads FtPsk octets9 (Managed body9 said9)
  reads9 = reads-re_req c s b a key t.sta_whole t.to_whole t.ap_whole t.mdid (length-nonce d b 2) (length-nonce d s 1) t.holder

  attempt11 : attempt s to9 ≡ Some (w.part9 c k l m)
  attempt11 = rw (same-refl s) refl

  derives11 : derivation s (w.part9 c k l m) ≡ Some key
  derives11 = rw (same-refl s) refl

  abbrev looked : Look
  looked = record { r0kh_id = id; name = name; answer = Found r1 }

  look11 : look s to9 ≡ Some looked
  look11 = rw (same-refl s) refl

  abbrev by : Transition
  by = record { key = key; asked = name; r1_name = r1_name i }

  transition11 : transition s to9 ≡ Some by
  transition11 = transition-of s to9 (w.part9 c k l m) key id name r1 attempt11 refl derives11 look11

  accepted11 : verdict d 0 b to9 (Managed body9 said9) no_facts ≡ Accepted
  accepted11 = managed-is d b s to9 body9 said9 (same_octets d b) t.to_finds refl no_facts Accepted Accepted Accepted (re_req-first c b s to9 key name transition11) (re_req-further c b s to9 key name transition11) refl

  row11 : TakeRow (here d 0 b) to9 octets9 (w.acts11 c k l m)
  row11 = record {
    r = Managed body9 said9;
    reads = reads9;
    facts = no_facts;
    knows = λ came p from. tt;
    row = By_re_req (record {
      b = body9;
      e = said9;
      is = refl;
      kind_is = refl;
      p = s;
      from = t.to_finds;
      accepted = accepted11;
      y = record { by_ = by; is_session = false };
      awaited = judged-attempt c b s to9 key name transition11;
      x = key;
      keyed = refl;
      says = ap (λ (o : Option Seal). Took (Some s) octets9 kind.ReReq Accepted o ∷ Installed (One s) (Pairwise (ptk i).tk i) ∷ Finished s i ∷ sent_re_resp d b s (r1_name i) key (w.fte2 c k l m) ∷ []) (sym (re_req-seal c b s to9 key name transition11));
    });
  }

  abbrev rounds11 : List (List Event)
  rounds11 = (Deliver 9 b ∷ []) ∷ rounds10

  stage11 : Stage d d k l m rounds11 sta10 ap7 to11 (octets10 ∷ octets9 ∷ octets8 ∷ octets7 ∷ frames7)
  stage11 = by_to d d k l m t.apart rounds10 sta10 ap7 to9 (octets9 ∷ octets8 ∷ octets7 ∷ frames7) stage10 (Deliver 9 b) (w.acts11 c k l m) (Take octets9) (octets9, (stage10.were.0, (refl, refl))) row11 refl refl

  -- ---- round 12: the station installs both keys, and leaves its first session
  abbrev body10 : Management
  body10 = re_resp_of d b s key (response_fte c b key g k2)

  abbrev said10 : ElementFields
  said10 = told (r1_name i) c.mdid (re_resp_sealed c b s key g k2)

  reads10 : Reads FtPsk octets10 (Managed body10 said10)
  reads10 = reads-re_resp c b s key g k2 t.to_whole t.sta_whole (omega (arith, t.sta_low)) t.mdid (length-nonce d b 2) (length-nonce d s 1) t.holder are

  attempt12 : attempt b sta10 ≡ Some (w.joined2 c k l m)
  attempt12 = rw (same-refl b) refl

  heard12 : has_heard b kind.FtResp (w.joined2 c k l m) ≡ true
  heard12 = rw (same-refl b) refl

  derives12 : derivation b (w.joined2 c k l m) ≡ Some key
  derives12 = rw (same-refl b) refl

  keyed12 : re_resp_keying b sta10 ≡ Some key
  keyed12 = re_resp-keyed b sta10 (w.joined2 c k l m) key attempt12 refl heard12 derives12

  abbrev facts12 : Facts
  facts12 = record { requested = None; responded = None; unwrapped = Some g.key; data_ = None; pulled = None; opened = None; unwrapped_igtk = Some j.key; kept = 0 }

  accepted12 : verdict d 0 s sta10 (Managed body10 said10) facts12 ≡ Accepted
  accepted12 = managed-is d s b sta10 body10 said10 (same_octets d s) t.finds_to refl facts12 Accepted Accepted Accepted (re_resp-first c s b sta10 key g k2 keyed12) (re_resp-further c s b sta10 key g k2 keyed12 (octets-kek i) are refl) refl

  -- they are none that the station has of this access point
  fresh12 : find_key g.key (memory groups.Gtk b sta10) ≡ None
  fresh12 = rw t.apart.other refl

  igtk_fresh12 : find_key j.key (memory groups.Igtk b sta10) ≡ None
  igtk_fresh12 = rw t.apart.other refl

  from12 : management_sender d s body10.header ≡ Some b
  from12 = management-from d s b body10.header t.finds_to refl

  abbrev taken12 : Option Seal → Option GroupKey → Option GroupKey → List Act
  taken12 o gtk igtk = Took (Some b) octets10 kind.ReResp Accepted o ∷ Closed a Session ∷ Installed (One b) (Pairwise (ptk i).tk i) ∷ give_by groups.Gtk b (mac d b) g gtk ∷ give_by groups.Igtk b (mac d b) j igtk ∷ Finished b i ∷ []

  says12 : w.acts12 c k l m ≡ taken12 (re_resp_seal d s sta10 b body10 said10) (find_key g.key (memory groups.Gtk b sta10)) (find_key j.key (memory groups.Igtk b sta10))
  says12 =
      ap (λ (o : Option GroupKey). taken12 (Some seal10) None o) (sym igtk_fresh12)
      ∙ ap (λ (o : Option GroupKey). taken12 (Some seal10) o (find_key j.key (memory groups.Igtk b sta10))) (sym fresh12)
      ∙ ap (λ (o : Option Seal). taken12 o (find_key g.key (memory groups.Gtk b sta10)) (find_key j.key (memory groups.Igtk b sta10))) (sym (re_resp-seal c s b sta10 key g k2 keyed12))

  abbrev KnowsBoth : Node → Type 0
  KnowsBoth p = KnowsGtk (re_resp_keying p sta10) (to_unwrap said10.fte) (Some g.key) × KnowsGtk (re_resp_keying p sta10) (igtk_to_unwrap true said10.fte) (Some j.key)

  row12 : TakeRow (here d 0 s) sta10 octets10 (w.acts12 c k l m)
  row12 = record {
    r = Managed body10 said10;
    reads = reads10;
    facts = facts12;
    knows = λ came p from. (let same : b ≡ p = cc (from, from12) in subst KnowsBoth same (re_resp-knows c s b sta10 key g k2 keyed12 (octets-kek i) are refl));
    row = By_re_resp (record {
      b = body10;
      e = said10;
      is = refl;
      kind_is = refl;
      p = b;
      from = t.finds_to;
      accepted = accepted12;
      x = key;
      awaited = keyed12;
      says = says12;
    });
  }

  stage12 : Stage d d k l m (protected_roaming k l m) sta12 ap7 to11 (w.frames12 c k l m)
  stage12 = by_sta d d k l m t.apart rounds11 sta10 ap7 to11 (w.frames12 c k l m) stage11 (Deliver 10 s) (w.acts12 c k l m) (Take octets10) (octets10, (stage11.were.0, (refl, refl))) row12 refl

  -- ---- what they come to

  pub roamed : TimelyIsRight → HasProtectedRoaming d k l m
  roamed law = record {
    journal = stage12.journal;
    explained = stage12.explained;
    held = law d stage12.journal stage12.right;
    looked = at_to d d k l m (protected_roaming k l m) _ _ _ _ stage12 _ (inr (inr (inr (inr (inr (inr (inr (inr (inl refl)))))))));
    i = i;
    of_second = refl;
    station = at_sta d d k l m (protected_roaming k l m) _ _ _ _ stage12 _ (inr (inr (inr (inl refl))));
    access_point = at_to d d k l m (protected_roaming k l m) _ _ _ _ stage12 _ (inr (inr (inl refl)));
    first_igtk = at_sta d d k l m (protected_roaming k l m) _ _ _ _ stage12 _ (inr (inr (inr (inr (inr (inr (inr (inr (inr (inr (inr (inr (inr (inr (inl refl)))))))))))))));
    gtk_given = at_sta d d k l m (protected_roaming k l m) _ _ _ _ stage12 _ (inr (inr (inl refl)));
    igtk_given = at_sta d d k l m (protected_roaming k l m) _ _ _ _ stage12 _ (inr (inl refl));
  }

-- in the small network
pub protecting-roams : TimelyIsRight → (seed ssid psk mdid : List ℕ) → IsSsid ssid → length mdid ≡ 2 → AreOctets mdid → HasProtectedRoaming (protecting_pair seed ssid psk mdid) 0 1 0
protecting-roams law seed ssid psk mdid is size octets =
    let can = pair-can_roam seed ssid psk mdid is size octets in
    let f = can.form in
    let d : Domain = protecting_pair seed ssid psk mdid in
    roamed d 0 1 0
    (trio (guarded d) 0 1 0 (record { some = f.some; few = f.few; aps = f.aps; stas = f.stas; few_aps = f.few_aps; few_stas = f.few_stas }) (record { aps = can.whole.aps; stas = can.whole.stas }) (record { aps = can.octets.aps; stas = can.octets.stas })
    (record { mdid = can.mobile.mdid; mdid_octets = can.mobile.mdid_octets; id_octets = can.mobile.id_octets }) can.first can.second can.differ can.station) law
