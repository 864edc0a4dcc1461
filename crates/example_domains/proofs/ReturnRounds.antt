-- The rounds of an example with suite 4 in which a station roams back to the first access point, which has its row itself, and resumes the
-- group key that it has of it.
use Rattle.std.proofs.Common.{◌≡◌, ℕ, true, false, List, [], ◌∷◌, Option, Some, None, refl, sym, ap, subst, ◌∙◌, arith}
use Rattle.std.specs.Prelude.{◌++◌}
use Rattle.domain_base.specs.declared.names.Akm.TheVariants.{FtPsk}
use Rattle.domain_base.specs.declared.names.Node.{Node}
use Rattle.domain_base.specs.declared.names.Peer.TheVariants.{One}
use Rattle.domain_rules.proofs.CarriedKey.{IsGroupKey}
use Rattle.domain_rules.proofs.Exchange.{length-nonce, length-gtk, octets-gtk, same_octets}
use Rattle.domain_rules.proofs.KeyOctets.{octets-kek}
use Rattle.domain_rules.proofs.Parts.{same-refl}
use Rattle.domain_rules.proofs.Refused.{no_facts}
use Rattle.domain_rules.proofs.Verdicts.{management-from}
use Rattle.domain_rules.specs.Asking.{has_heard}
use Rattle.domain_rules.specs.DataExample.{IsPayload}
use Rattle.domain_rules.specs.Facts.{Facts}
use Rattle.domain_rules.specs.FastTransition.{r1_name, no_nonce, plain_fte, single, to_unwrap}
use Rattle.domain_rules.specs.Closing.{close_attempt, close_session}
use Rattle.domain_rules.specs.GroupKeys.{find_key, memory, give_by}
use Rattle.domain_rules.specs.Here.{here}
use Rattle.domain_rules.specs.Network.{address, mac}
use Rattle.domain_rules.specs.Reading.{Management, Managed, Reads}
use Rattle.domain_rules.specs.Rows as event
use Rattle.domain_rules.specs.Rows.{Take, TakeRow, By_ft_req, By_ft_resp, By_re_req, By_re_resp}
use Rattle.domain_rules.specs.TransitionFrames.{sent_ft_resp, sent_re_resp}
use Rattle.domain_rules.specs.TransitionKeys.{Transition, transition, re_resp_keying, KnowsGtk}
use Rattle.domain_rules.specs.TransitionRows.{RoamRow, Asks}
use Rattle.domain_rules.specs.Verdict.{management_sender, verdict}
use Rattle.key_hierarchy.proofs.Lengths.{length-pmk_r0_name}
use Rattle.key_hierarchy.specs.FastTransition.{ft_ptk}
use Rattle.key_hierarchy.specs.Keys.{ptk}
use Rattle.key_hierarchy.specs.declared.answers.PullAnswer.TheVariants.{Found}
use Rattle.key_hierarchy.specs.declared.fast_transition.PmkR1.{PmkR1}
use Rattle.key_hierarchy.specs.declared.inputs.Inputs.{Inputs}
use Rattle.key_hierarchy.specs.declared.inputs.Ptk.{Ptk}
use Rattle.rsn_elements.specs.Elements.{ElementFields}
use Rattle.run_journal.specs.Acts.{Derivation, GroupKey}
use Rattle.run_journal.specs.declared.acts.GroupKind.TheVariants as groups
use Rattle.run_journal.specs.Holders.{Look, look}
use Rattle.run_journal.specs.Questions.{attempt, derivation, session}
use Rattle.run_journal.specs.declared.acts.Act.TheVariants.{Opened, Closed, Drew, Derived, Took, Looked, Installed, Finished}
use Rattle.run_journal.specs.declared.acts.Act.{Act}
use Rattle.run_journal.specs.declared.acts.Drawn.TheVariants.{Nonce}
use Rattle.run_journal.specs.declared.acts.Key.TheVariants.{Pairwise}
use Rattle.run_journal.specs.declared.acts.Kind.TheVariants as kind
use Rattle.run_journal.specs.declared.acts.Outcome.TheVariants.{Accepted}
use Rattle.run_journal.specs.declared.acts.Part.TheVariants.{Session}
use Rattle.run_journal.specs.declared.acts.Seal.{Seal}
use Rattle.run_journal.specs.declared.acts.Start.TheVariants as start
use Rattle.run_journal.specs.declared.domain.Domain.{Domain}
use Rattle.run_journal.specs.declared.domain.Event.TheVariants.{Roam, Deliver}
use Rattle.run_journal.specs.declared.domain.Event.{Event}
use Rattle.example_domains.proofs.Elements.{told, same_bytes}
use Rattle.example_domains.proofs.Judging.{managed-is}
use Rattle.example_domains.proofs.LookedUp.{looked_at_home}
use Rattle.example_domains.proofs.Moments.{stands_in, LooksRight}
use Rattle.example_domains.proofs.RoamingActs as w
use Rattle.example_domains.proofs.RoamingActs.{mobile}
use Rattle.example_domains.proofs.ServiceActs as v
use Rattle.example_domains.proofs.ServiceRounds.{stage17}
use Rattle.example_domains.proofs.Stages.{Stage, by_sta, by_ap, looks_ap}
use Rattle.example_domains.proofs.TransitionReads.{ft_req_body, reads-ft_req, ft_resp_body, reads-ft_resp, re_req_body, re_req_sealed, reads-re_req, re_resp_body, re_resp_sealed, reads-re_resp}
use Rattle.example_domains.proofs.TransitionVerdicts.{ft_req-first, ft_req-found, ft_resp-first, re_req-first, re_req-further, re_req-seal, judged-attempt, re_resp-first, re_resp-seal, re_resp-further, re_resp-knows, knows_none}
use Rattle.example_domains.proofs.Transitions.{ptk_of_r1, transition-of, no_transition, re_resp-keyed}
use Rattle.example_domains.proofs.Trio.{IsTrio}
use Rattle.example_domains.specs.Roaming.{service, return}

module _ (c : Domain) (k l m : ℕ) (t : IsTrio (mobile c) k l m) (up down : List ℕ) (up_is : IsPayload up) (down_is : IsPayload down) where
  abbrev d : Domain
  d = w.d c k l m

  abbrev a : Node
  a = w.a c k l m

  abbrev b : Node
  b = w.b c k l m

  abbrev s : Node
  s = w.s c k l m

  abbrev id : List ℕ
  id = w.id c k l m

  abbrev name : List ℕ
  name = w.name c k l m

  abbrev r1 : PmkR1
  r1 = w.r1_home c k l m

  abbrev i : Inputs
  i = w.i3 c k l m

  abbrev key : Derivation
  key = w.key3 c k l m

  abbrev g : GroupKey
  g = w.g c k l m

  abbrev snonce : List ℕ
  snonce = w.snonce3 c k l m

  abbrev anonce : List ℕ
  anonce = w.anonce3 c k l m

  abbrev octets14 : List ℕ
  octets14 = w.octets14 c k l m

  abbrev octets15 : List ℕ
  octets15 = w.octets15 c k l m

  abbrev octets16 : List ℕ
  octets16 = w.octets16 c k l m

  abbrev octets17 : List ℕ
  octets17 = w.octets17 c k l m

  abbrev seal17 : Seal
  seal17 = w.seal17 c k l m

  abbrev sta17 : List Act
  sta17 = v.sta17 c k l m up down

  abbrev sta18 : List Act
  sta18 = v.sta18 c k l m up down

  abbrev sta20 : List Act
  sta20 = v.sta20 c k l m up down

  abbrev sta22 : List Act
  sta22 = v.sta22 c k l m up down

  abbrev ap7 : List Act
  ap7 = w.ap7 c k l m

  abbrev ap19 : List Act
  ap19 = w.ap19 c k l m

  abbrev ap21 : List Act
  ap21 = w.ap21 c k l m

  abbrev to16 : List Act
  to16 = v.to16 c k l m up down

  abbrev frames17 : List (List ℕ)
  frames17 = v.frames17 c k l m up down

  is_key : IsGroupKey g
  is_key = record { octets = octets-gtk d a 0; size = length-gtk d a 0; low = omega arith }

  -- ---- round 18: the station asks access point k
  abbrev rounds17 : List (List Event)
  rounds17 = service k l m up down

  abbrev rounds18 : List (List Event)
  rounds18 = (Roam m k ∷ []) ∷ rounds17

  row18 : RoamRow (here d 0 s) sta17 a (w.acts18 c k l m)
  row18 = Asks refl b refl t.apart.one (omega arith) refl

  stage18 : Stage d d k l m rounds18 sta18 ap7 to16 (octets14 ∷ frames17)
  stage18 = by_sta d d k l m t.apart rounds17 sta17 ap7 to16 frames17 (stage17 c k l m t up down up_is down_is) (Roam m k) (w.acts18 c k l m) (event.Roam k) (refl, refl) row18 refl

  -- ---- round 19: the access point finds the key with its own holder, and answers
  abbrev body14 : Management
  body14 = ft_req_body c s a (w.root c k l m) snonce

  abbrev said14 : ElementFields
  said14 = told name c.mdid (plain_fte no_nonce snonce None id)

  reads14 : Reads FtPsk octets14 (Managed body14 said14)
  reads14 = reads-ft_req c s a (w.root c k l m) snonce t.sta_whole t.ap_whole t.mdid (length-nonce d s 2) t.holder

  over19 : attempt s ap7 ≡ None
  over19 = rw (same-refl s) refl

  none19 : transition s ap7 ≡ None
  none19 = no_transition s ap7 over19

  abbrev facts19 : Facts
  facts19 = record { requested = None; responded = None; unwrapped = None; data_ = None; pulled = Some r1; opened = None; unwrapped_igtk = None; kept = 0 }

  accepted19 : verdict d 0 a ap7 (Managed body14 said14) facts19 ≡ Accepted
  accepted19 = managed-is d a s ap7 body14 said14 (same_octets d a) t.ap_finds refl facts19 Accepted Accepted Accepted
      (ft_req-first c ap7 s name snonce id none19 a (length-pmk_r0_name _) t.holds) (ft_req-found c ap7 s name snonce id none19 2 r1 refl) refl

  named19 : single (Some name) ≡ Some name
  named19 = rw (length-pmk_r0_name _) refl

  says19 : w.acts19 c k l m ≡ Took (Some s) octets14 kind.FtReq Accepted None ∷ Looked id name s (Found r1) ∷ close_attempt s (attempt s ap7) ++ Opened s start.Roam ∷ Drew (Nonce anonce) ∷ Derived s i (ft_ptk r1 i.snonce i.anonce i.aa i.spa) ∷ sent_ft_resp d a s name i ∷ []
  says19 = ap (λ (x : Ptk). Took (Some s) octets14 kind.FtReq Accepted None ∷ Looked id name s (Found r1) ∷ Opened s start.Roam ∷ Drew (Nonce anonce) ∷ Derived s i x ∷ sent_ft_resp d a s name i ∷ []) (ptk_of_r1 i refl)
      ∙ ap (λ (o : Option (List Act)). Took (Some s) octets14 kind.FtReq Accepted None ∷ Looked id name s (Found r1) ∷ close_attempt s o ++ Opened s start.Roam ∷ Drew (Nonce anonce) ∷ Derived s i (ft_ptk r1 i.snonce i.anonce i.aa i.spa) ∷ sent_ft_resp d a s name i ∷ []) (sym over19)

  row19 : TakeRow (here d 0 a) ap7 octets14 (w.acts19 c k l m)
  row19 = record {
    r = Managed body14 said14;
    reads = reads14;
    facts = facts19;
    knows = λ came p from. tt;
    row = By_ft_req (record {
      b = body14;
      e = said14;
      is = refl;
      kind_is = refl;
      p = s;
      from = t.ap_finds;
      accepted = accepted19;
      a = record { snonce = snonce; r0kh_id = id; names = Some name };
      asks = refl;
      name = name;
      named = named19;
      k = r1;
      pulled = refl;
      i = i;
      inputs_are = refl;
      says = says19;
    });
  }

  stands19 : stands_in name s (Took (Some s) octets14 kind.FtReq Accepted None ∷ ap7) ≡ true
  stands19 = rw (same_bytes name, same-refl s) refl

  looks19 : LooksRight d 19 a (w.acts19 c k l m) stage18.journal
  looks19 = looked_at_home d d 18 a (Took (Some s) octets14 kind.FtReq Accepted None) id name s (Found r1) (Opened s start.Roam ∷ Drew (Nonce anonce) ∷ Derived s i (ptk i) ∷ sent_ft_resp d a s name i ∷ []) stage18.journal
      ap7 refl refl t.holds stage18.low stage18.network stage18.ap_is stands19 refl

  abbrev rounds19 : List (List Event)
  rounds19 = (Deliver 14 a ∷ []) ∷ rounds18

  stage19 : Stage d d k l m rounds19 sta18 ap19 to16 (octets15 ∷ octets14 ∷ frames17)
  stage19 = looks_ap d d k l m t.apart rounds18 sta18 ap7 to16 (octets14 ∷ frames17) stage18 (Deliver 14 a) (w.acts19 c k l m) (Take octets14) (octets14, (stage18.were.0, (refl, refl))) row19 refl looks19

  -- ---- round 20: the station derives the key, and asks for reassociation
  abbrev body15 : Management
  body15 = ft_resp_body c a s name i

  abbrev said15 : ElementFields
  said15 = told name c.mdid (plain_fte anonce snonce (Some (address d a)) id)

  reads15 : Reads FtPsk octets15 (Managed body15 said15)
  reads15 = reads-ft_resp c a s name i t.ap_whole t.sta_whole t.mdid (length-pmk_r0_name _) (length-nonce d a 2) (length-nonce d s 2) t.holder

  abbrev asked : List Act
  asked = w.asked3 c k l m

  attempt20 : attempt a sta18 ≡ Some asked
  attempt20 = rw (same-refl a) refl

  accepted20 : verdict d 0 s sta18 (Managed body15 said15) no_facts ≡ Accepted
  accepted20 = managed-is d s a sta18 body15 said15 (same_octets d s) t.finds_ap refl no_facts Accepted Accepted Accepted (ft_resp-first c s a sta18 asked body15 anonce snonce id attempt20 refl refl refl refl refl) refl refl

  row20 : TakeRow (here d 0 s) sta18 octets15 (w.acts20 c k l m)
  row20 = record {
    r = Managed body15 said15;
    reads = reads15;
    facts = no_facts;
    knows = λ came p from. tt;
    row = By_ft_resp (record {
      b = body15;
      e = said15;
      is = refl;
      kind_is = refl;
      p = a;
      from = t.finds_ap;
      accepted = accepted20;
      part = asked;
      awaited = attempt20;
      f = plain_fte anonce snonce (Some (address d a)) id;
      fte = refl;
      i = i;
      inputs_are = refl;
      says = refl;
    });
  }

  abbrev rounds20 : List (List Event)
  rounds20 = (Deliver 15 s ∷ []) ∷ rounds19

  stage20 : Stage d d k l m rounds20 sta20 ap19 to16 (octets16 ∷ octets15 ∷ octets14 ∷ frames17)
  stage20 = by_sta d d k l m t.apart rounds19 sta18 ap19 to16 (octets15 ∷ octets14 ∷ frames17) stage19 (Deliver 15 s) (w.acts20 c k l m) (Take octets15) (octets15, (stage19.were.0, (refl, refl))) row20 refl

  -- ---- round 21: the access point installs the pairwise key in place of the one in use, and answers
  abbrev body16 : Management
  body16 = re_req_body c s a key

  abbrev said16 : ElementFields
  said16 = told (r1_name i) c.mdid (re_req_sealed c s a key)

  reads16 : Reads FtPsk octets16 (Managed body16 said16)
  reads16 = reads-re_req c s a b key t.sta_whole t.ap_whole t.to_whole t.mdid (length-nonce d a 2) (length-nonce d s 2) t.holder

  attempt21 : attempt s ap19 ≡ Some (w.part19 c k l m)
  attempt21 = rw (same-refl s) refl

  derives21 : derivation s (w.part19 c k l m) ≡ Some key
  derives21 = rw (same-refl s) refl

  abbrev looked : Look
  looked = record { r0kh_id = id; name = name; answer = Found r1 }

  look21 : look s ap19 ≡ Some looked
  look21 = rw (same-refl s) refl

  abbrev by : Transition
  by = record { key = key; asked = name; r1_name = r1_name i }

  transition21 : transition s ap19 ≡ Some by
  transition21 = transition-of s ap19 (w.part19 c k l m) key id name r1 attempt21 refl derives21 look21

  accepted21 : verdict d 0 a ap19 (Managed body16 said16) no_facts ≡ Accepted
  accepted21 = managed-is d a s ap19 body16 said16 (same_octets d a) t.ap_finds refl no_facts Accepted Accepted Accepted (re_req-first c a s ap19 key name transition21) (re_req-further c a s ap19 key name transition21) refl

  has21 : session s ap19 ≡ Some (w.key c k l m)
  has21 = rw (same-refl s) refl

  row21 : TakeRow (here d 0 a) ap19 octets16 (w.acts21 c k l m)
  row21 = record {
    r = Managed body16 said16;
    reads = reads16;
    facts = no_facts;
    knows = λ came p from. tt;
    row = By_re_req (record {
      b = body16;
      e = said16;
      is = refl;
      kind_is = refl;
      p = s;
      from = t.ap_finds;
      accepted = accepted21;
      y = record { by_ = by; is_session = false };
      awaited = judged-attempt c a s ap19 key name transition21;
      x = key;
      keyed = refl;
      says = ap (λ (o : Option Derivation). Took (Some s) octets16 kind.ReReq Accepted (Some (w.seal16 c k l m)) ∷ close_session s o ++ Installed (One s) (Pairwise (ptk i).tk i) ∷ Finished s i ∷ sent_re_resp d a s (r1_name i) key (w.fte3 c k l m) ∷ []) (sym has21)
          ∙ ap (λ (o : Option Seal). Took (Some s) octets16 kind.ReReq Accepted o ∷ close_session s (session s ap19) ++ Installed (One s) (Pairwise (ptk i).tk i) ∷ Finished s i ∷ sent_re_resp d a s (r1_name i) key (w.fte3 c k l m) ∷ []) (sym (re_req-seal c a s ap19 key name transition21));
    });
  }

  abbrev rounds21 : List (List Event)
  rounds21 = (Deliver 16 a ∷ []) ∷ rounds20

  stage21 : Stage d d k l m rounds21 sta20 ap21 to16 (v.frames22 c k l m up down)
  stage21 = by_ap d d k l m t.apart rounds20 sta20 ap19 to16 (octets16 ∷ octets15 ∷ octets14 ∷ frames17) stage20 (Deliver 16 a) (w.acts21 c k l m) (Take octets16) (octets16, (stage20.were.0, (refl, refl))) row21 refl refl

  -- ---- round 22: the station installs the pairwise key, resumes the group key, and leaves its second session
  abbrev body17 : Management
  body17 = re_resp_body c a s key g

  abbrev said17 : ElementFields
  said17 = told (r1_name i) c.mdid (re_resp_sealed c a s key g)

  reads17 : Reads FtPsk octets17 (Managed body17 said17)
  reads17 = reads-re_resp c a s key g t.ap_whole t.sta_whole (omega (arith, t.sta_low)) t.mdid (length-nonce d a 2) (length-nonce d s 2) t.holder is_key

  attempt22 : attempt a sta20 ≡ Some (w.joined3 c k l m)
  attempt22 = rw (same-refl a) refl

  heard22 : has_heard a kind.FtResp (w.joined3 c k l m) ≡ true
  heard22 = rw (same-refl a) refl

  derives22 : derivation a (w.joined3 c k l m) ≡ Some key
  derives22 = rw (same-refl a) refl

  keyed22 : re_resp_keying a sta20 ≡ Some key
  keyed22 = re_resp-keyed a sta20 (w.joined3 c k l m) key attempt22 refl heard22 derives22

  abbrev facts22 : Facts
  facts22 = record { requested = None; responded = None; unwrapped = Some g.key; data_ = None; pulled = None; opened = None; unwrapped_igtk = None; kept = 0 }

  accepted22 : verdict d 0 s sta20 (Managed body17 said17) facts22 ≡ Accepted
  accepted22 = managed-is d s a sta20 body17 said17 (same_octets d s) t.finds_ap refl facts22 Accepted Accepted Accepted (re_resp-first c s a sta20 key g keyed22) (re_resp-further c s a sta20 key g keyed22 (octets-kek i) is_key refl) refl

  -- the station has it of its first association
  kept22 : find_key g.key (memory groups.Gtk a sta20) ≡ Some g
  kept22 = rw (t.apart.one, same-refl a, same_bytes g.key) refl

  from22 : management_sender d s body17.header ≡ Some a
  from22 = management-from d s a body17.header t.finds_ap refl

  row22 : TakeRow (here d 0 s) sta20 octets17 (w.acts22 c k l m)
  row22 = record {
    r = Managed body17 said17;
    reads = reads17;
    facts = facts22;
    knows = λ came p from. (let same : a ≡ p = cc (from, from22) in (subst (λ (x : Node). KnowsGtk (re_resp_keying x sta20) (to_unwrap said17.fte) (Some g.key)) same (re_resp-knows c s a sta20 key g keyed22 (octets-kek i) is_key refl), knows_none c (re_resp_keying p sta20)));
    row = By_re_resp (record {
      b = body17;
      e = said17;
      is = refl;
      kind_is = refl;
      p = a;
      from = t.finds_ap;
      accepted = accepted22;
      x = key;
      awaited = keyed22;
      says = ap (λ (o : Option GroupKey). Took (Some a) octets17 kind.ReResp Accepted (Some seal17) ∷ Closed b Session ∷ Installed (One a) (Pairwise (ptk i).tk i) ∷ give_by groups.Gtk a (mac d a) g o ∷ Finished a i ∷ []) (sym kept22)
          ∙ ap (λ (o : Option Seal). Took (Some a) octets17 kind.ReResp Accepted o ∷ Closed b Session ∷ Installed (One a) (Pairwise (ptk i).tk i) ∷ give_by groups.Gtk a (mac d a) g (find_key g.key (memory groups.Gtk a sta20)) ∷ Finished a i ∷ []) (sym (re_resp-seal c s a sta20 key g keyed22));
    });
  }

  pub stage22 : Stage d d k l m (return k l m up down) sta22 ap21 to16 (v.frames22 c k l m up down)
  stage22 = by_sta d d k l m t.apart rounds21 sta20 ap21 to16 (v.frames22 c k l m up down) stage21 (Deliver 17 s) (w.acts22 c k l m) (Take octets17) (octets17, (stage21.were.0, (refl, refl))) row22 refl
