-- The last rounds of an example with suite 4 in which the key of the station is changed twice: associated anew under its second key it asks the
-- second access point, which is given a key of it, and then its key is changed again.
use Rattle.std.proofs.Common.{◌≡◌, ℕ, true, List, [], ◌∷◌, Option, Some, None, refl, sym, ap, subst, ◌∙◌, arith, inl, inr}
use Rattle.domain_base.specs.declared.names.Akm.TheVariants.{FtPsk}
use Rattle.domain_base.specs.declared.names.Node.{Node}
use Rattle.domain_rules.proofs.Exchange.{length-nonce, same_octets}
use Rattle.domain_rules.proofs.PresentNetwork.{earlier_push, earlier_below}
use Rattle.domain_rules.specs.ChangedKeys.{secret_acts}
use Rattle.domain_rules.specs.Facts.{Facts}
use Rattle.domain_rules.specs.FastTransition.{root_name, no_nonce, plain_fte, single}
use Rattle.domain_rules.specs.HeldRight.{AnsweredInTime}
use Rattle.domain_rules.specs.Here.{here}
use Rattle.domain_rules.specs.KeyHolders.{revoke_answer}
use Rattle.domain_rules.specs.Network.{psk_of, r0kh_id, root_at, inputs}
use Rattle.domain_rules.specs.Present.{present, earlier}
use Rattle.domain_rules.specs.Explained.{push, Explained}
use Rattle.domain_rules.specs.Reading.{Management, Managed, Reads}
use Rattle.domain_rules.specs.Rows as event
use Rattle.domain_rules.specs.Rows.{Take, TakeRow, Adds, By_ft_req}
use Rattle.domain_rules.specs.TransitionFrames.{sent_ft_resp}
use Rattle.domain_rules.specs.TransitionRows.{RoamRow, Asks}
use Rattle.domain_rules.specs.Verdict.{verdict}
use Rattle.key_hierarchy.proofs.Lengths.{length-pmk_r0_name}
use Rattle.key_hierarchy.specs.FastTransition.{ft_ptk}
use Rattle.key_hierarchy.specs.Keys.{ptk}
use Rattle.key_hierarchy.specs.declared.answers.PullAnswer.TheVariants.{Found}
use Rattle.key_hierarchy.specs.declared.answers.RevokeAnswer.TheVariants as revoke
use Rattle.key_hierarchy.specs.declared.fast_transition.PmkR1.{PmkR1}
use Rattle.key_hierarchy.specs.declared.inputs.Inputs.{Inputs}
use Rattle.key_hierarchy.specs.declared.inputs.Ptk.{Ptk}
use Rattle.rsn_elements.specs.Elements.{ElementFields}
use Rattle.run_journal.specs.Holders.{row}
use Rattle.run_journal.specs.Premises.{In}
use Rattle.run_journal.specs.Questions.{history, attempt, add}
use Rattle.run_journal.specs.declared.acts.Act.TheVariants.{Opened, Closed, Drew, Derived, Took, Looked, Revoked, Secret}
use Rattle.run_journal.specs.declared.acts.Act.{Act}
use Rattle.run_journal.specs.declared.acts.Drawn.TheVariants.{Nonce}
use Rattle.run_journal.specs.declared.acts.Entry.{Entry}
use Rattle.run_journal.specs.declared.acts.Kind.TheVariants as kind
use Rattle.run_journal.specs.declared.acts.Outcome.TheVariants.{Accepted}
use Rattle.run_journal.specs.declared.acts.Part.TheVariants.{Attempt, Session}
use Rattle.run_journal.specs.declared.acts.Start.TheVariants as start
use Rattle.run_journal.specs.declared.domain.Domain.{Domain}
use Rattle.run_journal.specs.declared.domain.Event.TheVariants.{Roam, Deliver}
use Rattle.run_journal.specs.declared.domain.Event.{Event}
use Rattle.example_domains.proofs.AssociatedAnew as before
use Rattle.example_domains.proofs.Elements.{told, same_bytes}
use Rattle.example_domains.proofs.Judging.{managed-is}
use Rattle.example_domains.proofs.LookedUp.{looked_elsewhere}
use Rattle.example_domains.proofs.Moments.{stands_in, LooksRight}
use Rattle.example_domains.proofs.RoamingActs as w
use Rattle.example_domains.proofs.RoamingActs.{mobile}
use Rattle.example_domains.proofs.SecretRound as secret
use Rattle.example_domains.proofs.Stages.{Stage, TimelyIsRight, by_sta, looks_to, looks_to-journal, sent_after}
use Rattle.example_domains.proofs.TransitionReads.{ft_req_body, reads-ft_req}
use Rattle.example_domains.proofs.TransitionVerdicts.{ft_req-first, ft_req-found}
use Rattle.example_domains.proofs.Transitions.{ptk_of_r1, no_transition}
use Rattle.example_domains.proofs.Trio.{IsTrio}
use Rattle.example_domains.specs.ChangedKey.{second_pair, anew}
use Rattle.example_domains.specs.SecondChange.{second_change, HasSecondChange}

module _ (seed ssid psk mdid key last : List ℕ) (t : IsTrio (mobile (second_pair seed ssid psk mdid)) 0 1 0) (u : IsTrio (mobile (second_pair seed ssid key mdid)) 0 1 0) where
  -- a network whose station has the second key
  abbrev c : Domain
  c = second_pair seed ssid key mdid

  -- the network of the header, as it is, and as it is after the second change
  abbrev h : Domain
  h = w.d (second_pair seed ssid psk mdid) 0 1 0

  abbrev d : Domain
  d = w.d c 0 1 0

  abbrev e : Domain
  e = w.d (second_pair seed ssid last mdid) 0 1 0

  abbrev a : Node
  a = w.a c 0 1 0

  abbrev b : Node
  b = w.b c 0 1 0

  abbrev s : Node
  s = w.s c 0 1 0

  abbrev id : List ℕ
  id = w.id c 0 1 0

  abbrev name : List ℕ
  name = w.name c 0 1 0

  abbrev r1 : PmkR1
  r1 = w.r1 c 0 1 0

  abbrev snonce : List ℕ
  snonce = w.snonce4 c 0 1 0

  abbrev anonce : List ℕ
  anonce = w.anonce2 c 0 1 0

  abbrev i : Inputs
  i = inputs d (w.root c 0 1 0) s b snonce anonce

  -- the request: frame 15
  abbrev octets15 : List ℕ
  octets15 = w.octets18 c 0 1 0

  -- the histories, from those before on
  abbrev sta17 : List Act
  sta17 = before.sta6 seed ssid psk mdid key t u

  abbrev ap17 : List Act
  ap17 = before.ap7 seed ssid psk mdid key t u

  abbrev to17 : List Act
  to17 = before.to0 seed ssid psk mdid key t u

  abbrev frames17 : List (List ℕ)
  frames17 = before.frames6 seed ssid psk mdid key t u

  abbrev rounds17 : List (List Event)
  rounds17 = anew key

  stage17 : Stage h d 0 1 0 rounds17 sta17 ap17 to17 frames17
  stage17 = before.stage7 seed ssid psk mdid key t u

  -- ---- round 18: the station asks the second access point
  abbrev acts18 : List Act
  acts18 = w.acts24 c 0 1 0

  abbrev sta18 : List Act
  sta18 = add acts18 sta17

  abbrev frames18 : List (List ℕ)
  frames18 = octets15 ∷ frames17

  abbrev rounds18 : List (List Event)
  rounds18 = (Roam 0 1 ∷ []) ∷ rounds17

  row18 : RoamRow (here d 0 s) sta17 b acts18
  row18 = Asks refl a refl refl (omega arith) refl

  stage18 : Stage h d 0 1 0 rounds18 sta18 ap17 to17 frames18
  stage18 = by_sta h d 0 1 0 t.apart rounds17 sta17 ap17 to17 frames17 stage17 (Roam 0 1) acts18 (event.Roam 1) (refl, refl) row18 refl

  -- ---- round 19: it looks the second key up, finds it, and answers
  abbrev rest19 : List Act
  rest19 = Opened s start.Roam ∷ Drew (Nonce anonce) ∷ Derived s i (ptk i) ∷ sent_ft_resp d b s name i ∷ []

  abbrev acts19 : List Act
  acts19 = Took (Some s) octets15 kind.FtReq Accepted None ∷ Looked id name s (Found r1) ∷ rest19

  abbrev to19 : List Act
  to19 = add acts19 to17

  abbrev frames19 : List (List ℕ)
  frames19 = sent_after acts19 frames18

  abbrev body : Management
  body = ft_req_body c s b (w.root c 0 1 0) snonce

  abbrev said : ElementFields
  said = told name c.mdid (plain_fte no_nonce snonce None id)

  reads : Reads FtPsk octets15 (Managed body said)
  reads = reads-ft_req c s b (w.root c 0 1 0) snonce u.sta_whole u.to_whole u.mdid (length-nonce d s 3) u.holder

  over : attempt s to17 ≡ None
  over = refl

  abbrev facts : Facts
  facts = record { requested = None; responded = None; unwrapped = None; data_ = None; pulled = Some r1; opened = None; unwrapped_igtk = None; kept = 0 }

  accepted : verdict d 0 b to17 (Managed body said) facts ≡ Accepted
  accepted = managed-is d b s to17 body said (same_octets d b) u.to_finds refl facts Accepted Accepted Accepted
      (ft_req-first c to17 s name snonce id (no_transition s to17 over) a (length-pmk_r0_name _) u.holds) (ft_req-found c to17 s name snonce id (no_transition s to17 over) 1 r1 refl) refl

  named : single (Some name) ≡ Some name
  named = rw (length-pmk_r0_name _) refl

  says : acts19 ≡ Took (Some s) octets15 kind.FtReq Accepted None ∷ Looked id name s (Found r1) ∷ Opened s start.Roam ∷ Drew (Nonce anonce) ∷ Derived s i (ft_ptk r1 i.snonce i.anonce i.aa i.spa) ∷ sent_ft_resp d b s name i ∷ []
  says = ap (λ (x : Ptk). Took (Some s) octets15 kind.FtReq Accepted None ∷ Looked id name s (Found r1) ∷ Opened s start.Roam ∷ Drew (Nonce anonce) ∷ Derived s i x ∷ sent_ft_resp d b s name i ∷ []) (ptk_of_r1 i refl)

  row19 : TakeRow (here d 0 b) to17 octets15 acts19
  row19 = record {
    r = Managed body said;
    reads = reads;
    facts = facts;
    knows = λ came p from. tt;
    row = By_ft_req (record {
      b = body;
      e = said;
      is = refl;
      kind_is = refl;
      p = s;
      from = u.to_finds;
      accepted = accepted;
      a = record { snonce = snonce; r0kh_id = id; names = Some name };
      asks = refl;
      name = name;
      named = named;
      k = r1;
      pulled = refl;
      i = i;
      inputs_are = refl;
      says = says;
    });
  }

  stands : stands_in name s ap17 ≡ true
  stands = rw (same_bytes name) refl

  looks : LooksRight h 19 b acts19 stage18.journal
  looks = looked_elsewhere h d 18 b (Took (Some s) octets15 kind.FtReq Accepted None) id name s (Found r1) rest19 stage18.journal a ap17 refl refl t.holds t.apart.one stage18.low stage18.network stage18.ap_is stands refl

  abbrev rounds19 : List (List Event)
  rounds19 = (Deliver 15 b ∷ []) ∷ rounds18

  stage19 : Stage h d 0 1 0 rounds19 sta18 ap17 to19 frames19
  stage19 = looks_to h d 0 1 0 t.apart rounds18 sta18 ap17 to17 frames18 stage18 (Deliver 15 b) acts19 (Take octets15) (octets15, (stage18.were.0, (refl, refl))) row19 refl looks

  journal19 : stage19.journal ≡ push 19 b acts19 stage18.journal
  unfolding stage19
  journal19 = looks_to-journal h d 0 1 0 t.apart rounds18 sta18 ap17 to17 frames18 stage18 (Deliver 15 b) acts19 (Take octets15) (octets15, (stage18.were.0, (refl, refl))) row19 refl looks

  -- ---- round 20: the key is changed again
  abbrev there : List ℕ
  there = root_name d (root_at d s (r0kh_id d b)) s

  abbrev at_first : List Act
  at_first = Revoked id name s revoke.Revoked ∷ Closed s Session ∷ Secret s last ∷ []

  abbrev at_second : List Act
  at_second = Revoked (r0kh_id d b) there s revoke.Absent ∷ Closed s Attempt ∷ Secret s last ∷ []

  abbrev at_station : List Act
  at_station = Closed b Attempt ∷ Closed a Session ∷ Secret s last ∷ []

  abbrev x : event.NodeEvent
  x = event.Secret (Some 0) last

  live : row name ap17 ≡ Some s
  live = rw (same_bytes name) refl

  first_row : at_first ≡ secret_acts d a ap17 (Some 0) last
  first_row = ap (λ (o : Option Node). Revoked id name s (revoke_answer o) ∷ Closed s Session ∷ Secret s last ∷ []) (sym live)

  first_adds : Adds (here d 0 a) ap17 x at_first
  first_adds = record { acts = at_first; row = first_row; is = refl }

  second_adds : Adds (here d 0 b) to19 x at_second
  second_adds = record { acts = at_second; row = refl; is = refl }

  station_adds : Adds (here d 0 s) sta18 x at_station
  station_adds = record { acts = at_station; row = refl; is = refl }

  abbrev journal : List Entry
  journal = secret.after seed ssid psk mdid key last rounds19 sta18 ap17 to19 frames19 stage19 at_first at_second at_station

  -- the journal before each of the last two rounds
  before20 : earlier 20 journal ≡ stage19.journal
  before20 = secret.before_after seed ssid psk mdid key last rounds19 sta18 ap17 to19 frames19 stage19 at_first at_second at_station

  before19 : earlier 19 journal ≡ stage18.journal
  before19 = secret.earlier_after seed ssid psk mdid key last rounds19 sta18 ap17 to19 frames19 stage19 at_first at_second at_station 19 (omega arith) ∙ ap (earlier 19) journal19
      ∙ earlier_push 19 19 b acts19 stage18.journal (omega arith) ∙ earlier_below 19 18 stage18.journal (omega arith) stage18.low

  first_is : history a journal ≡ add at_first (history a (earlier 20 journal))
  first_is = secret.ap_after seed ssid psk mdid key last rounds19 sta18 ap17 to19 frames19 stage19 at_first at_second at_station ∙ ap (add at_first) (sym (ap (history a) before20 ∙ stage19.ap_is))

  second_is : history b journal ≡ add at_second (history b (earlier 20 journal))
  second_is = secret.to_after seed ssid psk mdid key last rounds19 sta18 ap17 to19 frames19 stage19 at_first at_second at_station ∙ ap (add at_second) (sym (ap (history b) before20 ∙ stage19.to_is))

  station_is : history s journal ≡ add at_station (history s (earlier 20 journal))
  station_is = secret.sta_after seed ssid psk mdid key last rounds19 sta18 ap17 to19 frames19 stage19 at_first at_second at_station ∙ ap (add at_station) (sym (ap (history s) before20 ∙ stage19.sta_is))

  network_then : present h (earlier 19 journal) ≡ d
  network_then = ap (present h) before19 ∙ stage18.network

  network_now : present h journal ≡ e
  network_now = refl

  explained_is : Explained h (second_change key last) journal
  explained_is = secret.explained_after seed ssid psk mdid key last rounds19 sta18 ap17 to19 frames19 stage19 at_first at_second at_station first_adds second_adds station_adds

  right_is : AnsweredInTime h journal
  right_is = secret.right_after seed ssid psk mdid key last rounds19 sta18 ap17 to19 frames19 stage19 at_first at_second at_station refl refl refl

  found_there : In (Looked id name s (Found r1)) (add at_second to19)
  found_there = inr (inr (inr (inr (inr (inr (inr (inl refl)))))))

  pub changed : TimelyIsRight → HasSecondChange (second_pair seed ssid psk mdid) key last
  changed law = record {
    journal = journal;
    explained = explained_is;
    held = law h journal right_is;
    network = d;
    is_network = network_then;
    psk_is = refl;
    found = subst (In (Looked id name s (Found r1))) (sym (secret.to_after seed ssid psk mdid key last rounds19 sta18 ap17 to19 frames19 stage19 at_first at_second at_station)) found_there;
    last_is = ap (λ (n : Domain). psk_of n s) network_now;
    at_first = first_is;
    at_second = second_is;
    at_station = station_is;
  }
