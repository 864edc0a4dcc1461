-- The last rounds of an example with suite 4 in which the key of the station is changed before its request comes.
use Rattle.std.proofs.Common.{◌≡◌, ℕ, false, List, [], ◌∷◌, Option, Some, None, refl, sym, ap, inl, inr}
use Rattle.air_frame.specs.Sent.{ft_resp_octets}
use Rattle.domain_base.specs.declared.names.Node.{Node}
use Rattle.domain_rules.proofs.Exchange.{length-nonce}
use Rattle.domain_rules.specs.FastTransition.{root_name}
use Rattle.domain_rules.specs.Here.{here}
use Rattle.domain_rules.specs.KeyHolders.{revoke_answer}
use Rattle.domain_rules.specs.ChangedKeys.{secret_acts}
use Rattle.domain_rules.specs.Network.{address, psk_of, r0kh_id, root_at}
use Rattle.domain_rules.specs.Rows as event
use Rattle.domain_rules.specs.Rows.{Take, TakeRow, Adds}
use Rattle.domain_rules.specs.TransitionFrames.{sent_ft_refusal}
use Rattle.key_hierarchy.specs.declared.answers.PullAnswer.TheVariants.{Absent}
use Rattle.key_hierarchy.specs.declared.answers.RevokeAnswer.TheVariants as revoke
use Rattle.run_journal.specs.Holders.{row}
use Rattle.run_journal.specs.Questions.{attempt, add}
use Rattle.run_journal.specs.declared.acts.Act.TheVariants.{Closed, Took, Looked, Revoked, Secret}
use Rattle.run_journal.specs.declared.acts.Act.{Act}
use Rattle.run_journal.specs.declared.acts.Kind.TheVariants as kind
use Rattle.run_journal.specs.declared.acts.Outcome.TheVariants.{Refused}
use Rattle.run_journal.specs.declared.acts.Part.TheVariants.{Attempt, Session}
use Rattle.run_journal.specs.declared.acts.Reason.TheVariants as reason
use Rattle.run_journal.specs.declared.domain.Domain.{Domain}
use Rattle.run_journal.specs.declared.domain.Event.TheVariants.{Roam, Deliver}
use Rattle.run_journal.specs.declared.domain.Event.TheVariants as asks
use Rattle.run_journal.specs.declared.domain.Event.{Event}
use Rattle.example_domains.proofs.Elements.{same_bytes}
use Rattle.example_domains.proofs.LookedUp.{looked_elsewhere}
use Rattle.example_domains.proofs.Moments.{stands_in, LooksRight}
use Rattle.example_domains.proofs.RefusedRequest.{refused_row}
use Rattle.example_domains.proofs.RoamingActs as w
use Rattle.example_domains.proofs.RoamingActs.{mobile}
use Rattle.example_domains.proofs.RoamingRounds.{stage8}
use Rattle.example_domains.proofs.SecretRound.{stage_after}
use Rattle.example_domains.proofs.Stages.{Stage, TimelyIsRight, looks_to, at_sta, at_ap, at_to}
use Rattle.example_domains.proofs.Trio.{IsTrio}
use Rattle.example_domains.specs.ChangedKey.{second_pair, change, HasChange}
use Rattle.example_domains.specs.Roaming.{association}

module _ (seed ssid psk mdid key : List ℕ) (t : IsTrio (mobile (second_pair seed ssid psk mdid)) 0 1 0) (u : IsTrio (mobile (second_pair seed ssid key mdid)) 0 1 0) where
  abbrev c : Domain
  c = second_pair seed ssid psk mdid

  -- the network before the change, and after it
  abbrev d : Domain
  d = w.d c 0 1 0

  abbrev e : Domain
  e = w.d (second_pair seed ssid key mdid) 0 1 0

  abbrev a : Node
  a = w.a c 0 1 0

  abbrev b : Node
  b = w.b c 0 1 0

  abbrev s : Node
  s = w.s c 0 1 0

  abbrev id : List ℕ
  id = w.id c 0 1 0

  abbrev name : List ℕ
  name = w.name c 0 1 0

  abbrev octets7 : List ℕ
  octets7 = w.octets7 c 0 1 0

  abbrev sta8 : List Act
  sta8 = w.sta8 c 0 1 0

  abbrev ap7 : List Act
  ap7 = w.ap7 c 0 1 0

  abbrev to0 : List Act
  to0 = w.to0 c 0 1 0

  abbrev frames8 : List (List ℕ)
  frames8 = octets7 ∷ w.frames7 c 0 1 0

  abbrev rounds8 : List (List Event)
  rounds8 = (Roam 0 1 ∷ []) ∷ association 0 0

  abbrev st : Stage d d 0 1 0 rounds8 sta8 ap7 to0 frames8
  st = stage8 c 0 1 0 t

  -- ---- round 9: the key is changed at both access points, and at the station
  abbrev there : List ℕ
  there = root_name d (root_at d s (r0kh_id d b)) s

  abbrev at_first : List Act
  at_first = Revoked id name s revoke.Revoked ∷ Closed s Session ∷ Secret s key ∷ []

  abbrev at_second : List Act
  at_second = Revoked (r0kh_id d b) there s revoke.Absent ∷ Secret s key ∷ []

  abbrev at_station : List Act
  at_station = Closed b Attempt ∷ Closed a Session ∷ Secret s key ∷ []

  abbrev x : event.NodeEvent
  x = event.Secret (Some 0) key

  live : row name ap7 ≡ Some s
  live = rw (same_bytes name) refl

  first_row : at_first ≡ secret_acts d a ap7 (Some 0) key
  first_row = ap (λ (o : Option Node). Revoked id name s (revoke_answer o) ∷ Closed s Session ∷ Secret s key ∷ []) (sym live)

  first_adds : Adds (here d 0 a) ap7 x at_first
  first_adds = record { acts = at_first; row = first_row; is = refl }

  second_adds : Adds (here d 0 b) to0 x at_second
  second_adds = record { acts = at_second; row = refl; is = refl }

  station_adds : Adds (here d 0 s) sta8 x at_station
  station_adds = record { acts = at_station; row = refl; is = refl }

  abbrev pub sta9 : List Act
  sta9 = add at_station sta8

  abbrev pub ap9 : List Act
  ap9 = add at_first ap7

  abbrev to9 : List Act
  to9 = add at_second to0

  abbrev rounds9 : List (List Event)
  rounds9 = (asks.Secret (Some 0) key ∷ []) ∷ rounds8

  stage9 : Stage d e 0 1 0 rounds9 sta9 ap9 to9 frames8
  stage9 = stage_after seed ssid psk mdid psk key rounds8 sta8 ap7 to0 frames8 st at_first at_second at_station first_adds second_adds station_adds refl refl refl refl

  -- ---- round 10: the request names the old key, and is refused
  abbrev acts10 : List Act
  acts10 = Took (Some s) octets7 kind.FtReq (Refused reason.Name) None ∷ Looked id name s Absent ∷ sent_ft_refusal e b s 53 ∷ []

  over10 : attempt s to9 ≡ None
  over10 = refl

  row10 : TakeRow (here e 0 b) to9 octets7 acts10
  row10 = refused_row (second_pair seed ssid key mdid) 0 1 0 u psk to9 (w.snonce2 c 0 1 0) (length-nonce d s 1) over10

  stands10 : stands_in name s ap9 ≡ false
  stands10 = rw (same_bytes name) refl

  looks10 : LooksRight d 10 b acts10 stage9.journal
  looks10 = looked_elsewhere d e 9 b (Took (Some s) octets7 kind.FtReq (Refused reason.Name) None) id name s Absent (sent_ft_refusal e b s 53 ∷ []) stage9.journal
      a ap9 refl refl t.holds t.apart.one stage9.low stage9.network stage9.ap_is stands10 tt

  abbrev pub to10 : List Act
  to10 = add acts10 to9

  abbrev pub frames10 : List (List ℕ)
  frames10 = ft_resp_octets (address e s) (address e b) (address e b) 53 [] ∷ frames8

  pub stage10 : Stage d e 0 1 0 (change key) sta9 ap9 to10 frames10
  stage10 = looks_to d e 0 1 0 t.apart rounds9 sta9 ap9 to9 frames8 stage9 (Deliver 7 b) acts10 (Take octets7) (octets7, (stage9.were.0, (refl, refl))) row10 refl looks10

  pub changed : TimelyIsRight → HasChange (second_pair seed ssid psk mdid) key
  changed law = record {
    journal = stage10.journal;
    explained = stage10.explained;
    held = law d stage10.journal stage10.right;
    revoked = at_ap d e 0 1 0 (change key) _ _ _ _ stage10 _ (inr (inr (inl refl)));
    none_there = at_to d e 0 1 0 (change key) _ _ _ _ stage10 _ (inr (inr (inr (inr (inl refl)))));
    closed = at_ap d e 0 1 0 (change key) _ _ _ _ stage10 _ (inr (inl refl));
    dropped = at_sta d e 0 1 0 (change key) _ _ _ _ stage10 _ (inr (inr (inl refl)));
    left = at_sta d e 0 1 0 (change key) _ _ _ _ stage10 _ (inr (inl refl));
    at_first = at_ap d e 0 1 0 (change key) _ _ _ _ stage10 _ (inl refl);
    at_second = at_to d e 0 1 0 (change key) _ _ _ _ stage10 _ (inr (inr (inr (inl refl))));
    at_station = at_sta d e 0 1 0 (change key) _ _ _ _ stage10 _ (inl refl);
    key_is = ap (λ (n : Domain). psk_of n s) stage10.network;
    looked = at_to d e 0 1 0 (change key) _ _ _ _ stage10 _ (inr (inl refl));
    request = octets7;
    refused = at_to d e 0 1 0 (change key) _ _ _ _ stage10 _ (inr (inr (inl refl)));
  }
