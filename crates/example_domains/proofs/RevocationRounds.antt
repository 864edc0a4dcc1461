-- The last rounds of an example with suite 4: the key of the station is revoked, and a request that names it is refused.
use Rattle.std.proofs.Common.{◌≡◌, ℕ, false, List, [], ◌∷◌, Option, Some, None, refl, sym, ap, arith}
use Rattle.domain_base.specs.declared.names.Node.{Node}
use Rattle.domain_rules.proofs.Exchange.{length-nonce}
use Rattle.domain_rules.proofs.Parts.{same-refl}
use Rattle.domain_rules.specs.DataExample.{IsPayload}
use Rattle.domain_rules.specs.Here.{here}
use Rattle.domain_rules.specs.Network.{psk_of}
use Rattle.domain_rules.specs.KeyHolders.{revoke_answer, revoke_acts}
use Rattle.domain_rules.specs.Rows as event
use Rattle.domain_rules.specs.Rows.{Take, TakeRow}
use Rattle.domain_rules.specs.TransitionFrames.{sent_ft_refusal}
use Rattle.domain_rules.specs.TransitionRows.{RoamRow, Asks}
use Rattle.key_hierarchy.specs.declared.answers.PullAnswer.TheVariants.{Absent}
use Rattle.run_journal.specs.Holders.{row}
use Rattle.run_journal.specs.Questions.{attempt}
use Rattle.run_journal.specs.declared.acts.Act.TheVariants.{Took, Revoked}
use Rattle.run_journal.specs.declared.acts.Act.{Act}
use Rattle.run_journal.specs.declared.acts.Kind.TheVariants as kind
use Rattle.run_journal.specs.declared.acts.Outcome.TheVariants.{Refused}
use Rattle.run_journal.specs.declared.acts.Reason.TheVariants as reason
use Rattle.run_journal.specs.declared.domain.Domain.{Domain}
use Rattle.run_journal.specs.declared.domain.Event.TheVariants.{Roam, Deliver, Revoke}
use Rattle.run_journal.specs.declared.domain.Event.{Event}
use Rattle.example_domains.proofs.Elements.{same_bytes}
use Rattle.example_domains.proofs.LookedUp.{looked_elsewhere}
use Rattle.example_domains.proofs.Moments.{stands_in, LooksRight}
use Rattle.example_domains.proofs.RefusedRequest.{refused_row}
use Rattle.example_domains.proofs.ReturnRounds.{stage22}
use Rattle.example_domains.proofs.RoamingActs as w
use Rattle.example_domains.proofs.RoamingActs.{mobile}
use Rattle.example_domains.proofs.ServiceActs as v
use Rattle.example_domains.proofs.Stages.{Stage, by_sta, by_ap, looks_to}
use Rattle.example_domains.proofs.Trio.{IsTrio}
use Rattle.example_domains.specs.Roaming.{return, revocation}

module _ (c : Domain) (k l m : ℕ) (t : IsTrio (mobile c) k l m) (up down : List ℕ) (up_is : IsPayload up) (down_is : IsPayload down) where
  abbrev d : Domain
  d = w.d c k l m

  abbrev a : Node
  a = w.a c k l m

  abbrev b : Node
  b = w.b c k l m

  abbrev s : Node
  s = w.s c k l m

  abbrev id : List ℕ
  id = w.id c k l m

  abbrev name : List ℕ
  name = w.name c k l m

  abbrev snonce : List ℕ
  snonce = w.snonce4 c k l m

  abbrev octets18 : List ℕ
  octets18 = w.octets18 c k l m

  abbrev sta22 : List Act
  sta22 = v.sta22 c k l m up down

  abbrev sta24 : List Act
  sta24 = v.sta24 c k l m up down

  abbrev ap21 : List Act
  ap21 = w.ap21 c k l m

  abbrev ap23 : List Act
  ap23 = w.ap23 c k l m

  abbrev to16 : List Act
  to16 = v.to16 c k l m up down

  abbrev to25 : List Act
  to25 = v.to25 c k l m up down

  abbrev frames22 : List (List ℕ)
  frames22 = v.frames22 c k l m up down

  -- ---- round 23: access point k revokes the key
  abbrev rounds22 : List (List Event)
  rounds22 = return k l m up down

  abbrev rounds23 : List (List Event)
  rounds23 = (Revoke k m ∷ []) ∷ rounds22

  live23 : row name ap21 ≡ Some s
  live23 = rw (same_bytes name) refl

  row23 : w.acts23 c k l m ≡ revoke_acts d a ap21 s
  row23 = ap (λ (o : Option Node). Revoked id name s (revoke_answer o) ∷ []) (sym live23)

  stage23 : Stage d d k l m rounds23 sta22 ap23 to16 frames22
  stage23 = by_ap d d k l m t.apart rounds22 sta22 ap21 to16 frames22 (stage22 c k l m t up down up_is down_is) (Revoke k m) (w.acts23 c k l m) (event.Revoke m) (refl, refl) row23 refl refl

  -- ---- round 24: the station asks access point l once more
  abbrev rounds24 : List (List Event)
  rounds24 = (Roam m l ∷ []) ∷ rounds23

  row24 : RoamRow (here d 0 s) sta22 b (w.acts24 c k l m)
  row24 = Asks refl a refl t.apart.other (omega arith) refl

  stage24 : Stage d d k l m rounds24 sta24 ap23 to16 (octets18 ∷ frames22)
  stage24 = by_sta d d k l m t.apart rounds23 sta22 ap23 to16 frames22 stage23 (Roam m l) (w.acts24 c k l m) (event.Roam l) (refl, refl) row24 refl

  -- ---- round 25: the access point finds the key no longer, and refuses
  over25 : attempt s to16 ≡ None
  over25 = rw (same-refl s) refl

  row25 : TakeRow (here d 0 b) to16 octets18 (w.acts25 c k l m)
  row25 = refused_row c k l m t (psk_of d s) to16 snonce (length-nonce d s 3) over25

  stands25 : stands_in name s ap23 ≡ false
  stands25 = rw (same_bytes name) refl

  looks25 : LooksRight d 25 b (w.acts25 c k l m) stage24.journal
  looks25 = looked_elsewhere d d 24 b (Took (Some s) octets18 kind.FtReq (Refused reason.Name) None) id name s Absent (sent_ft_refusal d b s 53 ∷ []) stage24.journal a ap23 refl refl t.holds t.apart.one stage24.low stage24.network stage24.ap_is stands25 tt

  pub stage25 : Stage d d k l m (revocation k l m up down) sta24 ap23 to25 (v.refusal c k l m up down ∷ octets18 ∷ frames22)
  stage25 = looks_to d d k l m t.apart rounds24 sta24 ap23 to16 (octets18 ∷ frames22) stage24 (Deliver 18 b) (w.acts25 c k l m) (Take octets18) (octets18, (stage24.were.0, (refl, refl))) row25 refl looks25
