-- The rounds of an example with suite 4 with data: the station that roamed sends a payload to its access point, and the access point to it.
use Rattle.std.proofs.Common.{◌≡◌, ℕ, Bool, true, false, List, [], ◌∷◌, Some, None, refl, arith}
use Rattle.std.specs.Prelude.{not, ◌&&◌, ◌||◌}
use Rattle.air_frame.specs.Fields.{HeaderFields}
use Rattle.air_frame.specs.Sent.{data_header_octets, sent_header}
use Rattle.air_frame.specs.declared.frame.Direction.TheVariants.{ToDs, FromDs}
use Rattle.domain_base.specs.declared.names.Node.{Node}
use Rattle.domain_base.specs.declared.names.Peer.TheVariants.{One}
use Rattle.domain_rules.proofs.DataExchange.{sends_first, alone_at_ap, opens_pairwise, data_row}
use Rattle.domain_rules.proofs.DataReads.{IsMade, body_of, data_protected}
use Rattle.domain_rules.proofs.Exchange.{same_octets}
use Rattle.domain_rules.proofs.KeyOctets.{octets-tk}
use Rattle.domain_rules.proofs.Parts.{same-refl}
use Rattle.domain_rules.specs.DataExample.{IsPayload}
use Rattle.domain_rules.specs.DataVerdict.{opened_by}
use Rattle.domain_rules.specs.Here.{here}
use Rattle.domain_rules.specs.Network.{has_renewals, is_number, renews_at, address}
use Rattle.domain_rules.specs.PacketNumbers.{pairwise_got}
use Rattle.domain_rules.specs.Rows as event
use Rattle.domain_rules.specs.Rows.{Take, TakeRow}
use Rattle.domain_rules.specs.Verdict.{is_mine_or_group}
use Rattle.key_hierarchy.specs.declared.inputs.Inputs.{Inputs}
use Rattle.run_journal.specs.Acts.{Derivation}
use Rattle.run_journal.specs.Questions.{session, pairwise_uses}
use Rattle.run_journal.specs.declared.acts.Act.{Act}
use Rattle.run_journal.specs.declared.domain.Domain.{Domain}
use Rattle.run_journal.specs.declared.domain.Event.TheVariants.{Deliver, Send}
use Rattle.run_journal.specs.declared.domain.Event.{Event}
use Rattle.example_domains.proofs.Elements.{same_bytes}
use Rattle.example_domains.proofs.RoamingActs as w
use Rattle.example_domains.proofs.RoamingActs.{mobile}
use Rattle.example_domains.proofs.RoamingRounds.{stage13}
use Rattle.example_domains.proofs.ServiceActs as v
use Rattle.example_domains.proofs.Stages.{Stage, by_sta, by_to}
use Rattle.example_domains.proofs.Trio.{IsTrio}
use Rattle.example_domains.specs.Roaming.{roaming, service}

-- with suite 4 no pairwise key is renewed inside its session
none_at : (b at : Bool) → ((b && false) && at) ≡ false
none_at true at = refl
none_at false at = refl

never : (c : Domain) → renews_at (mobile c) 1 ≡ false
never c = none_at (has_renewals c) (is_number c.extras.renew_at 1)

module _ (c : Domain) (k l m : ℕ) (t : IsTrio (mobile c) k l m) (up down : List ℕ) (up_is : IsPayload up) (down_is : IsPayload down) where
  abbrev d : Domain
  d = w.d c k l m

  abbrev b : Node
  b = w.b c k l m

  abbrev s : Node
  s = w.s c k l m

  abbrev i : Inputs
  i = w.i2 c k l m

  abbrev key : Derivation
  key = w.key2 c k l m

  abbrev tk : List ℕ
  tk = v.tk c k l m up down

  abbrev octets12 : List ℕ
  octets12 = v.octets12 c k l m up down

  abbrev octets13 : List ℕ
  octets13 = v.octets13 c k l m up down

  abbrev sta13 : List Act
  sta13 = w.sta13 c k l m

  abbrev sta14 : List Act
  sta14 = v.sta14 c k l m up down

  abbrev sta17 : List Act
  sta17 = v.sta17 c k l m up down

  abbrev ap7 : List Act
  ap7 = w.ap7 c k l m

  abbrev to12 : List Act
  to12 = w.to12 c k l m

  abbrev to15 : List Act
  to15 = v.to15 c k l m up down

  abbrev to16 : List Act
  to16 = v.to16 c k l m up down

  abbrev frames13 : List (List ℕ)
  frames13 = w.frames13 c k l m

  abbrev rounds13 : List (List Event)
  rounds13 = roaming k l m

  -- ---- round 14: the station sends a payload
  has14 : session b sta13 ≡ Some key
  has14 = rw (same-refl b) refl

  used14 : pairwise_uses b sta13 ≡ 0
  used14 = rw (same-refl b) refl

  stage14 : Stage d d k l m ((Send s (One b) (Some 5) up ∷ []) ∷ rounds13) sta14 ap7 to12 (octets12 ∷ frames13)
  stage14 = by_sta d d k l m t.apart rounds13 sta13 ap7 to12 frames13 (stage13 c k l m t) (Send s (One b) (Some 5) up) (v.acts14 c k l m up down) (event.Send (One b) (Some 5) up) (refl, refl) (sends_first d s b sta13 key (Some 5) up has14 used14 (λ acts. refl)) refl

  -- ---- round 15: the access point hands it up
  made12 : IsMade ToDs (Some 5) (address d b) (address d s) (address d b) tk 0 1 up
  made12 = record {
    tid_low = omega arith;
    l1 = t.to_whole;
    l2 = t.sta_whole;
    l3 = t.to_whole;
    o1 = t.to_octets;
    o2 = t.sta_octets;
    o3 = t.to_octets;
    key = octets-tk i;
    id_low = omega arith;
    low = omega arith;
    octets = up_is.are;
    short = up_is.short;
  }

  abbrev fields12 : HeaderFields
  fields12 = sent_header (data_header_octets ToDs true (Some 5) (address d b) (address d s) (address d b)) (address d b) (address d s) (address d b)

  has15 : session s to12 ≡ Some key
  has15 = rw (same-refl s) refl

  got15 : pairwise_got s tk 5 to12 ≡ 0
  got15 = rw (same-refl s, same_bytes tk) refl

  under15 : opened_by b to12 s fields12 (Some 5) (body_of ToDs (Some 5) (address d b) (address d s) (address d b) tk 0 1 up) ≡ Some (record { key = tk; id = 0; tid = 5; kept = 0 })
  under15 = opens_pairwise b s to12 fields12 (Some 5) (body_of ToDs (Some 5) (address d b) (address d s) (address d b) tk 0 1 up) key 0 has15 refl
      (data_protected ToDs (Some 5) (address d b) (address d s) (address d b) tk 0 1 up made12).key_id got15

  mine15 : (not (is_mine_or_group d b fields12) || false) ≡ false
  mine15 = rw (same_octets d b) refl

  row15 : TakeRow (here d 0 b) to12 octets12 (v.acts15 c k l m up down)
  row15 = data_row d b s to12 ToDs (Some 5) (address d b) (address d s) (address d b) tk 0 1 up made12 5 0 t.to_finds mine15 under15 refl

  abbrev rounds14 : List (List Event)
  rounds14 = (Send s (One b) (Some 5) up ∷ []) ∷ rounds13

  stage15 : Stage d d k l m ((Deliver 12 b ∷ []) ∷ rounds14) sta14 ap7 to15 (octets12 ∷ frames13)
  stage15 = by_to d d k l m t.apart rounds14 sta14 ap7 to12 (octets12 ∷ frames13) stage14 (Deliver 12 b) (v.acts15 c k l m up down) (Take octets12) (octets12, (stage14.were.0, (refl, refl))) row15 refl refl

  -- ---- round 16: the access point sends one
  has16 : session s to15 ≡ Some key
  has16 = rw (same-refl s) refl

  used16 : pairwise_uses s to15 ≡ 0
  used16 = rw (same-refl s) refl

  abbrev rounds15 : List (List Event)
  rounds15 = (Deliver 12 b ∷ []) ∷ rounds14

  stage16 : Stage d d k l m ((Send b (One s) None down ∷ []) ∷ rounds15) sta14 ap7 to16 (octets13 ∷ octets12 ∷ frames13)
  stage16 = by_to d d k l m t.apart rounds15 sta14 ap7 to15 (octets12 ∷ frames13) stage15 (Send b (One s) None down) (v.acts16 c k l m up down) (event.Send (One s) None down) (refl, refl) (sends_first d b s to15 key None down has16 used16 (alone_at_ap d l to15 s key (never c))) refl refl

  -- ---- round 17: the station hands it up
  made13 : IsMade FromDs None (address d s) (address d b) (address d b) tk 0 1 down
  made13 = record {
    tid_low = tt;
    l1 = t.sta_whole;
    l2 = t.to_whole;
    l3 = t.to_whole;
    o1 = t.sta_octets;
    o2 = t.to_octets;
    o3 = t.to_octets;
    key = octets-tk i;
    id_low = omega arith;
    low = omega arith;
    octets = down_is.are;
    short = down_is.short;
  }

  abbrev fields13 : HeaderFields
  fields13 = sent_header (data_header_octets FromDs true None (address d s) (address d b) (address d b)) (address d s) (address d b) (address d b)

  has17 : session b sta14 ≡ Some key
  has17 = rw (same-refl b) refl

  got17 : pairwise_got b tk 0 sta14 ≡ 0
  got17 = rw (same-refl b, same_bytes tk) refl

  under17 : opened_by s sta14 b fields13 None (body_of FromDs None (address d s) (address d b) (address d b) tk 0 1 down) ≡ Some (record { key = tk; id = 0; tid = 0; kept = 0 })
  under17 = opens_pairwise s b sta14 fields13 None (body_of FromDs None (address d s) (address d b) (address d b) tk 0 1 down) key 0 has17 t.alone
      (data_protected FromDs None (address d s) (address d b) (address d b) tk 0 1 down made13).key_id got17

  mine17 : (not (is_mine_or_group d s fields13) || false) ≡ false
  mine17 = rw (same_octets d s) refl

  row17 : TakeRow (here d 0 s) sta14 octets13 (v.acts17 c k l m up down)
  row17 = data_row d s b sta14 FromDs None (address d s) (address d b) (address d b) tk 0 1 down made13 0 0 t.finds_to mine17 under17 refl

  abbrev rounds16 : List (List Event)
  rounds16 = (Send b (One s) None down ∷ []) ∷ rounds15

  pub stage17 : Stage d d k l m (service k l m up down) sta17 ap7 to16 (v.frames17 c k l m up down)
  stage17 = by_sta d d k l m t.apart rounds16 sta14 ap7 to16 (octets13 ∷ octets12 ∷ frames13) stage16 (Deliver 13 s) (v.acts17 c k l m up down) (Take octets13) (octets13, (stage16.were.0, (refl, refl))) row17 refl
