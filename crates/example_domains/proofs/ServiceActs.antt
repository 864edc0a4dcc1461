-- The acts with data of an example with suite 4, and the histories from there on.
use Rattle.air_frame.specs.Sent.{data_header_octets, protected_data_octets, ft_resp_octets}
use Rattle.air_frame.specs.declared.frame.Direction.TheVariants.{ToDs, FromDs}
use Rattle.domain_base.specs.declared.names.Node.{Node}
use Rattle.domain_base.specs.declared.names.Peer.TheVariants.{One}
use Rattle.domain_rules.proofs.DataReads.{body_of}
use Rattle.domain_rules.specs.DataFrames.{data_seal, sent_data}
use Rattle.domain_rules.specs.Network.{address}
use Rattle.key_hierarchy.specs.Keys.{ptk}
use Rattle.run_journal.specs.Questions.{add}
use Rattle.run_journal.specs.declared.acts.Act.TheVariants.{Took, Used, HandedUp}
use Rattle.run_journal.specs.declared.acts.Act.{Act}
use Rattle.run_journal.specs.declared.acts.Kind.TheVariants as kind
use Rattle.run_journal.specs.declared.acts.Outcome.TheVariants.{Accepted}
use Rattle.run_journal.specs.declared.domain.Domain.{Domain}
use Rattle.std.proofs.Common.{ℕ, true, List, [], ◌∷◌, Some, None}
use Rattle.example_domains.proofs.RoamingActs as w

module _ (c : Domain) (k l m : ℕ) (up down : List ℕ) where
  abbrev d : Domain
  d = w.d c k l m

  abbrev b : Node
  b = w.b c k l m

  abbrev s : Node
  s = w.s c k l m

  abbrev pub tk : List ℕ
  tk = (ptk (w.i2 c k l m)).tk

  abbrev pub octets12 : List ℕ
  octets12 = protected_data_octets ToDs (Some 5) (address d b) (address d s) (address d b) (body_of ToDs (Some 5) (address d b) (address d s) (address d b) tk 0 1 up)

  abbrev pub octets13 : List ℕ
  octets13 = protected_data_octets FromDs None (address d s) (address d b) (address d b) (body_of FromDs None (address d s) (address d b) (address d b) tk 0 1 down)

  abbrev pub acts14 : List Act
  acts14 = Used (One b) tk 0 1 up ∷ sent_data d s (One b) (Some 5) tk 0 1 up ∷ []

  abbrev pub acts15 : List Act
  acts15 = Took (Some s) octets12 kind.Data Accepted (Some (data_seal tk (data_header_octets ToDs true (Some 5) (address d b) (address d s) (address d b)) 1 up)) ∷ HandedUp s tk 0 5 1 up ∷ []

  abbrev pub acts16 : List Act
  acts16 = Used (One s) tk 0 1 down ∷ sent_data d b (One s) None tk 0 1 down ∷ []

  abbrev pub acts17 : List Act
  acts17 = Took (Some b) octets13 kind.Data Accepted (Some (data_seal tk (data_header_octets FromDs true None (address d s) (address d b) (address d b)) 1 down)) ∷ HandedUp b tk 0 0 1 down ∷ []

  -- the station's history
  abbrev pub sta14 : List Act
  sta14 = add acts14 (w.sta13 c k l m)

  abbrev pub sta17 : List Act
  sta17 = add acts17 sta14

  abbrev pub sta18 : List Act
  sta18 = add (w.acts18 c k l m) sta17

  abbrev pub sta20 : List Act
  sta20 = add (w.acts20 c k l m) sta18

  abbrev pub sta22 : List Act
  sta22 = add (w.acts22 c k l m) sta20

  abbrev pub sta24 : List Act
  sta24 = add (w.acts24 c k l m) sta22

  -- that of access point l
  abbrev pub to15 : List Act
  to15 = add acts15 (w.to12 c k l m)

  abbrev pub to16 : List Act
  to16 = add acts16 to15

  abbrev pub to25 : List Act
  to25 = add (w.acts25 c k l m) to16

  -- the frames that were sent, the last first
  abbrev pub frames17 : List (List ℕ)
  frames17 = octets13 ∷ octets12 ∷ w.frames13 c k l m

  abbrev pub frames22 : List (List ℕ)
  frames22 = w.octets17 c k l m ∷ w.octets16 c k l m ∷ w.octets15 c k l m ∷ w.octets14 c k l m ∷ frames17

  -- the last of them refuses a request
  abbrev pub refusal : List ℕ
  refusal = ft_resp_octets (address d s) (address d b) (address d b) 53 []
