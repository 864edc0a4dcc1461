-- The acts of the rounds of an example with data both ways and to all, after a whole four-way handshake.
use Rattle.std.proofs.Common.{ℕ, true, List, [], ◌∷◌, Some, None}
use Rattle.domain_base.specs.declared.names.Node.{Node}
use Rattle.domain_base.specs.declared.names.Node.TheVariants.{Ap, Sta}
use Rattle.domain_base.specs.declared.names.Peer.TheVariants.{One, All}
use Rattle.air_frame.specs.declared.frame.Direction.TheVariants.{ToDs, FromDs}
use Rattle.air_frame.specs.Sent.{data_header_octets, protected_data_octets}
use Rattle.key_hierarchy.specs.Keys.{ptk}
use Rattle.key_hierarchy.specs.declared.inputs.Inputs.{Inputs}
use Rattle.run_journal.specs.Acts.{Derivation, GroupKey}
use Rattle.run_journal.specs.Questions.{add}
use Rattle.run_journal.specs.declared.acts.Act.TheVariants.{Took, Used, HandedUp}
use Rattle.run_journal.specs.declared.acts.Act.{Act}
use Rattle.run_journal.specs.declared.acts.Kind.TheVariants as kind
use Rattle.run_journal.specs.declared.acts.Outcome.TheVariants.{Accepted, Refused}
use Rattle.run_journal.specs.declared.acts.Reason.TheVariants.{Replayed}
use Rattle.run_journal.specs.declared.domain.Domain.{Domain}
use Rattle.run_journal.specs.declared.domain.Event.TheVariants.{Deliver, Send}
use Rattle.run_journal.specs.declared.domain.Event.{Event}
use Rattle.domain_rules.specs.DataExample.{Payloads}
use Rattle.domain_rules.specs.DataFrames.{broadcast, data_seal, sent_data}
use Rattle.domain_rules.specs.Network.{address}
use Rattle.domain_rules.proofs.DataReads.{body_of}
use Rattle.domain_rules.proofs.HandshakeActs as w

module _ (d : Domain) (k m : ℕ) (p : Payloads) where
  abbrev pub a : Node
  a = Ap k

  abbrev pub s : Node
  s = Sta m

  abbrev pub i : Inputs
  i = w.i d k m

  abbrev pub key : Derivation
  key = w.key d k m

  abbrev pub tk : List ℕ
  tk = (ptk i).tk

  abbrev pub g : GroupKey
  g = w.g d k m

  -- the frames
  abbrev pub octets9 : List ℕ
  octets9 = protected_data_octets ToDs (Some 5) (address d a) (address d s) (address d a) (body_of ToDs (Some 5) (address d a) (address d s) (address d a) tk 0 1 p.up)

  abbrev pub octets10 : List ℕ
  octets10 = protected_data_octets FromDs None (address d s) (address d a) (address d a) (body_of FromDs None (address d s) (address d a) (address d a) tk 0 1 p.down)

  abbrev pub octets11 : List ℕ
  octets11 = protected_data_octets FromDs None broadcast (address d a) (address d a) (body_of FromDs None broadcast (address d a) (address d a) g.key 1 1 p.all)

  -- the acts of each round
  abbrev pub acts10 : List Act
  acts10 = Used (One a) tk 0 1 p.up ∷ sent_data d s (One a) (Some 5) tk 0 1 p.up ∷ []

  abbrev pub acts11 : List Act
  acts11 = Took (Some s) octets9 kind.Data Accepted (Some (data_seal tk (data_header_octets ToDs true (Some 5) (address d a) (address d s) (address d a)) 1 p.up)) ∷ HandedUp s tk 0 5 1 p.up ∷ []

  abbrev pub acts12 : List Act
  acts12 = Used (One s) tk 0 1 p.down ∷ sent_data d a (One s) None tk 0 1 p.down ∷ []

  abbrev pub acts13 : List Act
  acts13 = Took (Some a) octets10 kind.Data Accepted (Some (data_seal tk (data_header_octets FromDs true None (address d s) (address d a) (address d a)) 1 p.down)) ∷ HandedUp a tk 0 0 1 p.down ∷ []

  abbrev pub acts14 : List Act
  acts14 = Used All g.key 1 1 p.all ∷ sent_data d a All None g.key 1 1 p.all ∷ []

  abbrev pub acts15 : List Act
  acts15 = Took (Some a) octets11 kind.Data Accepted (Some (data_seal g.key (data_header_octets FromDs true None broadcast (address d a) (address d a)) 1 p.all)) ∷ HandedUp a g.key 1 0 1 p.all ∷ []

  abbrev pub acts16 : List Act
  acts16 = Took (Some a) octets11 kind.Data (Refused (Replayed 1)) None ∷ []

  -- the station's history after round 8, 10, 13, 15 and 16
  abbrev pub sta8 : List Act
  sta8 = w.sta8 d k m

  abbrev pub sta10 : List Act
  sta10 = add acts10 sta8

  abbrev pub sta13 : List Act
  sta13 = add acts13 sta10

  abbrev pub sta15 : List Act
  sta15 = add acts15 sta13

  abbrev pub sta16 : List Act
  sta16 = add acts16 sta15

  -- the access point's after round 9, 11, 12 and 14
  abbrev pub ap9 : List Act
  ap9 = w.ap9 d k m

  abbrev pub ap11 : List Act
  ap11 = add acts11 ap9

  abbrev pub ap12 : List Act
  ap12 = add acts12 ap11

  abbrev pub ap14 : List Act
  ap14 = add acts14 ap12

  -- the rounds, the last first
  abbrev pub rounds9 : List (List Event)
  rounds9 = w.rounds9 d k m

  abbrev pub rounds10 : List (List Event)
  rounds10 = (Send s (One a) (Some 5) p.up ∷ []) ∷ rounds9

  abbrev pub rounds11 : List (List Event)
  rounds11 = (Deliver 9 a ∷ []) ∷ rounds10

  abbrev pub rounds12 : List (List Event)
  rounds12 = (Send a (One s) None p.down ∷ []) ∷ rounds11

  abbrev pub rounds13 : List (List Event)
  rounds13 = (Deliver 10 s ∷ []) ∷ rounds12

  abbrev pub rounds14 : List (List Event)
  rounds14 = (Send a All None p.all ∷ []) ∷ rounds13

  abbrev pub rounds15 : List (List Event)
  rounds15 = (Deliver 11 s ∷ []) ∷ rounds14

  abbrev pub rounds16 : List (List Event)
  rounds16 = (Deliver 11 s ∷ []) ∷ rounds15
