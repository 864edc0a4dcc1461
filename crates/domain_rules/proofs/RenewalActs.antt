-- The acts of the rounds of an example of the group key handshake, after a whole four-way handshake, and of a second association.
use Rattle.air_frame.specs.Sent.{assoc_req_octets, assoc_resp_octets}
use Rattle.domain_base.specs.declared.names.Node.TheVariants.{Ap, Sta}
use Rattle.domain_base.specs.declared.names.Node.{Node}
use Rattle.domain_base.specs.declared.names.Peer.TheVariants.{One, All}
use Rattle.domain_rules.specs.Frames.{assoc_req_elements, assoc_resp_elements, aid, in_data, m2_frame, sent_assoc_req, sent_assoc_resp, sent_m1, sent_m2, frame_seal, m3_frame, m4_frame, sent_m3, sent_m4, g1_frame, g2_frame, sent_g1, sent_g2, keyed_by}
use Rattle.domain_rules.specs.Network.{address, mac, nonce, gtk, inputs, root}
use Rattle.eapol_key.specs.Octets.{frame_octets}
use Rattle.eapol_key.specs.Sent.{sent_fields}
use Rattle.eapol_key.specs.declared.messages.Message.TheVariants.{M1, M2, M3, G1, G2}
use Rattle.key_hierarchy.specs.Keys.{ptk}
use Rattle.key_hierarchy.specs.declared.inputs.Inputs.{Inputs}
use Rattle.run_journal.specs.declared.acts.GroupKind.TheVariants as groups
use Rattle.run_journal.specs.Acts.{Derivation, GroupKey}
use Rattle.run_journal.specs.Questions.{add}
use Rattle.run_journal.specs.declared.acts.Act.TheVariants.{Opened, Drew, Derived, Took, Installed, Resumed, Finished, Closed}
use Rattle.run_journal.specs.declared.acts.Act.{Act}
use Rattle.run_journal.specs.declared.acts.Drawn.TheVariants as draw
use Rattle.run_journal.specs.declared.acts.Drawn.TheVariants.{Nonce}
use Rattle.run_journal.specs.declared.acts.Key.TheVariants.{Pairwise, Group}
use Rattle.run_journal.specs.declared.acts.Kind.TheVariants as kind
use Rattle.run_journal.specs.declared.acts.Outcome.TheVariants.{Accepted}
use Rattle.run_journal.specs.declared.acts.Part.TheVariants.{Session}
use Rattle.run_journal.specs.declared.acts.Seal.{Seal}
use Rattle.run_journal.specs.declared.acts.Start.TheVariants as start
use Rattle.run_journal.specs.declared.domain.Domain.{Domain}
use Rattle.run_journal.specs.declared.domain.Event.TheVariants.{Connect, Deliver, Rekey}
use Rattle.run_journal.specs.declared.domain.Event.{Event}
use Rattle.std.proofs.Common.{ℕ, List, [], ◌∷◌, Some, None}
use Rattle.domain_rules.proofs.HandshakeActs as w
use Rattle.domain_rules.specs.GroupKeys.{gtk_news}

module _ (d : Domain) (k m : ℕ) where
  abbrev pub a : Node
  a = Ap k

  abbrev pub s : Node
  s = Sta m

  abbrev pub i : Inputs
  i = w.i d k m

  abbrev pub key : Derivation
  key = w.key d k m

  -- the new group key, the third value that the access point draws
  abbrev pub new : GroupKey
  new = record { key = gtk d a 2; id = 2 }

  -- the frames of the group key handshake
  abbrev pub octets9 : List ℕ
  octets9 = in_data d a s (g1_frame d (keyed_by i) 4 (gtk_news new 0))

  abbrev pub octets10 : List ℕ
  octets10 = in_data d s a (g2_frame d (keyed_by i) 4)

  abbrev pub seal9 : Seal
  seal9 = frame_seal (ptk i).kck (g1_frame d (keyed_by i) 4 (gtk_news new 0))

  abbrev pub seal10 : Seal
  seal10 = frame_seal (ptk i).kck (g2_frame d (keyed_by i) 4)

  -- the acts of each round
  abbrev pub acts10 : List Act
  acts10 = Drew (draw.Group groups.Gtk new.key) ∷ sent_g1 d a s (keyed_by i) 4 (gtk_news new 0) ∷ []

  abbrev pub acts11 : List Act
  acts11 = Took (Some a) octets9 (kind.Key G1) Accepted (Some seal9) ∷ Installed (One a) (Group groups.Gtk new.key new.id (mac d a)) ∷ sent_g2 d s a (keyed_by i) 4 ∷ []

  abbrev pub taken12 : List Act
  taken12 = Took (Some s) octets10 (kind.Key G2) Accepted (Some seal10) ∷ []

  abbrev pub acts12 : List Act
  acts12 = Took (Some s) octets10 (kind.Key G2) Accepted (Some seal10) ∷ Installed All (Group groups.Gtk new.key new.id (mac d a)) ∷ []

  abbrev pub sta8 : List Act
  sta8 = w.sta8 d k m

  abbrev pub sta11 : List Act
  sta11 = add acts11 sta8

  abbrev pub ap9 : List Act
  ap9 = w.ap9 d k m

  abbrev pub ap10 : List Act
  ap10 = add acts10 ap9

  abbrev pub ap12 : List Act
  ap12 = add acts12 ap10

  -- the rounds, the last first
  abbrev pub rounds9 : List (List Event)
  rounds9 = w.rounds9 d k m

  abbrev pub rounds10 : List (List Event)
  rounds10 = (Rekey k ∷ []) ∷ rounds9

  abbrev pub rounds11 : List (List Event)
  rounds11 = (Deliver 9 s ∷ []) ∷ rounds10

  abbrev pub rounds12 : List (List Event)
  rounds12 = (Deliver 10 a ∷ []) ∷ rounds11

  -- the second association: its nonces and its key
  abbrev pub snonce : List ℕ
  snonce = nonce d s 1

  abbrev pub anonce : List ℕ
  anonce = nonce d a 3

  abbrev pub i2 : Inputs
  i2 = inputs d (root d s) s a snonce anonce

  abbrev pub key2 : Derivation
  key2 = record { inputs = i2; ptk = ptk i2 }

  -- its frames
  abbrev pub octets11 : List ℕ
  octets11 = assoc_req_octets (address d a) (address d s) (address d a) (assoc_req_elements d)

  abbrev pub octets12 : List ℕ
  octets12 = assoc_resp_octets (address d s) (address d a) (address d a) 0 (aid s) (assoc_resp_elements d a)

  abbrev pub octets13 : List ℕ
  octets13 = in_data d a s (frame_octets (sent_fields M1 d.akm 1 anonce 0 []))

  abbrev pub octets14 : List ℕ
  octets14 = in_data d s a (m2_frame d (keyed_by i2) 1 [])

  abbrev pub octets15 : List ℕ
  octets15 = in_data d a s (m3_frame d a (keyed_by i2) 2 (gtk_news new 0))

  abbrev pub octets16 : List ℕ
  octets16 = in_data d s a (m4_frame d (keyed_by i2) 2)

  abbrev pub seal14 : Seal
  seal14 = frame_seal (ptk i2).kck (m2_frame d (keyed_by i2) 1 [])

  abbrev pub seal15 : Seal
  seal15 = frame_seal (ptk i2).kck (m3_frame d a (keyed_by i2) 2 (gtk_news new 0))

  -- its acts
  abbrev pub acts13 : List Act
  acts13 = Closed a Session ∷ Opened a start.Connect ∷ Drew (Nonce snonce) ∷ sent_assoc_req d s a ∷ []

  abbrev pub acts14 : List Act
  acts14 = Took (Some s) octets11 kind.AssocReq Accepted None ∷ Opened s start.Connect ∷ Drew (Nonce anonce) ∷ sent_assoc_resp d a s ∷ sent_m1 d a s 1 anonce ∷ []

  abbrev pub acts15 : List Act
  acts15 = Took (Some a) octets12 kind.AssocResp Accepted None ∷ []

  abbrev pub acts16 : List Act
  acts16 = Took (Some a) octets13 (kind.Key M1) Accepted None ∷ Derived a i2 (ptk i2) ∷ sent_m2 d s a (keyed_by i2) 1 [] ∷ []

  abbrev pub acts17 : List Act
  acts17 = Took (Some s) octets14 (kind.Key M2) Accepted (Some seal14) ∷ Derived s i2 (ptk i2) ∷ sent_m3 d a s (keyed_by i2) 2 (gtk_news new 0) ∷ []

  abbrev pub acts18 : List Act
  acts18 = Took (Some a) octets15 (kind.Key M3) Accepted (Some seal15) ∷ Installed (One a) (Pairwise (ptk i2).tk i2) ∷ Resumed a (Group groups.Gtk new.key new.id (mac d a)) ∷ Finished a i2 ∷ sent_m4 d s a (keyed_by i2) 2 ∷ []

  -- the parts of the second attempts, and the histories
  abbrev pub asked : List Act
  asked = sent_assoc_req d s a ∷ Drew (Nonce snonce) ∷ Opened a start.Connect ∷ []

  abbrev pub joined : List Act
  joined = add acts15 asked

  abbrev pub derived : List Act
  derived = add acts16 joined

  abbrev pub answered : List Act
  answered = sent_m1 d a s 1 anonce ∷ sent_assoc_resp d a s ∷ Drew (Nonce anonce) ∷ Opened s start.Connect ∷ []

  abbrev pub sta13 : List Act
  sta13 = add acts13 sta11

  abbrev pub sta15 : List Act
  sta15 = add acts15 sta13

  abbrev pub sta16 : List Act
  sta16 = add acts16 sta15

  abbrev pub sta18 : List Act
  sta18 = add acts18 sta16

  abbrev pub ap14 : List Act
  ap14 = add acts14 ap12

  abbrev pub ap17 : List Act
  ap17 = add acts17 ap14

  abbrev pub rounds13 : List (List Event)
  rounds13 = (Connect m k ∷ []) ∷ rounds12

  abbrev pub rounds14 : List (List Event)
  rounds14 = (Deliver 11 a ∷ []) ∷ rounds13

  abbrev pub rounds15 : List (List Event)
  rounds15 = (Deliver 12 s ∷ []) ∷ rounds14

  abbrev pub rounds16 : List (List Event)
  rounds16 = (Deliver 13 s ∷ []) ∷ rounds15

  abbrev pub rounds17 : List (List Event)
  rounds17 = (Deliver 14 a ∷ []) ∷ rounds16

  abbrev pub rounds18 : List (List Event)
  rounds18 = (Deliver 15 s ∷ []) ∷ rounds17
