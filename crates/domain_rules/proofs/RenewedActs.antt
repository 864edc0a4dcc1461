-- The acts of the rounds of an example of the renewal of a pairwise key inside its session, after a whole four-way handshake.
use Rattle.domain_base.specs.declared.names.Node.TheVariants.{Ap, Sta}
use Rattle.domain_base.specs.declared.names.Node.{Node}
use Rattle.domain_base.specs.declared.names.Peer.TheVariants.{One, All}
use Rattle.domain_rules.specs.Frames.{in_data, renewal_m2_frame, sent_m1, sent_m2_by, frame_seal, m3_frame, m4_frame, sent_m3, sent_m4, g1_frame, g2_frame, sent_g1, sent_g2, keyed_by}
use Rattle.domain_rules.specs.Network.{mac, nonce, gtk, inputs, root}
use Rattle.domain_rules.specs.GroupKeys.{gtk_news}
use Rattle.eapol_key.specs.Octets.{frame_octets}
use Rattle.eapol_key.specs.Sent.{sent_fields}
use Rattle.eapol_key.specs.declared.messages.Message.TheVariants.{M1, M2, M3, M4, G1, G2}
use Rattle.key_hierarchy.specs.Keys.{ptk}
use Rattle.key_hierarchy.specs.declared.inputs.Inputs.{Inputs}
use Rattle.run_journal.specs.declared.acts.GroupKind.TheVariants as groups
use Rattle.run_journal.specs.Acts.{Derivation, GroupKey}
use Rattle.run_journal.specs.Questions.{add}
use Rattle.run_journal.specs.declared.acts.Act.TheVariants.{Opened, Drew, Derived, Took, Installed, Resumed, Finished, Closed}
use Rattle.run_journal.specs.declared.acts.Act.{Act}
use Rattle.run_journal.specs.declared.acts.Drawn.TheVariants as draw
use Rattle.run_journal.specs.declared.acts.Drawn.TheVariants.{Nonce}
use Rattle.run_journal.specs.declared.acts.Key.TheVariants.{Pairwise, Group}
use Rattle.run_journal.specs.declared.acts.Kind.TheVariants as kind
use Rattle.run_journal.specs.declared.acts.Outcome.TheVariants.{Accepted}
use Rattle.run_journal.specs.declared.acts.Part.TheVariants.{Session}
use Rattle.run_journal.specs.declared.acts.Seal.{Seal}
use Rattle.run_journal.specs.declared.acts.Start.TheVariants as start
use Rattle.run_journal.specs.declared.domain.Domain.{Domain}
use Rattle.run_journal.specs.declared.domain.Event.TheVariants.{Deliver, Retry, Rekey, Renew}
use Rattle.run_journal.specs.declared.domain.Event.{Event}
use Rattle.std.proofs.Common.{ℕ, true, List, [], ◌∷◌, Some, None}
use Rattle.domain_rules.proofs.HandshakeActs as w

module _ (d : Domain) (k m : ℕ) where
  abbrev pub a : Node
  a = Ap k

  abbrev pub s : Node
  s = Sta m

  -- the key of the session, and the first group key
  abbrev pub i : Inputs
  i = w.i d k m

  abbrev pub key : Derivation
  key = w.key d k m

  abbrev pub g : GroupKey
  g = w.g d k m

  -- the nonces of the renewal and its key
  abbrev pub snonce : List ℕ
  snonce = nonce d s 1

  abbrev pub anonce : List ℕ
  anonce = nonce d a 2

  abbrev pub i2 : Inputs
  i2 = inputs d (root d s) s a snonce anonce

  abbrev pub key2 : Derivation
  key2 = record { inputs = i2; ptk = ptk i2 }

  -- the new group key, the fourth value that the access point draws
  abbrev pub new : GroupKey
  new = record { key = gtk d a 3; id = 2 }

  -- the frames
  abbrev pub octets9 : List ℕ
  octets9 = in_data d a s (frame_octets (sent_fields M1 d.akm 4 anonce 0 []))

  abbrev pub octets10 : List ℕ
  octets10 = in_data d s a (renewal_m2_frame d (keyed_by i2) 4)

  abbrev pub octets11 : List ℕ
  octets11 = in_data d a s (m3_frame d a (keyed_by i2) 5 (gtk_news g 0))

  abbrev pub octets12 : List ℕ
  octets12 = in_data d a s (g1_frame d (keyed_by i) 6 (gtk_news new 0))

  abbrev pub octets13 : List ℕ
  octets13 = in_data d s a (g2_frame d (keyed_by i) 6)

  abbrev pub octets14 : List ℕ
  octets14 = in_data d a s (m3_frame d a (keyed_by i2) 7 (gtk_news new 0))

  abbrev pub octets15 : List ℕ
  octets15 = in_data d s a (m4_frame d (keyed_by i2) 7)

  abbrev pub octets16 : List ℕ
  octets16 = in_data d a s (g1_frame d (keyed_by i2) 8 (gtk_news new 0))

  abbrev pub seal10 : Seal
  seal10 = frame_seal (ptk i2).kck (renewal_m2_frame d (keyed_by i2) 4)

  abbrev pub seal12 : Seal
  seal12 = frame_seal (ptk i).kck (g1_frame d (keyed_by i) 6 (gtk_news new 0))

  abbrev pub seal13 : Seal
  seal13 = frame_seal (ptk i).kck (g2_frame d (keyed_by i) 6)

  abbrev pub seal14 : Seal
  seal14 = frame_seal (ptk i2).kck (m3_frame d a (keyed_by i2) 7 (gtk_news new 0))

  abbrev pub seal15 : Seal
  seal15 = frame_seal (ptk i2).kck (m4_frame d (keyed_by i2) 7)

  -- the acts of each round
  abbrev pub acts10 : List Act
  acts10 = Opened s start.Renew ∷ Drew (Nonce anonce) ∷ sent_m1 d a s 4 anonce ∷ []

  abbrev pub acts11 : List Act
  acts11 = Took (Some a) octets9 (kind.Key M1) Accepted None ∷ Opened a start.Renew ∷ Drew (Nonce snonce) ∷ Derived a i2 (ptk i2) ∷ sent_m2_by true d s a (keyed_by i2) 4 [] ∷ []

  abbrev pub acts12 : List Act
  acts12 = Took (Some s) octets10 (kind.Key M2) Accepted (Some seal10) ∷ Derived s i2 (ptk i2) ∷ sent_m3 d a s (keyed_by i2) 5 (gtk_news g 0) ∷ []

  abbrev pub acts13 : List Act
  acts13 = Drew (draw.Group groups.Gtk new.key) ∷ sent_g1 d a s (keyed_by i) 6 (gtk_news new 0) ∷ []

  abbrev pub acts14 : List Act
  acts14 = Took (Some a) octets12 (kind.Key G1) Accepted (Some seal12) ∷ Installed (One a) (Group groups.Gtk new.key new.id (mac d a)) ∷ sent_g2 d s a (keyed_by i) 6 ∷ []

  abbrev pub taken15 : List Act
  taken15 = Took (Some s) octets13 (kind.Key G2) Accepted (Some seal13) ∷ []

  abbrev pub acts15 : List Act
  acts15 = Took (Some s) octets13 (kind.Key G2) Accepted (Some seal13) ∷ Installed All (Group groups.Gtk new.key new.id (mac d a)) ∷ []

  abbrev pub acts16 : List Act
  acts16 = sent_m3 d a s (keyed_by i2) 7 (gtk_news new 0) ∷ []

  abbrev pub acts17 : List Act
  acts17 = Took (Some a) octets14 (kind.Key M3) Accepted (Some seal14) ∷ Closed a Session ∷ Installed (One a) (Pairwise (ptk i2).tk i2) ∷ Resumed a (Group groups.Gtk new.key new.id (mac d a)) ∷ Finished a i2 ∷ sent_m4 d s a (keyed_by i2) 7 ∷ []

  abbrev pub taken18 : List Act
  taken18 = Took (Some s) octets15 (kind.Key M4) Accepted (Some seal15) ∷ Closed s Session ∷ Installed (One s) (Pairwise (ptk i2).tk i2) ∷ Finished s i2 ∷ []

  abbrev pub acts18 : List Act
  acts18 = Took (Some s) octets15 (kind.Key M4) Accepted (Some seal15) ∷ Closed s Session ∷ Installed (One s) (Pairwise (ptk i2).tk i2) ∷ Finished s i2 ∷ sent_g1 d a s (keyed_by i2) 8 (gtk_news new 0) ∷ []

  -- the station's history after round 8, 11, 14 and 17
  abbrev pub sta8 : List Act
  sta8 = w.sta8 d k m

  abbrev pub sta11 : List Act
  sta11 = add acts11 sta8

  abbrev pub sta14 : List Act
  sta14 = add acts14 sta11

  abbrev pub sta17 : List Act
  sta17 = add acts17 sta14

  -- the access point's after round 9, 10, 12, 13, 15, 16 and 18
  abbrev pub ap9 : List Act
  ap9 = w.ap9 d k m

  abbrev pub ap10 : List Act
  ap10 = add acts10 ap9

  abbrev pub ap12 : List Act
  ap12 = add acts12 ap10

  abbrev pub ap13 : List Act
  ap13 = add acts13 ap12

  abbrev pub ap15 : List Act
  ap15 = add acts15 ap13

  abbrev pub ap16 : List Act
  ap16 = add acts16 ap15

  abbrev pub ap18 : List Act
  ap18 = add acts18 ap16

  -- the attempts
  abbrev pub asked11 : List Act
  asked11 = sent_m2_by true d s a (keyed_by i2) 4 [] ∷ Derived a i2 (ptk i2) ∷ Drew (Nonce snonce) ∷ Opened a start.Renew ∷ []

  abbrev pub asked14 : List Act
  asked14 = add acts14 asked11

  abbrev pub part10 : List Act
  part10 = add acts10 []

  abbrev pub part12 : List Act
  part12 = add acts12 part10

  abbrev pub part13 : List Act
  part13 = add acts13 part12

  abbrev pub part15 : List Act
  part15 = add acts15 part13

  abbrev pub part16 : List Act
  part16 = add acts16 part15

  -- the rounds, the last first
  abbrev pub rounds9 : List (List Event)
  rounds9 = w.rounds9 d k m

  abbrev pub rounds10 : List (List Event)
  rounds10 = (Renew k m ∷ []) ∷ rounds9

  abbrev pub rounds11 : List (List Event)
  rounds11 = (Deliver 9 s ∷ []) ∷ rounds10

  abbrev pub rounds12 : List (List Event)
  rounds12 = (Deliver 10 a ∷ []) ∷ rounds11

  abbrev pub rounds13 : List (List Event)
  rounds13 = (Rekey k ∷ []) ∷ rounds12

  abbrev pub rounds14 : List (List Event)
  rounds14 = (Deliver 12 s ∷ []) ∷ rounds13

  abbrev pub rounds15 : List (List Event)
  rounds15 = (Deliver 13 a ∷ []) ∷ rounds14

  abbrev pub rounds16 : List (List Event)
  rounds16 = (Retry k m ∷ []) ∷ rounds15

  abbrev pub rounds17 : List (List Event)
  rounds17 = (Deliver 14 s ∷ []) ∷ rounds16

  abbrev pub rounds18 : List (List Event)
  rounds18 = (Deliver 15 a ∷ []) ∷ rounds17
