-- The acts of the rounds of an example of the renewal of a pairwise key under which a payload of the station was sent.
use Rattle.domain_base.specs.declared.names.Node.TheVariants.{Ap, Sta}
use Rattle.domain_base.specs.declared.names.Node.{Node}
use Rattle.domain_base.specs.declared.names.Peer.TheVariants.{One, All}
use Rattle.domain_rules.specs.Frames.{in_data, renewal_m2_frame, sent_m1, sent_m2_by, frame_seal, m3_frame, m4_frame, sent_m3, sent_m4, g1_frame, g2_frame, sent_g1, sent_g2, keyed_by}
use Rattle.domain_rules.specs.Network.{mac, nonce, gtk, inputs, root}
use Rattle.domain_rules.specs.GroupKeys.{gtk_news}
use Rattle.eapol_key.specs.Octets.{frame_octets}
use Rattle.eapol_key.specs.Sent.{sent_fields}
use Rattle.eapol_key.specs.declared.messages.Message.TheVariants.{M1, M2, M3, M4, G1, G2}
use Rattle.key_hierarchy.specs.Keys.{ptk}
use Rattle.key_hierarchy.specs.declared.inputs.Inputs.{Inputs}
use Rattle.run_journal.specs.declared.acts.GroupKind.TheVariants as groups
use Rattle.run_journal.specs.Acts.{Derivation, GroupKey}
use Rattle.run_journal.specs.Questions.{add}
use Rattle.run_journal.specs.declared.acts.Act.TheVariants.{Opened, Drew, Derived, Took, Installed, Resumed, Finished, Closed}
use Rattle.run_journal.specs.declared.acts.Act.{Act}
use Rattle.run_journal.specs.declared.acts.Drawn.TheVariants as draw
use Rattle.run_journal.specs.declared.acts.Drawn.TheVariants.{Nonce}
use Rattle.run_journal.specs.declared.acts.Key.TheVariants.{Pairwise, Group}
use Rattle.run_journal.specs.declared.acts.Kind.TheVariants as kind
use Rattle.run_journal.specs.declared.acts.Outcome.TheVariants.{Accepted}
use Rattle.run_journal.specs.declared.acts.Part.TheVariants.{Session}
use Rattle.run_journal.specs.declared.acts.Seal.{Seal}
use Rattle.run_journal.specs.declared.acts.Start.TheVariants as start
use Rattle.run_journal.specs.declared.domain.Domain.{Domain}
use Rattle.run_journal.specs.declared.domain.Event.TheVariants.{Deliver, Retry, Rekey, Renew, Send}
use Rattle.run_journal.specs.declared.domain.Event.{Event}
use Rattle.std.proofs.Common.{ℕ, true, List, [], ◌∷◌, Some, None}
use Rattle.domain_rules.proofs.HandshakeActs as w
use Rattle.example_domains.proofs.UsedData.{octets_up, sends_up, takes_up}

module _ (d : Domain) (k m : ℕ) (up : List ℕ) where
  abbrev pub a : Node
  a = Ap k

  abbrev pub s : Node
  s = Sta m

  -- the key of the session, and the first group key
  abbrev pub i : Inputs
  i = w.i d k m

  abbrev pub key : Derivation
  key = w.key d k m

  abbrev pub g : GroupKey
  g = w.g d k m

  -- the nonces of the renewal and its key
  abbrev pub snonce : List ℕ
  snonce = nonce d s 1

  abbrev pub anonce : List ℕ
  anonce = nonce d a 2

  abbrev pub i2 : Inputs
  i2 = inputs d (root d s) s a snonce anonce

  abbrev pub key2 : Derivation
  key2 = record { inputs = i2; ptk = ptk i2 }

  -- the new group key, the fourth value that the access point draws
  abbrev pub new : GroupKey
  new = record { key = gtk d a 3; id = 2 }

  -- the frames, the first of which carries the payload
  abbrev pub octets9 : List ℕ
  octets9 = octets_up d a s (ptk i).tk up

  abbrev pub octets10 : List ℕ
  octets10 = in_data d a s (frame_octets (sent_fields M1 d.akm 4 anonce 0 []))

  abbrev pub octets11 : List ℕ
  octets11 = in_data d s a (renewal_m2_frame d (keyed_by i2) 4)

  abbrev pub octets12 : List ℕ
  octets12 = in_data d a s (m3_frame d a (keyed_by i2) 5 (gtk_news g 0))

  abbrev pub octets13 : List ℕ
  octets13 = in_data d a s (g1_frame d (keyed_by i) 6 (gtk_news new 0))

  abbrev pub octets14 : List ℕ
  octets14 = in_data d s a (g2_frame d (keyed_by i) 6)

  abbrev pub octets15 : List ℕ
  octets15 = in_data d a s (m3_frame d a (keyed_by i2) 7 (gtk_news new 0))

  abbrev pub octets16 : List ℕ
  octets16 = in_data d s a (m4_frame d (keyed_by i2) 7)

  abbrev pub octets17 : List ℕ
  octets17 = in_data d a s (g1_frame d (keyed_by i2) 8 (gtk_news new 0))

  abbrev pub seal11 : Seal
  seal11 = frame_seal (ptk i2).kck (renewal_m2_frame d (keyed_by i2) 4)

  abbrev pub seal13 : Seal
  seal13 = frame_seal (ptk i).kck (g1_frame d (keyed_by i) 6 (gtk_news new 0))

  abbrev pub seal14 : Seal
  seal14 = frame_seal (ptk i).kck (g2_frame d (keyed_by i) 6)

  abbrev pub seal15 : Seal
  seal15 = frame_seal (ptk i2).kck (m3_frame d a (keyed_by i2) 7 (gtk_news new 0))

  abbrev pub seal16 : Seal
  seal16 = frame_seal (ptk i2).kck (m4_frame d (keyed_by i2) 7)

  -- the acts of each round
  abbrev pub acts10 : List Act
  acts10 = sends_up d a s (ptk i).tk up

  abbrev pub acts11 : List Act
  acts11 = takes_up d a s (ptk i).tk up

  abbrev pub acts12 : List Act
  acts12 = Opened s start.Renew ∷ Drew (Nonce anonce) ∷ sent_m1 d a s 4 anonce ∷ []

  abbrev pub acts13 : List Act
  acts13 = Took (Some a) octets10 (kind.Key M1) Accepted None ∷ Opened a start.Renew ∷ Drew (Nonce snonce) ∷ Derived a i2 (ptk i2) ∷ sent_m2_by true d s a (keyed_by i2) 4 [] ∷ []

  abbrev pub acts14 : List Act
  acts14 = Took (Some s) octets11 (kind.Key M2) Accepted (Some seal11) ∷ Derived s i2 (ptk i2) ∷ sent_m3 d a s (keyed_by i2) 5 (gtk_news g 0) ∷ []

  abbrev pub acts15 : List Act
  acts15 = Drew (draw.Group groups.Gtk new.key) ∷ sent_g1 d a s (keyed_by i) 6 (gtk_news new 0) ∷ []

  abbrev pub acts16 : List Act
  acts16 = Took (Some a) octets13 (kind.Key G1) Accepted (Some seal13) ∷ Installed (One a) (Group groups.Gtk new.key new.id (mac d a)) ∷ sent_g2 d s a (keyed_by i) 6 ∷ []

  abbrev pub taken17 : List Act
  taken17 = Took (Some s) octets14 (kind.Key G2) Accepted (Some seal14) ∷ []

  abbrev pub acts17 : List Act
  acts17 = Took (Some s) octets14 (kind.Key G2) Accepted (Some seal14) ∷ Installed All (Group groups.Gtk new.key new.id (mac d a)) ∷ []

  abbrev pub acts18 : List Act
  acts18 = sent_m3 d a s (keyed_by i2) 7 (gtk_news new 0) ∷ []

  abbrev pub acts19 : List Act
  acts19 = Took (Some a) octets15 (kind.Key M3) Accepted (Some seal15) ∷ Closed a Session ∷ Installed (One a) (Pairwise (ptk i2).tk i2) ∷ Resumed a (Group groups.Gtk new.key new.id (mac d a)) ∷ Finished a i2 ∷ sent_m4 d s a (keyed_by i2) 7 ∷ []

  abbrev pub taken20 : List Act
  taken20 = Took (Some s) octets16 (kind.Key M4) Accepted (Some seal16) ∷ Closed s Session ∷ Installed (One s) (Pairwise (ptk i2).tk i2) ∷ Finished s i2 ∷ []

  abbrev pub acts20 : List Act
  acts20 = Took (Some s) octets16 (kind.Key M4) Accepted (Some seal16) ∷ Closed s Session ∷ Installed (One s) (Pairwise (ptk i2).tk i2) ∷ Finished s i2 ∷ sent_g1 d a s (keyed_by i2) 8 (gtk_news new 0) ∷ []

  -- the station's history after round 10, 13, 16 and 19
  abbrev pub sta10 : List Act
  sta10 = add acts10 (w.sta8 d k m)

  abbrev pub sta13 : List Act
  sta13 = add acts13 sta10

  abbrev pub sta16 : List Act
  sta16 = add acts16 sta13

  abbrev pub sta19 : List Act
  sta19 = add acts19 sta16

  -- the access point's after round 11, 12, 14, 15, 17, 18 and 20
  abbrev pub ap11 : List Act
  ap11 = add acts11 (w.ap9 d k m)

  abbrev pub ap12 : List Act
  ap12 = add acts12 ap11

  abbrev pub ap14 : List Act
  ap14 = add acts14 ap12

  abbrev pub ap15 : List Act
  ap15 = add acts15 ap14

  abbrev pub ap17 : List Act
  ap17 = add acts17 ap15

  abbrev pub ap18 : List Act
  ap18 = add acts18 ap17

  abbrev pub ap20 : List Act
  ap20 = add acts20 ap18

  -- the attempts
  abbrev pub asked13 : List Act
  asked13 = sent_m2_by true d s a (keyed_by i2) 4 [] ∷ Derived a i2 (ptk i2) ∷ Drew (Nonce snonce) ∷ Opened a start.Renew ∷ []

  abbrev pub asked16 : List Act
  asked16 = add acts16 asked13

  abbrev pub part12 : List Act
  part12 = add acts12 []

  abbrev pub part14 : List Act
  part14 = add acts14 part12

  abbrev pub part15 : List Act
  part15 = add acts15 part14

  abbrev pub part17 : List Act
  part17 = add acts17 part15

  abbrev pub part18 : List Act
  part18 = add acts18 part17

  -- the rounds, the last first
  abbrev pub rounds11 : List (List Event)
  rounds11 = (Deliver 9 a ∷ []) ∷ (Send s (One a) (Some 5) up ∷ []) ∷ w.rounds9 d k m

  abbrev pub rounds12 : List (List Event)
  rounds12 = (Renew k m ∷ []) ∷ rounds11

  abbrev pub rounds13 : List (List Event)
  rounds13 = (Deliver 10 s ∷ []) ∷ rounds12

  abbrev pub rounds14 : List (List Event)
  rounds14 = (Deliver 11 a ∷ []) ∷ rounds13

  abbrev pub rounds15 : List (List Event)
  rounds15 = (Rekey k ∷ []) ∷ rounds14

  abbrev pub rounds16 : List (List Event)
  rounds16 = (Deliver 13 s ∷ []) ∷ rounds15

  abbrev pub rounds17 : List (List Event)
  rounds17 = (Deliver 14 a ∷ []) ∷ rounds16

  abbrev pub rounds18 : List (List Event)
  rounds18 = (Retry k m ∷ []) ∷ rounds17

  abbrev pub rounds19 : List (List Event)
  rounds19 = (Deliver 15 s ∷ []) ∷ rounds18

  abbrev pub rounds20 : List (List Event)
  rounds20 = (Deliver 16 a ∷ []) ∷ rounds19
