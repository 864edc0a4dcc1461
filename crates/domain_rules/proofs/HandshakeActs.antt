-- The acts of the rounds of an example handshake, and the histories of both nodes after each.
use Rattle.air_frame.specs.Sent.{assoc_req_octets, assoc_resp_octets}
use Rattle.domain_base.specs.declared.names.Node.TheVariants.{Ap, Sta}
use Rattle.domain_base.specs.declared.names.Node.{Node}
use Rattle.domain_base.specs.declared.names.Peer.TheVariants.{One, All}
use Rattle.domain_rules.specs.Frames.{assoc_req_elements, assoc_resp_elements, aid, in_data, m2_frame, sent_assoc_req, sent_assoc_resp, sent_m1, sent_m2, frame_seal, m3_frame, m4_frame, sent_m3, sent_m4, keyed_by}
use Rattle.domain_rules.specs.Network.{address, mac, nonce, gtk, inputs, root}
use Rattle.domain_rules.specs.GroupKeys.{gtk_news}
use Rattle.eapol_key.specs.Octets.{frame_octets}
use Rattle.eapol_key.specs.Sent.{sent_fields}
use Rattle.eapol_key.specs.declared.messages.Message.TheVariants.{M1, M2, M3, M4}
use Rattle.key_hierarchy.specs.Keys.{ptk}
use Rattle.key_hierarchy.specs.declared.inputs.Inputs.{Inputs}
use Rattle.run_journal.specs.declared.acts.GroupKind.TheVariants as groups
use Rattle.run_journal.specs.Acts.{Derivation, GroupKey}
use Rattle.run_journal.specs.Questions.{add}
use Rattle.run_journal.specs.declared.acts.Act.TheVariants.{Opened, Drew, Derived, Took, Installed, Finished, Closed}
use Rattle.run_journal.specs.declared.acts.Act.{Act}
use Rattle.run_journal.specs.declared.acts.Drawn.TheVariants as draw
use Rattle.run_journal.specs.declared.acts.Drawn.TheVariants.{Nonce}
use Rattle.run_journal.specs.declared.acts.Key.TheVariants.{Pairwise, Group}
use Rattle.run_journal.specs.declared.acts.Kind.TheVariants as kind
use Rattle.run_journal.specs.declared.acts.Outcome.TheVariants.{Accepted, Answered}
use Rattle.run_journal.specs.declared.acts.Part.TheVariants.{Session}
use Rattle.run_journal.specs.declared.acts.Seal.{Seal}
use Rattle.run_journal.specs.declared.acts.Start.TheVariants as start
use Rattle.run_journal.specs.declared.domain.Domain.{Domain}
use Rattle.run_journal.specs.declared.domain.Event.TheVariants.{Connect, Deliver, Retry}
use Rattle.run_journal.specs.declared.domain.Event.{Event}
use Rattle.std.proofs.Common.{ℕ, List, [], ◌∷◌, Some, None}

module _ (d : Domain) (k m : ℕ) where
  abbrev pub a : Node
  a = Ap k

  abbrev pub s : Node
  s = Sta m

  -- the nonces of both attempts
  abbrev pub snonce : List ℕ
  snonce = nonce d s 0

  abbrev pub anonce : List ℕ
  anonce = nonce d a 1

  abbrev pub snonce2 : List ℕ
  snonce2 = nonce d s 1

  abbrev pub anonce2 : List ℕ
  anonce2 = nonce d a 2

  -- the pairwise key, and the group key that goes with M3
  abbrev pub i : Inputs
  i = inputs d (root d s) s a snonce anonce

  abbrev pub g : GroupKey
  g = record { key = gtk d a 0; id = 1 }

  abbrev pub key : Derivation
  key = record { inputs = i; ptk = ptk i }

  -- the frames
  abbrev pub octets1 : List ℕ
  octets1 = assoc_req_octets (address d a) (address d s) (address d a) (assoc_req_elements d)

  abbrev pub octets2 : List ℕ
  octets2 = assoc_resp_octets (address d s) (address d a) (address d a) 0 (aid s) (assoc_resp_elements d a)

  abbrev pub octets3 : List ℕ
  octets3 = in_data d a s (frame_octets (sent_fields M1 d.akm 1 anonce 0 []))

  abbrev pub octets4 : List ℕ
  octets4 = in_data d s a (m2_frame d (keyed_by i) 1 [])

  abbrev pub octets5 : List ℕ
  octets5 = in_data d a s (m3_frame d a (keyed_by i) 2 (gtk_news g 0))

  abbrev pub octets6 : List ℕ
  octets6 = in_data d s a (m4_frame d (keyed_by i) 2)

  abbrev pub octets7 : List ℕ
  octets7 = in_data d a s (m3_frame d a (keyed_by i) 3 (gtk_news g 0))

  abbrev pub octets8 : List ℕ
  octets8 = in_data d s a (m4_frame d (keyed_by i) 3)

  abbrev pub octets11 : List ℕ
  octets11 = in_data d a s (frame_octets (sent_fields M1 d.akm 1 anonce2 0 []))

  abbrev pub seal4 : Seal
  seal4 = frame_seal (ptk i).kck (m2_frame d (keyed_by i) 1 [])

  abbrev pub seal5 : Seal
  seal5 = frame_seal (ptk i).kck (m3_frame d a (keyed_by i) 2 (gtk_news g 0))

  abbrev pub seal7 : Seal
  seal7 = frame_seal (ptk i).kck (m3_frame d a (keyed_by i) 3 (gtk_news g 0))

  abbrev pub seal8 : Seal
  seal8 = frame_seal (ptk i).kck (m4_frame d (keyed_by i) 3)

  -- the acts of each round, and those before the first where management frames are not protected
  abbrev pub acts0 : List Act
  acts0 = Drew (draw.Group groups.Gtk g.key) ∷ Installed All (Group groups.Gtk g.key g.id (mac d a)) ∷ []

  abbrev pub acts1 : List Act
  acts1 = Opened a start.Connect ∷ Drew (Nonce snonce) ∷ sent_assoc_req d s a ∷ []

  abbrev pub acts2 : List Act
  acts2 = Took (Some s) octets1 kind.AssocReq Accepted None ∷ Opened s start.Connect ∷ Drew (Nonce anonce) ∷ sent_assoc_resp d a s ∷ sent_m1 d a s 1 anonce ∷ []

  abbrev pub acts3 : List Act
  acts3 = Took (Some a) octets2 kind.AssocResp Accepted None ∷ []

  abbrev pub acts4 : List Act
  acts4 = Took (Some a) octets3 (kind.Key M1) Accepted None ∷ Derived a i (ptk i) ∷ sent_m2 d s a (keyed_by i) 1 [] ∷ []

  abbrev pub acts5 : List Act
  acts5 = Took (Some s) octets4 (kind.Key M2) Accepted (Some seal4) ∷ Derived s i (ptk i) ∷ sent_m3 d a s (keyed_by i) 2 (gtk_news g 0) ∷ []

  abbrev pub acts6 : List Act
  acts6 = Took (Some a) octets5 (kind.Key M3) Accepted (Some seal5) ∷ Installed (One a) (Pairwise (ptk i).tk i) ∷ Installed (One a) (Group groups.Gtk g.key g.id (mac d a)) ∷ Finished a i ∷ sent_m4 d s a (keyed_by i) 2 ∷ []

  abbrev pub acts7 : List Act
  acts7 = sent_m3 d a s (keyed_by i) 3 (gtk_news g 0) ∷ []

  abbrev pub acts8 : List Act
  acts8 = Took (Some a) octets7 (kind.Key M3) Answered (Some seal7) ∷ sent_m4 d s a (keyed_by i) 3 ∷ []

  abbrev pub acts9 : List Act
  acts9 = Took (Some s) octets8 (kind.Key M4) Accepted (Some seal8) ∷ Installed (One s) (Pairwise (ptk i).tk i) ∷ Finished s i ∷ []

  abbrev pub acts10 : List Act
  acts10 = Closed a Session ∷ Opened a start.Connect ∷ Drew (Nonce snonce2) ∷ sent_assoc_req d s a ∷ []

  abbrev pub acts11 : List Act
  acts11 = Took (Some s) octets1 kind.AssocReq Accepted None ∷ Opened s start.Connect ∷ Drew (Nonce anonce2) ∷ sent_assoc_resp d a s ∷ sent_m1 d a s 1 anonce2 ∷ []

  -- the station's history after round 1, 3, 4, 6, 8 and 10
  abbrev pub sta1 : List Act
  sta1 = add acts1 []

  abbrev pub sta3 : List Act
  sta3 = add acts3 sta1

  abbrev pub sta4 : List Act
  sta4 = add acts4 sta3

  abbrev pub sta6 : List Act
  sta6 = add acts6 sta4

  abbrev pub sta8 : List Act
  sta8 = add acts8 sta6

  abbrev pub sta10 : List Act
  sta10 = add acts10 sta8

  -- the access point's after round 0, 2, 5, 7, 9 and 11, and that of its first attempt
  abbrev pub ap0 : List Act
  ap0 = add acts0 []

  abbrev pub ap2 : List Act
  ap2 = add acts2 ap0

  abbrev pub ap5 : List Act
  ap5 = add acts5 ap2

  abbrev pub ap7 : List Act
  ap7 = add acts7 ap5

  abbrev pub ap9 : List Act
  ap9 = add acts9 ap7

  abbrev pub ap11 : List Act
  ap11 = add acts11 ap9

  abbrev pub part2 : List Act
  part2 = sent_m1 d a s 1 anonce ∷ sent_assoc_resp d a s ∷ Drew (Nonce anonce) ∷ Opened s start.Connect ∷ []

  abbrev pub part5 : List Act
  part5 = add acts5 part2

  abbrev pub part7 : List Act
  part7 = add acts7 part5

  -- the rounds, the last first
  abbrev pub rounds5 : List (List Event)
  rounds5 = (Deliver 4 a ∷ []) ∷ (Deliver 3 s ∷ []) ∷ (Deliver 2 s ∷ []) ∷ (Deliver 1 a ∷ []) ∷ (Connect m k ∷ []) ∷ []

  abbrev pub rounds6 : List (List Event)
  rounds6 = (Deliver 5 s ∷ []) ∷ rounds5

  abbrev pub rounds7 : List (List Event)
  rounds7 = (Retry k m ∷ []) ∷ rounds6

  abbrev pub rounds8 : List (List Event)
  rounds8 = (Deliver 7 s ∷ []) ∷ rounds7

  abbrev pub rounds9 : List (List Event)
  rounds9 = (Deliver 8 a ∷ []) ∷ rounds8

  abbrev pub rounds10 : List (List Event)
  rounds10 = (Connect m k ∷ []) ∷ rounds9

  abbrev pub rounds11 : List (List Event)
  rounds11 = (Deliver 9 a ∷ []) ∷ rounds10
