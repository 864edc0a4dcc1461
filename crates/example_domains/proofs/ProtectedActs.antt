-- The acts of the rounds of an example with suite 4 that protects management frames, and the histories of a station and two access points after each.
use Rattle.air_frame.specs.Sent.{assoc_req_octets, assoc_resp_octets, ft_req_octets, ft_resp_octets, re_req_octets, re_resp_octets}
use Rattle.domain_base.specs.declared.names.Node.TheVariants.{Ap, Sta}
use Rattle.domain_base.specs.declared.names.Node.{Node}
use Rattle.domain_base.specs.declared.names.Peer.TheVariants.{One}
use Rattle.domain_rules.specs.AccessPointRows.{start_acts}
use Rattle.domain_rules.specs.FastTransition.{root_name, assoc_fte, fte_seal}
use Rattle.domain_rules.specs.Frames.{assoc_req_elements, assoc_resp_elements, aid, in_data, m2_frame, sent_assoc_req, sent_assoc_resp, sent_m1, sent_m2, frame_seal, m3_frame, m4_frame, sent_m3, sent_m4, keyed_by}
use Rattle.domain_rules.specs.Network.{address, mac, nonce, gtk, psk_of, r0kh_id, Root, root_at, inputs}
use Rattle.domain_rules.specs.TransitionFrames.{ft_req_elements, sent_ft_req, ft_resp_elements, sent_ft_resp, re_req_input, re_req_elements, sent_re_req, re_resp_fte, re_resp_input, re_resp_elements, sent_re_resp}
use Rattle.domain_rules.specs.GroupKeys.{IgtkNews, News}
use Rattle.example_domains.proofs.ProtectedData.{both}
use Rattle.example_domains.proofs.ProtectedTransition.{guarded}
use Rattle.eapol_key.specs.Octets.{frame_octets}
use Rattle.eapol_key.specs.Sent.{sent_fields}
use Rattle.eapol_key.specs.declared.messages.Message.TheVariants.{M1, M2, M3, M4}
use Rattle.key_hierarchy.specs.FastTransition.{pmk_r0, pmk_r1}
use Rattle.key_hierarchy.specs.Keys.{ptk}
use Rattle.key_hierarchy.specs.declared.answers.PullAnswer.TheVariants.{Found}
use Rattle.key_hierarchy.specs.declared.answers.PutAnswer.TheVariants.{Held}
use Rattle.key_hierarchy.specs.declared.fast_transition.PmkR1.{PmkR1}
use Rattle.key_hierarchy.specs.declared.inputs.Inputs.{Inputs}
use Rattle.rsn_elements.specs.Sent.{fte_octets}
use Rattle.rsn_elements.specs.Transition.{FteFields}
use Rattle.run_journal.specs.declared.acts.GroupKind.TheVariants as groups
use Rattle.run_journal.specs.Acts.{Derivation, GroupKey}
use Rattle.run_journal.specs.Questions.{add}
use Rattle.run_journal.specs.declared.acts.Act.TheVariants.{Opened, Drew, Derived, Took, Installed, Finished, Closed, Put, Looked}
use Rattle.run_journal.specs.declared.acts.Act.{Act}
use Rattle.run_journal.specs.declared.acts.Drawn.TheVariants.{Nonce}
use Rattle.run_journal.specs.declared.acts.Key.TheVariants.{Pairwise, Group}
use Rattle.run_journal.specs.declared.acts.Kind.TheVariants as kind
use Rattle.run_journal.specs.declared.acts.Outcome.TheVariants.{Accepted}
use Rattle.run_journal.specs.declared.acts.Part.TheVariants.{Session}
use Rattle.run_journal.specs.declared.acts.Seal.{Seal}
use Rattle.run_journal.specs.declared.acts.Start.TheVariants as start
use Rattle.run_journal.specs.declared.domain.Domain.{Domain}
use Rattle.std.proofs.Common.{ℕ, List, [], ◌∷◌, Some, None}

module _ (c : Domain) (k l m : ℕ) where
  abbrev pub d : Domain
  d = guarded c

  abbrev pub a : Node
  a = Ap k

  abbrev pub b : Node
  b = Ap l

  abbrev pub s : Node
  s = Sta m

  abbrev pub id : List ℕ
  id = r0kh_id d a

  abbrev pub root : Root
  root = root_at d s id

  abbrev pub name : List ℕ
  name = root_name d root s

  -- ---- the association

  abbrev pub snonce : List ℕ
  snonce = nonce d s 0

  abbrev pub anonce : List ℕ
  anonce = nonce d a 2

  abbrev pub i : Inputs
  i = inputs d root s a snonce anonce

  abbrev pub key : Derivation
  key = record { inputs = i; ptk = ptk i }

  abbrev pub g : GroupKey
  g = record { key = gtk d a 0; id = 1 }

  abbrev pub j : GroupKey
  j = record { key = gtk d a 1; id = 4 }

  abbrev pub k1 : IgtkNews
  k1 = record { igtk = j; ipn = 0 }

  abbrev pub keys : News
  keys = both g 0 k1

  abbrev pub fte : List ℕ
  fte = fte_octets (assoc_fte d a)

  abbrev pub octets1 : List ℕ
  octets1 = assoc_req_octets (address d a) (address d s) (address d a) (assoc_req_elements d)

  abbrev pub octets2 : List ℕ
  octets2 = assoc_resp_octets (address d s) (address d a) (address d a) 0 (aid s) (assoc_resp_elements d a)

  abbrev pub octets3 : List ℕ
  octets3 = in_data d a s (frame_octets (sent_fields M1 d.akm 1 anonce 0 []))

  abbrev pub octets4 : List ℕ
  octets4 = in_data d s a (m2_frame d (keyed_by i) 1 fte)

  abbrev pub octets5 : List ℕ
  octets5 = in_data d a s (m3_frame d a (keyed_by i) 2 keys)

  abbrev pub octets6 : List ℕ
  octets6 = in_data d s a (m4_frame d (keyed_by i) 2)

  abbrev pub seal4 : Seal
  seal4 = frame_seal (ptk i).kck (m2_frame d (keyed_by i) 1 fte)

  abbrev pub seal5 : Seal
  seal5 = frame_seal (ptk i).kck (m3_frame d a (keyed_by i) 2 keys)

  abbrev pub seal6 : Seal
  seal6 = frame_seal (ptk i).kck (m4_frame d (keyed_by i) 2)

  abbrev pub acts1 : List Act
  acts1 = Opened a start.Connect ∷ Drew (Nonce snonce) ∷ sent_assoc_req d s a ∷ []

  abbrev pub acts2 : List Act
  acts2 = Took (Some s) octets1 kind.AssocReq Accepted None ∷ Opened s start.Connect ∷ Drew (Nonce anonce) ∷ sent_assoc_resp d a s ∷ sent_m1 d a s 1 anonce ∷ []

  abbrev pub acts3 : List Act
  acts3 = Took (Some a) octets2 kind.AssocResp Accepted None ∷ []

  abbrev pub acts4 : List Act
  acts4 = Took (Some a) octets3 (kind.Key M1) Accepted None ∷ Derived a i (ptk i) ∷ sent_m2 d s a (keyed_by i) 1 fte ∷ []

  abbrev pub acts5 : List Act
  acts5 = Took (Some s) octets4 (kind.Key M2) Accepted (Some seal4) ∷ Derived s i (ptk i) ∷ sent_m3 d a s (keyed_by i) 2 keys ∷ []

  abbrev pub acts6 : List Act
  acts6 = Took (Some a) octets5 (kind.Key M3) Accepted (Some seal5) ∷ Installed (One a) (Pairwise (ptk i).tk i) ∷ Installed (One a) (Group groups.Gtk g.key g.id (mac d a)) ∷ Installed (One a) (Group groups.Igtk j.key j.id (mac d a)) ∷ Finished a i ∷ sent_m4 d s a (keyed_by i) 2 ∷ []

  abbrev pub acts7 : List Act
  acts7 = Took (Some s) octets6 (kind.Key M4) Accepted (Some seal6) ∷ Installed (One s) (Pairwise (ptk i).tk i) ∷ Finished s i ∷ Put id name s Held ∷ []

  abbrev pub sta1 : List Act
  sta1 = add acts1 []

  abbrev pub sta3 : List Act
  sta3 = add acts3 sta1

  abbrev pub sta4 : List Act
  sta4 = add acts4 sta3

  abbrev pub sta6 : List Act
  sta6 = add acts6 sta4

  abbrev pub ap0 : List Act
  ap0 = add (start_acts d 0 a) []

  abbrev pub to0 : List Act
  to0 = add (start_acts d 0 b) []

  abbrev pub ap2 : List Act
  ap2 = add acts2 ap0

  abbrev pub ap5 : List Act
  ap5 = add acts5 ap2

  abbrev pub ap7 : List Act
  ap7 = add acts7 ap5

  -- the parts of the access point's attempt
  abbrev pub part2 : List Act
  part2 = sent_m1 d a s 1 anonce ∷ sent_assoc_resp d a s ∷ Drew (Nonce anonce) ∷ Opened s start.Connect ∷ []

  abbrev pub part5 : List Act
  part5 = add acts5 part2

  abbrev pub frames7 : List (List ℕ)
  frames7 = octets6 ∷ octets5 ∷ octets4 ∷ octets3 ∷ octets2 ∷ octets1 ∷ []

  -- ---- the fast transition to access point l

  abbrev pub snonce2 : List ℕ
  snonce2 = nonce d s 1

  abbrev pub anonce2 : List ℕ
  anonce2 = nonce d b 2

  abbrev pub r1 : PmkR1
  r1 = pmk_r1 (pmk_r0 (psk_of d s) d.ssid d.mdid id (mac d s)) (mac d b) (mac d s)

  abbrev pub i2 : Inputs
  i2 = inputs d root s b snonce2 anonce2

  abbrev pub key2 : Derivation
  key2 = record { inputs = i2; ptk = ptk i2 }

  abbrev pub g2 : GroupKey
  g2 = record { key = gtk d b 0; id = 1 }

  abbrev pub j2 : GroupKey
  j2 = record { key = gtk d b 1; id = 4 }

  abbrev pub k2 : IgtkNews
  k2 = record { igtk = j2; ipn = 0 }

  abbrev pub fte2 : FteFields
  fte2 = re_resp_fte d b key2 (both g2 0 k2)

  abbrev pub octets7 : List ℕ
  octets7 = ft_req_octets (address d b) (address d s) (address d b) (ft_req_elements d s root snonce2)

  abbrev pub octets8 : List ℕ
  octets8 = ft_resp_octets (address d s) (address d b) (address d b) 0 (ft_resp_elements d b name i2)

  abbrev pub octets9 : List ℕ
  octets9 = re_req_octets (address d b) (address d s) (address d b) (address d a) (re_req_elements d s b key2)

  abbrev pub octets10 : List ℕ
  octets10 = re_resp_octets (address d s) (address d b) (address d b) 0 (aid s) (re_resp_elements d b s r1.name key2 fte2)

  abbrev pub seal9 : Seal
  seal9 = fte_seal (ptk i2).kck (re_req_input d s b key2)

  abbrev pub seal10 : Seal
  seal10 = fte_seal (ptk i2).kck (re_resp_input d b s r1.name key2 fte2)

  abbrev pub acts8 : List Act
  acts8 = Opened b start.Roam ∷ Drew (Nonce snonce2) ∷ sent_ft_req d s b root snonce2 ∷ []

  abbrev pub acts9 : List Act
  acts9 = Took (Some s) octets7 kind.FtReq Accepted None ∷ Looked id name s (Found r1) ∷ Opened s start.Roam ∷ Drew (Nonce anonce2) ∷ Derived s i2 (ptk i2) ∷ sent_ft_resp d b s name i2 ∷ []

  abbrev pub acts10 : List Act
  acts10 = Took (Some b) octets8 kind.FtResp Accepted None ∷ Derived b i2 (ptk i2) ∷ sent_re_req d s b a (keyed_by i2) ∷ []

  abbrev pub acts11 : List Act
  acts11 = Took (Some s) octets9 kind.ReReq Accepted (Some seal9) ∷ Installed (One s) (Pairwise (ptk i2).tk i2) ∷ Finished s i2 ∷ sent_re_resp d b s r1.name key2 fte2 ∷ []

  abbrev pub acts12 : List Act
  acts12 = Took (Some b) octets10 kind.ReResp Accepted (Some seal10) ∷ Closed a Session ∷ Installed (One b) (Pairwise (ptk i2).tk i2) ∷ Installed (One b) (Group groups.Gtk g2.key g2.id (mac d b)) ∷ Installed (One b) (Group groups.Igtk j2.key j2.id (mac d b)) ∷ Finished b i2 ∷ []

  abbrev pub asked2 : List Act
  asked2 = add acts8 []

  abbrev pub joined2 : List Act
  joined2 = add acts10 asked2

  abbrev pub part9 : List Act
  part9 = sent_ft_resp d b s name i2 ∷ Derived s i2 (ptk i2) ∷ Drew (Nonce anonce2) ∷ Opened s start.Roam ∷ []

  abbrev pub sta8 : List Act
  sta8 = add acts8 sta6

  abbrev pub sta10 : List Act
  sta10 = add acts10 sta8

  abbrev pub sta12 : List Act
  sta12 = add acts12 sta10

  abbrev pub to9 : List Act
  to9 = add acts9 to0

  abbrev pub to11 : List Act
  to11 = add acts11 to9

  abbrev pub frames12 : List (List ℕ)
  frames12 = octets10 ∷ octets9 ∷ octets8 ∷ octets7 ∷ frames7
