-- The line of an entry in the file of a journal: round, node, kind and fields, with one space between any two; numbers in
-- decimal, octets in hexadecimal digits of lower case, a single - for no octets and for none. Keys stand in it (profile).
use Rattle.std.specs.Prelude.{ℕ, ◌==◌, cond, List, [], ◌∷◌, ◌++◌, map, Option, Some, None, codes}
use Rattle.std.specs.List.{flat_map}
use Rattle.std.specs.Fmt.{decimal}
use Rattle.domain_base.specs.declared.names.Akm.{Akm}
use Rattle.domain_base.specs.declared.names.Akm.TheVariants.{Psk, PskSha256, FtPsk}
use Rattle.domain_base.specs.Names.{node_text, peer_text}
use Rattle.key_hierarchy.specs.declared.inputs.Inputs.{Inputs}
use Rattle.key_hierarchy.specs.declared.inputs.Ptk.{Ptk}
use Rattle.key_hierarchy.specs.declared.answers.PullAnswer.{PullAnswer}
use Rattle.key_hierarchy.specs.declared.answers.PullAnswer.TheVariants.{Found}
use Rattle.run_journal.specs.declared.acts.Drawn.{Drawn}
use Rattle.run_journal.specs.declared.acts.Drawn.TheVariants as draw
use Rattle.run_journal.specs.declared.acts.Drawn.TheVariants.{Nonce}
use Rattle.run_journal.specs.declared.acts.Seal.{Seal}
use Rattle.run_journal.specs.declared.acts.Key.{Key}
use Rattle.run_journal.specs.declared.acts.Key.TheVariants.{Pairwise, Group}
use Rattle.run_journal.specs.declared.acts.Act.{Act}
use Rattle.run_journal.specs.declared.acts.Act.TheVariants.{Opened, Closed, Drew, Derived, Sent, Took, Installed, Resumed, Used, HandedUp, Finished, Put, Looked, Revoked, Secret, GaveUp, Idle, Link}
use Rattle.run_journal.specs.declared.acts.Entry.{Entry}
use Rattle.run_journal.specs.Report.{start_text, part_text, message_text, kind_text, outcome_text, why_text, put_text, pull_text, revoke_text, group_text, hex, payload_text}

-- the suite, as a script names it (profile)
abbrev pub akm_text : Akm → List ℕ
akm_text Psk = codes "psk"
akm_text PskSha256 = codes "psk-sha256"
akm_text FtPsk = codes "ft-psk"

-- a text with points in place of its spaces (profile)
abbrev pub pointed : List ℕ → List ℕ
pointed text = map (λ c. cond (c == 32) 46 c) text

-- what a pairwise key is derived from (profile)
abbrev pub inputs_words : Inputs → List (List ℕ)
inputs_words i = akm_text i.akm ∷ hex i.psk ∷ payload_text i.ssid ∷ hex i.mdid ∷ payload_text i.r0kh_id ∷ hex i.aa.0 ∷ hex i.spa.0 ∷ hex i.anonce ∷ hex i.snonce ∷ []

-- a value drawn, and what it is (profile)
abbrev pub drawn_words : Drawn → List (List ℕ)
drawn_words (Nonce v) = hex v ∷ codes "nonce" ∷ []
drawn_words (draw.Group kind v) = hex v ∷ group_text kind ∷ []

-- KCK, KEK and TK, one after another (profile)
abbrev pub ptk_octets : Ptk → List ℕ
ptk_octets k = k.kck ++ (k.kek ++ k.tk)

-- what is sealed, and the key (profile)
abbrev pub seal_words : Option Seal → List (List ℕ)
seal_words None = codes "-" ∷ codes "-" ∷ []
seal_words (Some s) = payload_text s.octets ∷ hex s.key ∷ []

-- a key, its key id, which is 0 for a pairwise key, and its inputs or its BSSID (profile)
abbrev pub key_words : Key → List (List ℕ)
key_words (Pairwise tk i) = codes "ptk" ∷ hex tk ∷ codes "0" ∷ inputs_words i
key_words (Group kind key id bssid) = group_text kind ∷ hex key ∷ decimal id ∷ hex bssid.0 ∷ []

-- the PMK-R1 that was found; its name is no part of the line (profile)
abbrev pub r1_text : PullAnswer → List ℕ
r1_text (Found k) = hex k.key
r1_text _ = codes "-"

-- an act's kind and its fields, none for a step of a link, which has no line; the number is that of a frame sent. The listed node of octets
-- taken and the peer of a key derived are no part of the line (profile)
abbrev pub act_words : ℕ → Act → List (List ℕ)
act_words number (Opened p s) = codes "opened" ∷ node_text p ∷ start_text s ∷ []
act_words number (Closed p part) = codes "closed" ∷ node_text p ∷ part_text part ∷ []
act_words number (Drew v) = codes "drew" ∷ drawn_words v
act_words number (Derived p i k) = codes "derived" ∷ (inputs_words i ++ hex (ptk_octets k) ∷ [])
act_words number (Sent p k octets s) = codes "sent" ∷ decimal number ∷ peer_text p ∷ kind_text k ∷ payload_text octets ∷ seal_words s
act_words number (Took from octets k o s) = codes "took" ∷ kind_text k ∷ pointed (outcome_text o) ∷ payload_text octets ∷ seal_words s
act_words number (Installed p key) = codes "installed" ∷ peer_text p ∷ key_words key
act_words number (Resumed p key) = codes "resumed" ∷ node_text p ∷ key_words key
act_words number (Used p key id n octets) = codes "used" ∷ peer_text p ∷ hex key ∷ decimal id ∷ decimal n ∷ payload_text octets ∷ []
act_words number (HandedUp p key id tid n octets) = codes "handed" ∷ node_text p ∷ hex key ∷ decimal id ∷ decimal tid ∷ decimal n ∷ payload_text octets ∷ []
act_words number (Finished p i) = codes "finished" ∷ node_text p ∷ inputs_words i
act_words number (Put x m p answer) = codes "put" ∷ payload_text x ∷ hex m ∷ node_text p ∷ put_text answer ∷ codes "-" ∷ []
act_words number (Looked x m p answer) = codes "looked" ∷ payload_text x ∷ hex m ∷ node_text p ∷ pull_text answer ∷ r1_text answer ∷ []
act_words number (Revoked x m p answer) = codes "revoked" ∷ payload_text x ∷ hex m ∷ node_text p ∷ revoke_text answer ∷ codes "-" ∷ []
act_words number (Secret p psk) = codes "secret" ∷ node_text p ∷ hex psk ∷ []
act_words number (GaveUp p m) = codes "gave-up" ∷ message_text m ∷ node_text p ∷ []
act_words number (Idle y) = codes "idle" ∷ why_text y ∷ []
act_words number (Link sta s) = []

-- each word after a space (profile)
abbrev pub after_spaces : List (List ℕ) → List ℕ
after_spaces words = flat_map (λ w. 32 ∷ w) words

-- the line, without its line feed (profile)
abbrev pub entry_line : Entry → List ℕ
entry_line e = decimal e.round ++ after_spaces (node_text e.node ∷ act_words e.number e.act)
