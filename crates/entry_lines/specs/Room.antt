-- Room that is enough for the line of an entry (profile).
use Rattle.std.specs.Prelude.{ℕ, ◌+◌, ◌*◌, length, Option, Some, None}
use Rattle.key_hierarchy.specs.declared.inputs.Inputs.{Inputs}
use Rattle.run_journal.specs.declared.acts.Seal.{Seal}
use Rattle.run_journal.specs.declared.acts.Key.{Key}
use Rattle.run_journal.specs.declared.acts.Key.TheVariants.{Pairwise, Group}
use Rattle.run_journal.specs.declared.acts.Act.{Act}
use Rattle.run_journal.specs.declared.acts.Act.TheVariants.{Derived, Sent, Took, Installed, Resumed, Used, HandedUp, Finished, Put, Looked, Revoked}
use Rattle.run_journal.specs.declared.acts.Entry.{Entry}

-- how many octets an SSID and an R0KH-ID have together (profile)
abbrev pub inputs_octets : Inputs → ℕ
inputs_octets i = length i.ssid + length i.r0kh_id

-- how many octets are sealed (profile)
abbrev pub seal_octets : Option Seal → ℕ
seal_octets None = 0
seal_octets (Some s) = length s.octets

-- how many octets of no fixed number a key's inputs have (profile)
abbrev pub key_octets : Key → ℕ
key_octets (Pairwise tk i) = inputs_octets i
key_octets (Group kind key id bssid) = 0

-- how many octets of no fixed number an act tells (profile)
abbrev pub act_octets : Act → ℕ
act_octets (Derived p i k) = inputs_octets i
act_octets (Sent p k octets s) = length octets + seal_octets s
act_octets (Took from octets k o s) = length octets + seal_octets s
act_octets (Installed p key) = key_octets key
act_octets (Resumed p key) = key_octets key
act_octets (Used p key id n octets) = length octets
act_octets (HandedUp p key id tid n octets) = length octets
act_octets (Finished p i) = inputs_octets i
act_octets (Put x m p answer) = length x
act_octets (Looked x m p answer) = length x
act_octets (Revoked x m p answer) = length x
act_octets _ = 0

-- two digits for each of these octets, and 512 for all the rest (profile)
abbrev pub line_room : Entry → ℕ
line_room e = 512 + 2 * act_octets e.act
