-- What contracts see of a station's memory (profile).
use Rattle.std.specs.Prelude.{List, ◌∷◌, Option, None, Some}
use Rattle.group_key.specs.declared.memory.Remembered.{Remembered}
use Rattle.group_key.specs.Keys.{Kept}

-- a group key that a station keeps: octets, key id, receive counter
abbrev pub kept : Remembered → Kept
kept r = record { key = r.key; id = r.id; counter = r.counter }

-- one more key, where there is one
abbrev pub keep : Option Remembered → List Kept → List Kept
keep None ks = ks
keep (Some r) ks = kept r ∷ ks
