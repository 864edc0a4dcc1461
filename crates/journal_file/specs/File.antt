-- The file of a journal: `audit 1`, `script` and how many lines the script has, those lines, and the line of each entry, oldest
-- first. Keys stand in it (profile).
use Rattle.std.specs.Prelude.{ℕ, ◌≡◌, ◌≢◌, List, [], ◌∷◌, ◌++◌, All, codes, decimal, length, reverse}
use Rattle.std.specs.List.{AllZip, flat_map}
use Rattle.run_journal.specs.declared.acts.Entry.{Entry}
use Rattle.entry_lines.specs.Entries.{HasLine, SpellsEntry, bare}

-- a line has no line feed (profile)
abbrev pub NoFeed : List ℕ → Type 0
NoFeed line = All (λ octet. octet ≢ 10) line

-- lines as octets, each with its line feed (profile)
abbrev pub fed : List (List ℕ) → List ℕ
fed lines = flat_map (λ line. line ++ 10 ∷ []) lines

-- octets after the last line feed are a line too, where there are any (profile)
abbrev pub last_line : List ℕ → List (List ℕ)
last_line [] = []
last_line (octet ∷ octets) = (octet ∷ octets) ∷ []

-- the octets are these lines (profile)
pub record AreLines (octets : List ℕ) (lines : List (List ℕ)) : Type 0 where
  pub whole : List (List ℕ)
  pub rest : List ℕ
  pub are : octets ≡ fed whole ++ rest
  pub apart : All NoFeed whole
  pub open_line : NoFeed rest
  pub lines_are : lines ≡ whole ++ last_line rest

-- the entry has a line (profile)
abbrev pub IsLined : Entry → Type 0
IsLined e = HasLine e.act

-- each line is that of its entry, as a line tells it (profile)
abbrev pub AllSpell : List (List ℕ) → List Entry → Type 0
AllSpell lines entries = AllZip (λ line e. SpellsEntry line (bare e)) lines entries

-- the lines of the file of these lines of a script and these of entries (profile)
abbrev pub file_lines : List (List ℕ) → List (List ℕ) → List (List ℕ)
file_lines script lines = codes "audit 1" ∷ (codes "script " ++ decimal (length script)) ∷ (script ++ lines)

-- the text is the file of a script of these octets and of a journal, which is newest first (profile)
pub record IsFile (octets : List ℕ) (j : List Entry) (text : List ℕ) : Type 0 where
  pub script : List (List ℕ)
  pub lines : List (List ℕ)
  pub script_is : AreLines octets script
  pub spell : AllSpell lines (reverse j)
  pub text_is : text ≡ fed (file_lines script lines)
