-- The fields of a line, as the code lists them to be written.
-- For the code alone: no public contract speaks of it.
use Rattle.std.specs.Prelude.{ℕ, ◌+◌, ◌*◌, ◌==◌, cond, List, [], ◌∷◌, length}
use Rattle.std.specs.List.{flat_map}
use Rattle.run_journal.specs.Report.{hex, payload_text}
use Rattle.journal_report.specs.Words.{word_room, word_text}
use Rattle.entry_lines.specs.declared.words.Field.{Field}
use Rattle.entry_lines.specs.declared.words.Field.TheVariants.{Plain, Digits, Octets}

-- a field as it is written
abbrev pub field_text : Field → List ℕ
field_text (Plain w) = word_text w
field_text (Digits r) = hex r.now
field_text (Octets r) = payload_text r.now

-- fields, each after a space
abbrev pub fields_text : List Field → List ℕ
fields_text fields = flat_map (λ f. 32 ∷ field_text f) fields

-- room that is enough for the field
abbrev pub field_room : Field → ℕ
field_room (Plain w) = word_room w
field_room (Digits r) = 2 * length r.now
field_room (Octets r) = 2 * length r.now + 1

-- room that is enough for these fields, each after a space
abbrev pub fields_room : List Field → ℕ
fields_room [] = 0
fields_room (f ∷ fs) = 1 + field_room f + fields_room fs

-- a point for a space
abbrev pub point : ℕ → ℕ
point c = cond (c == 32) 46 c
