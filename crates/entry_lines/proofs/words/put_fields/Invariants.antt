use Rattle.std.proofs.Common.{◌≤◌, ◌+◌, take, drop}
use Rattle.journal_report.specs.Writing.{Writes}
use Rattle.entry_lines.specs.Words.{fields_room, fields_text}
use Rattle.entry_lines.proofs.words.put_fields.Given as goal

-- the fields so far stand there, and there is room for the rest
abbrev pub invariant-loop-field : goal.invariant-loop-field
invariant-loop-field l = record {
  written : Writes (fields_text (take l.field-index l.fields)) l.at l.fn.out l.end l.out;
  room : l.end + fields_room (drop l.field-index l.fields) ≤ l.at + fields_room l.fields;
}
