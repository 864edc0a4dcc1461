use Rattle.std.proofs.Common.{◌≤◌, take}
use Rattle.std.specs.Prelude.{All}
use Rattle.entry_lines.specs.Entries.{Fits}
use Rattle.entry_lines.specs.Room.{line_room}
use Rattle.journal_file.proofs.entries.longest.Given as goal

-- there is room for each line so far
abbrev pub invariant-loop-entry : goal.invariant-loop-entry
invariant-loop-entry l = record {
  room : All (λ e. line_room e ≤ l.most) (take l.entry-index l.entries);
  fit : All Fits (take l.entry-index l.entries);
}
