-- The lines of what is new in a journal (profile).
use Rattle.std.specs.Prelude.{ℕ, List, drop, reverse}
use Rattle.run_journal.specs.Report.{lines}
use Rattle.run_journal.specs.declared.acts.Entry.{Entry}

-- the lines of the entries of a journal from a place on, counted from the first
abbrev pub lines_since : ℕ → List Entry → List ℕ
lines_since written j = lines (reverse (drop written (reverse j)))
