use Rattle.std.proofs.Common.{◌≡◌, ◌+◌, ◌≤◌, length, take}
use Rattle.std.specs.Prelude.{vec_capacity}
use Rattle.journal_file.specs.Counting.{entries_text}
use Rattle.journal_file.specs.Waiting.{Waits}
use Rattle.journal_file.proofs.entries.write_entries.Given as goal

-- the lines so far have gone out or wait, and the count is as it was
abbrev pub invariant-loop-entry : goal.invariant-loop-entry
invariant-loop-entry g l = record {
  gone : Waits (g.K.Sink.out l.fn.sink) (g.K.Sink.out l.sink) l.waiting.items (entries_text (take l.entry-index l.entries));
  same : g.K.Sink.faults l.sink ≡ g.K.Sink.faults l.fn.sink;
  line : length l.line ≡ length l.fn.line;
  room : 8192 + length l.line ≤ vec_capacity l.waiting;
}
