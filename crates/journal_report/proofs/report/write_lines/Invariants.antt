use Rattle.std.proofs.Common.{◌≡◌, reverse, take}
use Rattle.std.specs.Io.KnownBytes.{Appends}
use Rattle.run_journal.specs.Report.{lines}
use Rattle.journal_report.proofs.report.write_lines.Given as goal

-- the lines so far have gone out, and the count is as it was
abbrev pub invariant-loop-entry : goal.invariant-loop-entry
invariant-loop-entry g l = record {
  gone : Appends (g.K.Sink.out l.fn.sink) (g.K.Sink.out l.sink) (lines (reverse (take l.entry-index l.entries)));
  same : g.K.Sink.faults l.sink ≡ g.K.Sink.faults l.fn.sink;
}
