use Rattle.std.proofs.Common.{◌≡◌, List, ℕ, ◌++◌, length}
use Rattle.std.specs.Io.KnownBytes.{Appends}
use Rattle.run_journal.specs.Report.{hex}
use Rattle.journal_report.proofs.report.write_hex.Given as goal

-- what is not left has gone out, and the count is as it was
abbrev pub invariant-loop-rest : goal.invariant-loop-rest
invariant-loop-rest g l = record {
  gone : (front : List ℕ) × ((front ++ l.rest ≡ l.octets) × Appends (g.K.Sink.out l.fn.sink) (g.K.Sink.out l.sink) (hex front));
  same : g.K.Sink.faults l.sink ≡ g.K.Sink.faults l.fn.sink;
}

abbrev pub decreases-loop-rest : goal.decreases-loop-rest
decreases-loop-rest g l = length l.rest
