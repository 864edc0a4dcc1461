use Rattle.std.proofs.Common.{◌≡◌, ◌≤◌, length, take}
use Rattle.journal_report.proofs.Waiting.{Waits}
use Rattle.journal_report.proofs.writer.write_together.Given as goal

-- the lines so far have gone out or wait at the front of the buffer, and the count is as it was
abbrev pub invariant-loop-entry : goal.invariant-loop-entry
invariant-loop-entry g l = record {
  waits : Waits (g.K.Sink.out l.fn.sink) (g.K.Sink.out l.sink) (take l.waiting l.buffer) (take l.entry-index l.entries);
  within : l.waiting ≤ length l.buffer;
  long : length l.buffer ≡ 8192;
  same : g.K.Sink.faults l.sink ≡ g.K.Sink.faults l.fn.sink;
}
