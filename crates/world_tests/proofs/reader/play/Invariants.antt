use Rattle.std.proofs.Common.{◌≤◌, ◌+◌}
use Rattle.frame_script.specs.Headers.{HasSeen}
use Rattle.world_tests.proofs.reader.play.Given as goal

abbrev pub invariant-loop-line : goal.invariant-loop-line
invariant-loop-line g l = HasSeen l.reader l.journal.entries × (l.reader.rounds ≤ l.initial.reader.rounds + l.line-index)
