use Rattle.std.proofs.Common.{◌≤◌}
use Rattle.wire_tests.proofs.links.ask_many.Given as goal

abbrev pub invariant-loop-n : goal.invariant-loop-n
invariant-loop-n l = l.asker.asked ≤ l.n
