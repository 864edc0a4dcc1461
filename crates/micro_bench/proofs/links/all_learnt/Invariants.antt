use Rattle.std.proofs.Common.{◌≤◌}
use Rattle.micro_bench.proofs.links.all_learnt.Given as goal

abbrev pub invariant-loop-n : goal.invariant-loop-n
invariant-loop-n l = l.asker.asked ≤ l.n
