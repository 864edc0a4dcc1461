use Rattle.std.proofs.Common.{◌≡◌, length}
use Rattle.micro_bench.proofs.rows.ids.Given as goal

abbrev pub invariant-loop-ap : goal.invariant-loop-ap
invariant-loop-ap l = length l.ids.items ≡ l.ap
