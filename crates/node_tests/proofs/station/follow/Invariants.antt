use Rattle.std.proofs.Common.{◌≡◌}
use Rattle.node_tests.proofs.station.follow.Given as goal

abbrev pub invariant-loop-step : goal.invariant-loop-step
invariant-loop-step g l = l.node.number ≡ 0
