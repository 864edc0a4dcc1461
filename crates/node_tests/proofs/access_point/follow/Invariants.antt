use Rattle.std.proofs.Common.{◌≡◌}
use Rattle.node_tests.proofs.access_point.follow.Given as goal

abbrev pub invariant-loop-step : goal.invariant-loop-step
invariant-loop-step g l = (l.node.number ≡ l.initial.node.number) × (l.holders.ids ≡ l.initial.holders.ids)
