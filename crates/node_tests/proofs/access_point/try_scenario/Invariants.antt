use Rattle.std.proofs.Common.{◌≡◌}
use Rattle.ft_exchange.specs.Asking.{ids_of}
use Rattle.node_tests.proofs.access_point.try_scenario.Given as goal

abbrev pub invariant-loop-node : goal.invariant-loop-node
invariant-loop-node g l = l.holders.ids ≡ ids_of l.domain
