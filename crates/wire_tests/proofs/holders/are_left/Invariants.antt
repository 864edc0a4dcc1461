use Rattle.std.proofs.Common.{◌≡◌}
use Rattle.wire_tests.proofs.holders.are_left.Given as goal

abbrev pub invariant-loop-number : goal.invariant-loop-number
invariant-loop-number l = l.pass.table ≡ l.initial.pass.table
