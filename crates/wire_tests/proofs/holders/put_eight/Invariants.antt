use Rattle.std.proofs.Common.{◌≡◌}
use Rattle.wire_tests.proofs.holders.put_eight.Given as goal

abbrev pub invariant-loop-number : goal.invariant-loop-number
invariant-loop-number l = (l.pass.table ≡ l.initial.pass.table) × (l.pass.knows.has ≡ l.initial.pass.knows.has)
