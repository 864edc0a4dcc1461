use Rattle.std.proofs.Common.{◌≡◌}
use Rattle.wire_tests.proofs.holders.comes.Given as goal

abbrev pub invariant-loop : goal.invariant-loop
invariant-loop l = (l.pass.table ≡ l.initial.pass.table) × (l.pass.knows.has ≡ l.initial.pass.knows.has)
