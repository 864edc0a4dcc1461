use Rattle.std.proofs.Common.{◌≡◌}
use Rattle.micro_bench.proofs.rows.fill.Given as goal

abbrev pub invariant-loop-number : goal.invariant-loop-number
invariant-loop-number l = (l.pass.table ≡ l.initial.pass.table) × (l.pass.knows.has ≡ l.initial.pass.knows.has)
