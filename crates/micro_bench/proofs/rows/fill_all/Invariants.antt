use Rattle.std.proofs.Common.{◌≡◌}
use Rattle.micro_bench.proofs.rows.fill_all.Given as goal

abbrev pub invariant-loop-ap : goal.invariant-loop-ap
invariant-loop-ap l = (l.pass.table ≡ l.initial.pass.table) × (l.pass.knows.has ≡ l.initial.pass.knows.has)
