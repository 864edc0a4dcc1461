use Rattle.std.proofs.Common.{◌≡◌, ◌+◌, ◌≤◌, length}
use Rattle.micro_bench.proofs.crew.pull_all.Given as goal

abbrev pub invariant-loop-turn : goal.invariant-loop-turn
invariant-loop-turn l = (l.pass.table ≡ l.initial.pass.table) × (l.found ≤ l.turn) × (length l.initial.pass.knows.loads + l.found ≤ length l.pass.knows.loads)
