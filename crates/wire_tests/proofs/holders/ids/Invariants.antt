use Rattle.std.proofs.Common.{◌≡◌, length}
use Rattle.wire_tests.proofs.holders.ids.Given as goal

abbrev pub invariant-loop-i : goal.invariant-loop-i
invariant-loop-i g l = length l.ids.items ≡ l.i
