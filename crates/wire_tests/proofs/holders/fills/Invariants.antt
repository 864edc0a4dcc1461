use Rattle.std.proofs.Common.{◌≡◌}
use Rattle.wire_tests.proofs.holders.fills.Given as goal

abbrev pub invariant-loop-number : goal.invariant-loop-number
invariant-loop-number g l = g.H.Holders.has l.holders ≡ g.H.Holders.has l.initial.holders
