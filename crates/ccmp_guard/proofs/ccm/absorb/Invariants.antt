use Rattle.std.proofs.Common.{◌≡◌}
use Rattle.ccmp_guard.specs.Ccm.{chained}
use Rattle.ccmp_guard.proofs.ccm.absorb.Given as goal

-- the blocks so far are chained
abbrev pub invariant-loop-n : goal.invariant-loop-n
invariant-loop-n l = l.x ≡ chained l.key l.fn.start l.octets l.n
