use Rattle.std.proofs.Common.{◌≡◌, ◌++◌, take, drop}
use Rattle.aes_block.specs.Octets.{exclusive_or}
use Rattle.ccmp_guard.proofs.ccm.add.Given as goal

-- the octets so far are added, and the rest stand as they were
abbrev pub invariant-loop-i : goal.invariant-loop-i
invariant-loop-i g l = l.sum ≡ exclusive_or (take l.i l.fn.sum) (take l.i l.octets) ++ drop l.i l.fn.sum
