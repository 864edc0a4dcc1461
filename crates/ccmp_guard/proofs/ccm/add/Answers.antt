use Rattle.std.proofs.Common.{arith, add-one, refl}
use Rattle.aes_block.specs.Octets.{exclusive_or}
use Rattle.ccmp_guard.proofs.Octets.{exclusive_or-more}
use Rattle.ccmp_guard.proofs.ccm.add.Goals as goal

pub loop-i-init : goal.loop-i-init
unfolding exclusive_or
loop-i-init g c = refl

pub loop-i-preserved : goal.loop-i-preserved
loop-i-preserved g c =
    rw (add-one, c.loop-i.invariant) (exclusive_or-more c.args.sum.now c.args.octets.now c.loop-i.i 0 (omega arith) (omega arith))
