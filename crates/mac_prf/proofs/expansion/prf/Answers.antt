use Rattle.std.proofs.Common.{length, arith, add-one}
use Rattle.mac_prf.specs.Prf.{prf, prf_block}
use Rattle.mac_prf.proofs.Joined.{block_written, all_written}
use Rattle.mac_prf.proofs.Sizes.{length-hmac_sha1}
use Rattle.mac_prf.proofs.expansion.prf.Goals as goal

pub loop-i-preserved : goal.loop-i-preserved
loop-i-preserved c =
    rw add-one (block_written (prf_block c.args.key.now c.args.label.now c.args.context.now) 20 (λ i. length-hmac_sha1 _ _) 0 c.loop-i.i c.loop-i.i (length c.args.out.now) c.loop-i.out _ _ (omega arith) (omega arith) (omega arith) c.loop-i.invariant (c.prf_block-block.ensures _ c.new-keyed.ensures) c.put_block.ensures.front)

pub returns : goal.returns
unfolding prf
returns c = all_written _ 20 0 c.loop-i.i _ _ _ (omega arith) (omega arith) (omega arith) c.loop-i.invariant
