use Rattle.std.proofs.Common.{◌*◌, length, arith, add-one}
use Rattle.mac_prf.specs.Prf.{kdf, kdf_block}
use Rattle.mac_prf.proofs.Joined.{block_written, all_written}
use Rattle.mac_prf.proofs.Sizes.{length-hmac_sha256}
use Rattle.mac_prf.proofs.expansion.kdf_under.Goals as goal

pub loop-i-preserved : goal.loop-i-preserved
loop-i-preserved c key held =
    rw add-one (block_written (kdf_block key c.args.label.now c.args.context.now (8 * length c.args.out.now)) 32 (λ i. length-hmac_sha256 _ _) 1 c.loop-i.i _ (length c.args.out.now) c.loop-i.out _ _ (omega arith) (omega arith) (omega arith) (c.loop-i.invariant key held) (c.kdf_block-block.ensures key held) c.put_block.ensures.front)

pub returns : goal.returns
unfolding kdf
returns c key held = all_written _ 32 1 c.loop-i.i _ _ _ (omega arith) (omega arith) (omega arith) (c.loop-i.invariant key held)
