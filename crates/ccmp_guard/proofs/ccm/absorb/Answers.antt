use Rattle.std.proofs.Common.{◌∙◌, ◌*◌, ◌-◌, ℕ, List, ap, arith, take, drop}
use Rattle.aes_block.specs.Octets.{exclusive_or}
use Rattle.aes_block.specs.Cipher.{cipher}
use Rattle.ccmp_guard.specs.Ccm.{chained}
use Rattle.ccmp_guard.proofs.Blocks.{block_from, chained-more, chained-none}
use Rattle.ccmp_guard.proofs.ccm.absorb.Goals as goal

pub loop-n-init : goal.loop-n-init
loop-n-init c = chained-none c.args.key.now c.args.start c.args.octets.now

pub loop-n-preserved : goal.loop-n-preserved
loop-n-preserved c =
    let at = 16 * c.loop-n.n in
    let end = c.block_end.result in
    let piece : List ℕ = take (end - at) (drop at c.args.octets.now) in
    c.chain.ensures
    ∙ ap (λ (w : List ℕ). cipher c.args.key.now (exclusive_or c.loop-n.x w)) c.padded.ensures
    ∙ chained-more c.args.key.now c.args.start c.args.octets.now c.loop-n.x piece c.loop-n.n _ (omega arith) c.loop-n.invariant
    (block_from c.args.octets.now at end (omega (arith, c.div_ceil-n-end.ensures)) c.block_end.ensures)

pub returns : goal.returns
returns c = c.loop-n.invariant ∙ ap (chained c.args.key.now c.args.start c.args.octets.now) (omega (arith, c.div_ceil-n-end.ensures))
