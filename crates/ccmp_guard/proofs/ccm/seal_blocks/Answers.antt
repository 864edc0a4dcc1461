use Rattle.std.proofs.Common.{◌≡◌, ◌<◌, ◌∙◌, ◌+◌, ◌*◌, ◌-◌, min, suc, ℕ, List, ap, refl, sym, arith, take, drop, length}
use Rattle.aes_block.specs.Octets.{exclusive_or}
use Rattle.aes_block.proofs.OctetLemmas.{length-exclusive_or}
use Rattle.ccmp_guard.specs.Ccm.{block_count, chained, encrypted, key_block, key_stream}
use Rattle.ccmp_guard.proofs.Blocks.{block_from, chained-more, chained-none, encrypted-block, block_put, blocks_put}
use Rattle.ccmp_guard.proofs.ccm.seal_blocks.Goals as goal

pub loop-n-init : goal.loop-n-init
loop-n-init c = record { chain = chained-none c.args.key.now c.args.start c.args.plain.now; text = refl }

pub loop-n-preserved : goal.loop-n-preserved
loop-n-preserved c =
    let key = c.args.key.now in
    let nonce = c.args.nonce.now in
    let plain = c.args.plain.now in
    let n = c.loop-n.n in
    let end = c.block_end-end.result in
    let whole : List ℕ = encrypted key nonce plain in
    let piece : List ℕ = take (end - 16 * n) (drop (16 * n) plain) in
    let len : length whole ≡ length plain = length-exclusive_or plain (key_stream key nonce (block_count plain)) in
    let within : 16 * n < length plain = omega (arith, c.div_ceil-n-end.ensures) in
    let below : n < block_count plain = omega (arith, c.div_ceil-n-end.ensures) in
    let is_piece : piece ≡ take 16 (drop (16 * n) plain) = block_from plain (16 * n) end (omega arith) c.block_end-end.ensures in
    let stream : c.key_block-stream.result ≡ key_block key nonce (suc n) =
    c.key_block-stream.ensures ∙ ap (key_block key nonce) (let e : n + 1 ≡ suc n = omega arith in e) in
    let text : c.seal_block.new.out ≡ take 16 (drop (16 * n) whole) =
    c.seal_block.ensures.encrypted ∙ ap (exclusive_or piece) stream
    ∙ ap (λ (w : List ℕ). exclusive_or w (key_block key nonce (suc n))) is_piece ∙ sym (encrypted-block key nonce plain n below) in
    let end_is : end ≡ min (16 * n + 16) (length whole) = c.block_end-end.ensures ∙ ap (min (16 * n + 16)) (sym len) in record {
      chain = c.seal_block.ensures.chained
          ∙ chained-more key c.args.start plain c.loop-n.x piece n _ (omega arith) c.loop-n.invariant.chain is_piece;
      text = block_put whole c.args.out.now c.loop-n.out c.seal_block.new.out (16 * n) end _ (omega (arith, len)) (omega (arith, len)) end_is (omega arith)
          c.loop-n.invariant.text text;
    }

pub returns-clause-chained : goal.returns-clause-chained
returns-clause-chained c =
    c.loop-n.invariant.chain ∙ ap (chained c.args.key.now c.args.start c.args.plain.now) (omega (arith, c.div_ceil-n-end.ensures))

pub returns-clause-encrypted : goal.returns-clause-encrypted
returns-clause-encrypted c =
    let plain = c.args.plain.now in
    let whole : List ℕ = encrypted c.args.key.now c.args.nonce.now plain in
    let len : length whole ≡ length plain = length-exclusive_or plain (key_stream c.args.key.now c.args.nonce.now (block_count plain)) in
    blocks_put whole c.args.out.now c.loop-n.out (16 * c.loop-n.n) (omega (arith, len)) (omega (arith, len, c.div_ceil-n-end.ensures)) c.loop-n.invariant.text
