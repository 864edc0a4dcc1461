use Rattle.std.proofs.Common.{◌≡◌, ◌<◌, ◌∙◌, ◌+◌, ◌*◌, ◌-◌, min, suc, ℕ, List, ap, refl, sym, arith, take, drop, length}
use Rattle.aes_block.specs.Octets.{exclusive_or}
use Rattle.aes_block.proofs.OctetLemmas.{length-exclusive_or}
use Rattle.std.specs.Int.{div_ceil}
use Rattle.ccmp_guard.specs.Ccm.{block_count, chained, chained_all, encrypted, key_block, key_stream}
use Rattle.ccmp_guard.proofs.Blocks.{block_from, chained-more, chained-none, encrypted-block, block_put, blocks_put}
use Rattle.ccmp_guard.proofs.ccm.open_blocks.Goals as goal

pub loop-n-init : goal.loop-n-init
loop-n-init c = record {
  chain = chained-none c.args.key.now c.args.start (encrypted c.args.key.now c.args.nonce.now c.args.sealed.now);
  text = refl;
}

pub loop-n-preserved : goal.loop-n-preserved
loop-n-preserved c =
    let key = c.args.key.now in
    let nonce = c.args.nonce.now in
    let sealed = c.args.sealed.now in
    let n = c.loop-n.n in
    let end = c.block_end-end.result in
    let whole : List ℕ = encrypted key nonce sealed in
    let piece : List ℕ = take (end - 16 * n) (drop (16 * n) sealed) in
    let len : length whole ≡ length sealed = length-exclusive_or sealed (key_stream key nonce (block_count sealed)) in
    let within : 16 * n < length sealed = omega (arith, c.div_ceil-n-end.ensures) in
    let below : n < block_count sealed = omega (arith, c.div_ceil-n-end.ensures) in
    let is_piece : piece ≡ take 16 (drop (16 * n) sealed) = block_from sealed (16 * n) end (omega arith) c.block_end-end.ensures in
    let stream : c.key_block-stream.result ≡ key_block key nonce (suc n) =
    c.key_block-stream.ensures ∙ ap (key_block key nonce) (let e : n + 1 ≡ suc n = omega arith in e) in
    let text : c.open_block.new.out ≡ take 16 (drop (16 * n) whole) =
    c.open_block.ensures.decrypted ∙ ap (exclusive_or piece) stream
    ∙ ap (λ (w : List ℕ). exclusive_or w (key_block key nonce (suc n))) is_piece ∙ sym (encrypted-block key nonce sealed n below) in
    let end_is : end ≡ min (16 * n + 16) (length whole) = c.block_end-end.ensures ∙ ap (min (16 * n + 16)) (sym len) in record {
      chain = c.open_block.ensures.chained
          ∙ chained-more key c.args.start whole c.loop-n.x _ n _ (omega arith) c.loop-n.invariant.chain (sym c.open_block.ensures.decrypted ∙ text);
      text = block_put whole c.args.out.now c.loop-n.out c.open_block.new.out (16 * n) end _ (omega (arith, len)) (omega (arith, len)) end_is (omega arith)
          c.loop-n.invariant.text text;
    }

pub returns-clause-decrypted : goal.returns-clause-decrypted
returns-clause-decrypted c =
    let sealed = c.args.sealed.now in
    let whole : List ℕ = encrypted c.args.key.now c.args.nonce.now sealed in
    let len : length whole ≡ length sealed = length-exclusive_or sealed (key_stream c.args.key.now c.args.nonce.now (block_count sealed)) in
    blocks_put whole c.args.out.now c.loop-n.out (16 * c.loop-n.n) (omega (arith, len)) (omega (arith, len, c.div_ceil-n-end.ensures)) c.loop-n.invariant.text

pub returns-clause-chained : goal.returns-clause-chained
returns-clause-chained c =
    let sealed = c.args.sealed.now in
    let whole : List ℕ = encrypted c.args.key.now c.args.nonce.now sealed in
    let len : length whole ≡ length sealed = length-exclusive_or sealed (key_stream c.args.key.now c.args.nonce.now (block_count sealed)) in
    let all : c.loop-n.n ≡ block_count sealed = omega (arith, c.div_ceil-n-end.ensures) in
    let count : block_count sealed ≡ block_count whole = ap (λ (k : ℕ). div_ceil k 16) (sym len) in
    let text : c.loop-n.out ≡ whole =
    blocks_put whole c.args.out.now c.loop-n.out (16 * c.loop-n.n) (omega (arith, len)) (omega (arith, len, c.div_ceil-n-end.ensures)) c.loop-n.invariant.text in
    c.loop-n.invariant.chain ∙ ap (chained c.args.key.now c.args.start whole) (all ∙ count)
    ∙ ap (chained_all c.args.key.now c.args.start) (sym text)
