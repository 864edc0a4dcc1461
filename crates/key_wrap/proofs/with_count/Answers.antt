use Rattle.std.proofs.Common.{◌≡◌, ℕ, length, get_or, sym, ◌∙◌, ap, arith}
use Rattle.std.specs.Int.Bits.{bit_xor}
use Rattle.aes_block.specs.Octets.{exclusive_or}
use Rattle.key_wrap.specs.KeyWrap.{counter}
use Rattle.aes_block.proofs.OctetLemmas.{length-exclusive_or, get_or-exclusive_or}
use Rattle.aes_block.proofs.CodeLemmas.{IsDoneBelow-none, IsDoneBelow-more, IsDoneBelow-all}
use Rattle.key_wrap.proofs.with_count.Goals as goal

pub loop-i-init : goal.loop-i-init
loop-i-init c =
    let count = c.to_be_bytes-count.result in
    IsDoneBelow-none c.args.check (exclusive_or c.args.check count) (sym (length-exclusive_or c.args.check count))

pub loop-i-preserved : goal.loop-i-preserved
loop-i-preserved c =
    let s = c.args.check in
    let count = c.to_be_bytes-count.result in
    let i = c.loop-i.i in
    let len : length s ≡ 8 = omega arith in
    let here = c.loop-i.invariant.left i (omega arith) in
    IsDoneBelow-more s c.loop-i.check (exclusive_or s count) i _ (omega (arith, length-exclusive_or s count)) c.loop-i.invariant
    (ap (λ (w : ℕ). bit_xor w (get_or count i 0)) here ∙ sym (get_or-exclusive_or s count i (omega arith)))

pub returns : goal.returns
unfolding counter
returns c =
    let count = c.to_be_bytes-count.result in
    let len : length c.args.check ≡ 8 = omega arith in
    IsDoneBelow-all c.args.check c.loop-i.check (exclusive_or c.args.check count) c.loop-i.i (omega (arith, length-exclusive_or c.args.check count)) c.loop-i.invariant
    ∙ ap (exclusive_or c.args.check) c.to_be_bytes-count.ensures
