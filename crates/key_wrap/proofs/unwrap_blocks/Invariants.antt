use Rattle.std.proofs.Common.{◌≡◌, ◌*◌, length}
use Rattle.key_wrap.specs.KeyWrap.{Registers, after_steps}
use Rattle.key_wrap.proofs.StepLemmas.{registers_at}
use Rattle.key_wrap.proofs.unwrap_blocks.Given as goal

abbrev pub invariant-loop-t : goal.invariant-loop-t
invariant-loop-t l = record {
  len : length l.first ≡ 8;
  counted : length l.blocks ≡ 8 * l.count;
  steps : (start : Registers) → after_steps l.key start l.t ≡ registers_at l.first l.blocks l.t l.count
      → after_steps l.key start (6 * l.count) ≡ registers_at l.fn.check l.fn.blocks (6 * l.count) l.count;
}
