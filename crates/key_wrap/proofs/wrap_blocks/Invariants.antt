use Rattle.std.proofs.Common.{◌≡◌, ◌*◌, length}
use Rattle.key_wrap.specs.KeyWrap.{after_steps, initial_value}
use Rattle.key_wrap.proofs.StepLemmas.{registers_at}
use Rattle.key_wrap.proofs.wrap_blocks.Given as goal

abbrev pub invariant-loop-t : goal.invariant-loop-t
invariant-loop-t l = record {
  counted : length l.blocks ≡ 8 * l.count;
  steps : after_steps l.key (record { check = initial_value; blocks = l.fn.blocks }) l.t ≡ registers_at l.check l.blocks l.t l.count;
}
