use Rattle.aes_block.specs.Octets.{exclusive_or}
use Rattle.aes_block.proofs.CodeLemmas.{IsDoneBelow}
use Rattle.key_wrap.proofs.with_count.Given as goal

abbrev pub invariant-loop-i : goal.invariant-loop-i
invariant-loop-i l = IsDoneBelow l.fn.check l.check (exclusive_or l.fn.check l.count) l.i
