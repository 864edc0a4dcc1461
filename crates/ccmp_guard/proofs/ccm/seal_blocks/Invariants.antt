use Rattle.std.proofs.Common.{◌≡◌, ◌*◌, ◌++◌, take, drop}
use Rattle.ccmp_guard.specs.Ccm.{chained, encrypted}
use Rattle.ccmp_guard.proofs.ccm.seal_blocks.Given as goal

-- the blocks so far are chained and encrypted
abbrev pub invariant-loop-n : goal.invariant-loop-n
invariant-loop-n l = record {
  chain : l.x ≡ chained l.key l.fn.start l.plain l.n;
  text : l.out ≡ take (16 * l.n) (encrypted l.key l.nonce l.plain) ++ drop (16 * l.n) l.fn.out;
}
