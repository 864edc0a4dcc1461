use Rattle.std.proofs.Common.{◌≤◌, ◌-◌, ℕ, List, ◌++◌, length, take}
use Rattle.mac_prf.specs.HoldsBlocks.{HoldsBlocks}
use Rattle.mac_prf.proofs.chaining.CmacState.update.Given as goal

-- the octets so far are taken in
abbrev pub invariant-loop-at : goal.invariant-loop-at
invariant-loop-at l = record {
  within : l.at ≤ length l.piece;
  taken : (key text : List ℕ) → HoldsBlocks l.fn.self.cipher l.fn.self.chain l.fn.self.block l.fn.self.count key text
      → HoldsBlocks l.self.cipher l.self.chain l.self.block l.self.count key (text ++ take l.at l.piece);
}

abbrev pub decreases-loop-at : goal.decreases-loop-at
decreases-loop-at l = length l.piece - l.at
