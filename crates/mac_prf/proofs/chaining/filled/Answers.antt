use Rattle.std.proofs.Common.{◌∙◌, ◌++◌, ℕ, List, ap₂, length, arith}
use Rattle.mac_prf.proofs.Chains.{fewer_zeros, whole_filled}
use Rattle.mac_prf.proofs.chaining.filled.Goals as goal

pub returns-then-piece-eq-BLOCK_LEN : goal.returns-then-piece-eq-BLOCK_LEN
returns-then-piece-eq-BLOCK_LEN c = c.array_at.ensures ∙ whole_filled c.args.piece.now (omega arith)

pub returns : goal.returns
returns c =
    ap₂ (λ (v w : List ℕ). v ++ w) c.copy_from_slice.ensures.after (fewer_zeros (length c.args.piece.now) 16)
