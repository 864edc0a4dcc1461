use Rattle.std.proofs.Common.{◌≡◌, ◌∙◌, ◌-◌, ◌++◌, ℕ, zero, suc, List, ap, ap₂, length, drop, replicate, arith}
use Rattle.ccmp_guard.proofs.ccm.padded.Goals as goal

-- zeros behind some of them
fewer_zeros : (m n : ℕ) → drop {A = ℕ} m (replicate n 0) ≡ replicate (n - m) 0
fewer_zeros zero n = ap (λ (k : ℕ). replicate k 0) {x = n} {y = n - 0} (omega arith)
fewer_zeros (suc m) zero = ap (λ (k : ℕ). replicate k 0) {x = 0} {y = 0 - suc m} (omega arith)
fewer_zeros (suc m) (suc n) = fewer_zeros m n ∙ ap (λ (k : ℕ). replicate k 0) {x = n - m} {y = suc n - suc m} (omega arith)

pub returns : goal.returns
returns c = ap₂ (λ (v w : List ℕ). v ++ w) c.copy_from_slice.ensures.after (fewer_zeros (length c.args.piece.now) 16)
