use Rattle.std.proofs.Common.{◌≡◌, ◌/◌, ◌%◌, ◌∷◌, ℕ, ap₂, arith, take}
use Rattle.std.specs.Int.{w64, to_le_bytes}
use Rattle.bip_guard.specs.Bip.{mme_front}
use Rattle.bip_guard.proofs.frame.mme_front.Goals as goal

pub returns : goal.returns
unfolding mme_front
returns c =
    let low : c.args.id ≡ c.args.id % 256 = omega arith in
    let high : 0 ≡ c.args.id / 256 % 256 = omega arith in
    rw (c.to_le_bytes-n.ensures) (ap₂ (λ (a b : ℕ). 0x4c ∷ 0x10 ∷ a ∷ b ∷ take 6 (to_le_bytes w64 c.args.ipn)) low high)
