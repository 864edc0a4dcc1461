-- Octets that are written one by one.
use Rattle.std.proofs.Common.{◌≡◌, ℕ, zero, suc, ◌<◌, List, [], ◌∷◌, ◌++◌, length, take, drop, set, get_or, refl, ap, arith}
use Rattle.std.specs.Prelude.{bit_xor}
use Rattle.mac_prf.specs.Hmac.{masked}
use Rattle.aes_block.specs.Octets.{exclusive_or}

-- one more octet under a mask
pub masked-more : (mask : ℕ) (xs : List ℕ) (i d : ℕ) → i < length xs
    → set (masked mask (take i xs) ++ drop i xs) i (bit_xor (get_or (masked mask (take i xs) ++ drop i xs) i d) mask) ≡ masked mask (take (suc i) xs) ++ drop (suc i) xs
masked-more mask [] i d h = absurd (omega arith)
masked-more mask (x ∷ xs) zero d h = refl
masked-more mask (x ∷ xs) (suc i) d h = ap (λ (w : List ℕ). bit_xor x mask ∷ w) (masked-more mask xs i d (omega arith))

-- one more octet of a sum
pub exclusive_or-more : (xs ys : List ℕ) (i d : ℕ) → i < length xs → i < length ys
    → set (exclusive_or (take i xs) (take i ys) ++ drop i xs) i (bit_xor (get_or (exclusive_or (take i xs) (take i ys) ++ drop i xs) i d) (get_or ys i d))
    ≡ exclusive_or (take (suc i) xs) (take (suc i) ys) ++ drop (suc i) xs
unfolding exclusive_or
exclusive_or-more [] ys i d h k = absurd (omega arith)
exclusive_or-more (x ∷ xs) [] i d h k = absurd (omega arith)
exclusive_or-more (x ∷ xs) (y ∷ ys) zero d h k = refl
exclusive_or-more (x ∷ xs) (y ∷ ys) (suc i) d h k = ap (λ (w : List ℕ). bit_xor x y ∷ w) (exclusive_or-more xs ys i d (omega arith) (omega arith))
