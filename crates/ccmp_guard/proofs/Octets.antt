-- Sums of lists of octets, by exclusive or.
use Rattle.std.proofs.Common.{◌≡◌, ℕ, zero, suc, ◌<◌, ◌≤◌, List, [], ◌∷◌, ◌++◌, length, take, drop, set, get_or, refl, sym, ap, arith}
use Rattle.std.specs.Prelude.{bit_xor}
use Rattle.std.proofs.lemmas.List.{take_at}
use Rattle.aes_block.specs.Octets.{exclusive_or}

-- one more octet of a sum
pub exclusive_or-more : (xs ys : List ℕ) (i d : ℕ) → i < length xs → i < length ys
    → set (exclusive_or (take i xs) (take i ys) ++ drop i xs) i (bit_xor (get_or (exclusive_or (take i xs) (take i ys) ++ drop i xs) i d) (get_or ys i d))
    ≡ exclusive_or (take (suc i) xs) (take (suc i) ys) ++ drop (suc i) xs
unfolding exclusive_or
exclusive_or-more [] ys i d h k = absurd (omega arith)
exclusive_or-more (x ∷ xs) [] i d h k = absurd (omega arith)
exclusive_or-more (x ∷ xs) (y ∷ ys) zero d h k = refl
exclusive_or-more (x ∷ xs) (y ∷ ys) (suc i) d h k = ap (λ (w : List ℕ). bit_xor x y ∷ w) (exclusive_or-more xs ys i d (omega arith) (omega arith))

-- the front of a sum is the sum of the fronts, and of the first list's front with all of the second
pub take-exclusive_or : (n : ℕ) (xs ys : List ℕ) → take n (exclusive_or xs ys) ≡ exclusive_or (take n xs) (take n ys)
unfolding exclusive_or
take-exclusive_or zero xs ys = refl
take-exclusive_or (suc n) [] ys = refl
take-exclusive_or (suc n) (x ∷ xs) [] = refl
take-exclusive_or (suc n) (x ∷ xs) (y ∷ ys) = ap (λ (w : List ℕ). bit_xor x y ∷ w) (take-exclusive_or n xs ys)

pub take-exclusive_or-first : (n : ℕ) (xs ys : List ℕ) → take n (exclusive_or xs ys) ≡ exclusive_or (take n xs) ys
unfolding exclusive_or
take-exclusive_or-first zero xs ys = refl
take-exclusive_or-first (suc n) [] ys = refl
take-exclusive_or-first (suc n) (x ∷ xs) [] = refl
take-exclusive_or-first (suc n) (x ∷ xs) (y ∷ ys) = ap (λ (w : List ℕ). bit_xor x y ∷ w) (take-exclusive_or-first n xs ys)

exclusive_or-none : (xs : List ℕ) → exclusive_or xs [] ≡ xs
unfolding exclusive_or
exclusive_or-none [] = refl
exclusive_or-none (x ∷ xs) = refl

pub drop-exclusive_or : (n : ℕ) (xs ys : List ℕ) → drop n (exclusive_or xs ys) ≡ exclusive_or (drop n xs) (drop n ys)
unfolding exclusive_or
drop-exclusive_or zero xs ys = refl
drop-exclusive_or (suc n) [] ys = refl
drop-exclusive_or (suc n) (x ∷ xs) [] = sym (exclusive_or-none (drop n xs))
drop-exclusive_or (suc n) (x ∷ xs) (y ∷ ys) = drop-exclusive_or n xs ys

-- what stands behind as many octets as the first list has is not added
pub exclusive_or-within : (xs ys more : List ℕ) → length xs ≤ length ys → exclusive_or xs (ys ++ more) ≡ exclusive_or xs ys
unfolding exclusive_or
exclusive_or-within [] ys more h = refl
exclusive_or-within (x ∷ xs) [] more h = absurd (omega arith)
exclusive_or-within (x ∷ xs) (y ∷ ys) more h = ap (λ (w : List ℕ). bit_xor x y ∷ w) (exclusive_or-within xs ys more (omega arith))

-- the front of a sum whose first list goes on
pub exclusive_or-front : (xs ys more : List ℕ) → take (length xs) (exclusive_or (xs ++ more) ys) ≡ exclusive_or xs ys
unfolding exclusive_or
exclusive_or-front [] ys more = refl
exclusive_or-front (x ∷ xs) [] more = ap (λ (w : List ℕ). x ∷ w) (take_at xs more (length xs) refl)
exclusive_or-front (x ∷ xs) (y ∷ ys) more = ap (λ (w : List ℕ). bit_xor x y ∷ w) (exclusive_or-front xs ys more)
