-- Lists of octets and their exclusive-or.
use Rattle.std.proofs.Common.{◌≡◌, ℕ, zero, suc, ◌<◌, List, [], ◌∷◌, length, get_or, refl, sym, ap, ap₂, ◌∙◌, arith}
use Rattle.std.proofs.lemmas.Nat.{xor_lt}
use Rattle.std.proofs.lemmas.List.Elements.{All-from_get_or}
use Rattle.std.specs.Int.Bits.{bit_xor, xor_assoc, xor_comm, xor_self, xor_zero_r}
use Rattle.domain_base.specs.Octets.{AreOctets}
use Rattle.domain_base.proofs.OctetLemmas.{get_or_below}
use Rattle.aes_block.specs.Octets.{exclusive_or}

pub bit_xor_below : (a b : ℕ) → a < 256 → b < 256 → bit_xor a b < 256
bit_xor_below a b h k = xor_lt 8 a b h k

-- what is added twice is gone
pub bit_xor_twice : (a b : ℕ) → bit_xor (bit_xor a b) b ≡ a
bit_xor_twice a b = xor_assoc a b b ∙ ap (bit_xor a) (xor_self b) ∙ xor_zero_r a

-- four numbers, the middle two changed round
pub bit_xor_swap : (a b c d : ℕ) → bit_xor (bit_xor a b) (bit_xor c d) ≡ bit_xor (bit_xor a c) (bit_xor b d)
bit_xor_swap a b c d =
    xor_assoc a b (bit_xor c d)
    ∙ ap (bit_xor a) (sym (xor_assoc b c d) ∙ ap (λ (w : ℕ). bit_xor w d) (xor_comm b c) ∙ xor_assoc c b d)
    ∙ sym (xor_assoc a c (bit_xor b d))

pub length-exclusive_or : (xs ys : List ℕ) → length (exclusive_or xs ys) ≡ length xs
unfolding exclusive_or
length-exclusive_or [] ys = refl
length-exclusive_or (x ∷ xs) [] = refl
length-exclusive_or (x ∷ xs) (y ∷ ys) = ap suc (length-exclusive_or xs ys)

pub get_or-exclusive_or : (xs ys : List ℕ) (k : ℕ) → k < length xs → get_or (exclusive_or xs ys) k 0 ≡ bit_xor (get_or xs k 0) (get_or ys k 0)
unfolding exclusive_or
get_or-exclusive_or [] ys k h = absurd (omega arith)
get_or-exclusive_or (x ∷ xs) [] k h = sym (xor_zero_r (get_or (x ∷ xs) k 0))
get_or-exclusive_or (x ∷ xs) (y ∷ ys) zero h = refl
get_or-exclusive_or (x ∷ xs) (y ∷ ys) (suc k) h = get_or-exclusive_or xs ys k (omega arith)

pub exclusive_or_twice : (xs ys : List ℕ) → exclusive_or (exclusive_or xs ys) ys ≡ xs
unfolding exclusive_or
exclusive_or_twice [] ys = refl
exclusive_or_twice (x ∷ xs) [] = refl
exclusive_or_twice (x ∷ xs) (y ∷ ys) = ap₂ (λ (w : ℕ) (ws : List ℕ). w ∷ ws) (bit_xor_twice x y) (exclusive_or_twice xs ys)

pub AreOctets-exclusive_or : (xs ys : List ℕ) → AreOctets xs → AreOctets ys → AreOctets (exclusive_or xs ys)
AreOctets-exclusive_or xs ys h k = All-from_get_or (λ (x : ℕ). x < 256) (exclusive_or xs ys) 0 (λ i below.
    let lt : i < length xs = omega (arith, length-exclusive_or xs ys) in
    let e = get_or-exclusive_or xs ys i lt in
    let b = bit_xor_below (get_or xs i 0) (get_or ys i 0) (get_or_below xs i h) (get_or_below ys i k) in
    omega arith)

-- two lists that give one list with a third are one
pub exclusive_or-cancel : (xs ys zs : List ℕ) → exclusive_or xs zs ≡ exclusive_or ys zs → xs ≡ ys
exclusive_or-cancel xs ys zs e =
    sym (exclusive_or_twice xs zs) ∙ ap (λ (w : List ℕ). exclusive_or w zs) e ∙ exclusive_or_twice ys zs
