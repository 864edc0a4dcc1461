-- Laws of the field that hold for all octets. Those of one octet are computed over all 256, and that
-- the product by x is linear is computed over all pairs.
use Rattle.std.proofs.Common.{◌≡◌, ℕ, zero, suc, ◌<◌, ◌/◌, ◌%◌, Bool, true, false, cond, refl, sym, ap, ap₂, ◌∙◌, arith, eqb, ltb}
use Rattle.std.proofs.lemmas.Bool.{agree_below, agree_below_at, ltb-true, eqb-true}
use Rattle.std.specs.Int.Bits.{bit_xor, xor_assoc, xor_comm, xor_zero_r}
use Rattle.aes_block.specs.Field.{times_x, product_of_bits, product}
use Rattle.aes_block.specs.State.{mixed}
use Rattle.aes_block.specs.Words.{unmixed}
use Rattle.aes_block.proofs.OctetLemmas.{bit_xor_below, bit_xor_swap}

-- two functions that computing finds equal at each octet
pub same_at : (f g : ℕ → ℕ) (x : ℕ) → agree_below (λ (y : ℕ). eqb (f y) (g y)) (λ _. true) 256 ≡ true → x < 256 → f x ≡ g x
same_at f g x all h = eqb-true (f x) (g x) (agree_below_at (λ (y : ℕ). eqb (f y) (g y)) (λ _. true) 256 x all h)

-- ---- the product by x

pub times_x_below : (x : ℕ) → x < 256 → times_x x < 256
times_x_below x h = ltb-true (times_x x) 256 (agree_below_at (λ (y : ℕ). ltb (times_x y) 256) (λ _. true) 256 x refl h)

linear_at : ℕ → ℕ → Bool
linear_at x y = eqb (times_x (bit_xor x y)) (bit_xor (times_x x) (times_x y))

pub times_x-bit_xor : (x y : ℕ) → x < 256 → y < 256 → times_x (bit_xor x y) ≡ bit_xor (times_x x) (times_x y)
unfolding linear_at
times_x-bit_xor x y h k = eqb-true (times_x (bit_xor x y)) (bit_xor (times_x x) (times_x y))
    (agree_below_at (linear_at x) (λ _. true) 256 y (agree_below_at (λ (z : ℕ). agree_below (linear_at z) (λ _. true) 256) (λ _. true) 256 x refl h) k)

-- ---- the product

product_of_bits_below : (n a b : ℕ) → b < 256 → product_of_bits n a b < 256
unfolding product_of_bits
product_of_bits_below zero a b h = omega arith
product_of_bits_below (suc n) a b h =
    let rest = product_of_bits_below n (a / 2) (times_x b) (times_x_below b h) in
    elim (eqb (a % 2) 0) as (λ (v : Bool). bit_xor (cond v 0 b) (product_of_bits n (a / 2) (times_x b)) < 256) [
      | true ↦ bit_xor_below 0 _ (omega arith) rest
      | false ↦ bit_xor_below b _ h rest
    ]

pub product_below : (a b : ℕ) → b < 256 → product a b < 256
unfolding product
product_below a b h = product_of_bits_below 8 a b h

product_of_bits-bit_xor : (n a x y : ℕ) → x < 256 → y < 256
    → product_of_bits n a (bit_xor x y) ≡ bit_xor (product_of_bits n a x) (product_of_bits n a y)
unfolding product_of_bits
product_of_bits-bit_xor zero a x y h k = refl
product_of_bits-bit_xor (suc n) a x y h k =
    let rest : product_of_bits n (a / 2) (times_x (bit_xor x y))
    ≡ bit_xor (product_of_bits n (a / 2) (times_x x)) (product_of_bits n (a / 2) (times_x y)) =
    ap (product_of_bits n (a / 2)) (times_x-bit_xor x y h k)
    ∙ product_of_bits-bit_xor n (a / 2) (times_x x) (times_x y) (times_x_below x h) (times_x_below y k) in
    elim (eqb (a % 2) 0) as (λ (v : Bool). bit_xor (cond v 0 (bit_xor x y)) (product_of_bits n (a / 2) (times_x (bit_xor x y)))
    ≡ bit_xor (bit_xor (cond v 0 x) (product_of_bits n (a / 2) (times_x x))) (bit_xor (cond v 0 y) (product_of_bits n (a / 2) (times_x y)))) [
      | true ↦ rest
      | false ↦ ap (bit_xor (bit_xor x y)) rest ∙ bit_xor_swap x y _ _
    ]

pub product-bit_xor : (a x y : ℕ) → x < 256 → y < 256 → product a (bit_xor x y) ≡ bit_xor (product a x) (product a y)
unfolding product
product-bit_xor a x y h k = product_of_bits-bit_xor 8 a x y h k

-- the products by 2 and by 3
pub product_two : (x : ℕ) → product 2 x ≡ times_x x
unfolding product product_of_bits
product_two x = xor_zero_r (times_x x)

pub product_three : (x : ℕ) → product 3 x ≡ bit_xor x (times_x x)
unfolding product product_of_bits
product_three x = ap (bit_xor x) (xor_zero_r (times_x x))

-- ---- a column that is mixed twice

abbrev pub sum4 : ℕ → ℕ → ℕ → ℕ → ℕ
sum4 a b c d = bit_xor (bit_xor a b) (bit_xor c d)

pub sum4_turned : (a b c d : ℕ) → sum4 a b c d ≡ sum4 d a b c
sum4_turned a b c d =
    ap (bit_xor (bit_xor a b)) (xor_comm c d) ∙ xor_comm (bit_xor a b) (bit_xor d c) ∙ bit_xor_swap d c a b
    ∙ ap (bit_xor (bit_xor d a)) (xor_comm c b)

sum4_pairs : (a b c d a' b' c' d' : ℕ)
    → bit_xor (sum4 a b c d) (sum4 a' b' c' d') ≡ sum4 (bit_xor a a') (bit_xor b b') (bit_xor c c') (bit_xor d d')
sum4_pairs a b c d a' b' c' d' =
    bit_xor_swap (bit_xor a b) (bit_xor c d) (bit_xor a' b') (bit_xor c' d')
    ∙ ap₂ bit_xor (bit_xor_swap a b a' b') (bit_xor_swap c d c' d')

-- four rows of four, summed by columns
sum4_columns : (a b c d a' b' c' d' e f g h e' f' g' h' : ℕ)
    → sum4 (sum4 a b c d) (sum4 a' b' c' d') (sum4 e f g h) (sum4 e' f' g' h')
    ≡ sum4 (sum4 a a' e e') (sum4 b b' f f') (sum4 c c' g g') (sum4 d d' h h')
sum4_columns a b c d a' b' c' d' e f g h e' f' g' h' =
    ap₂ bit_xor (sum4_pairs a b c d a' b' c' d') (sum4_pairs e f g h e' f' g' h')
    ∙ sum4_pairs (bit_xor a a') (bit_xor b b') (bit_xor c c') (bit_xor d d') (bit_xor e e') (bit_xor f f') (bit_xor g g') (bit_xor h h')

product-sum4 : (k a b c d : ℕ) → a < 256 → b < 256 → c < 256 → d < 256
    → product k (sum4 a b c d) ≡ sum4 (product k a) (product k b) (product k c) (product k d)
product-sum4 k a b c d ha hb hc hd =
    product-bit_xor k (bit_xor a b) (bit_xor c d) (bit_xor_below a b ha hb) (bit_xor_below c d hc hd)
    ∙ ap₂ bit_xor (product-bit_xor k a b ha hb) (product-bit_xor k c d hc hd)

part_a : (x : ℕ) → x < 256 → sum4 (product 2 (product 2 x)) (product 3 x) x (product 3 x) ≡ bit_xor x (times_x (times_x x))
unfolding product product_of_bits
part_a x h = same_at (λ (y : ℕ). sum4 (product 2 (product 2 y)) (product 3 y) y (product 3 y)) (λ (y : ℕ). bit_xor y (times_x (times_x y))) x refl h

part_b : (x : ℕ) → x < 256 → sum4 (product 2 (product 3 x)) (product 3 (product 2 x)) x x ≡ 0
unfolding product product_of_bits
part_b x h = same_at (λ (y : ℕ). sum4 (product 2 (product 3 y)) (product 3 (product 2 y)) y y) (λ (y : ℕ). 0) x refl h

part_c : (x : ℕ) → x < 256 → sum4 (product 2 x) (product 3 (product 3 x)) (product 2 x) x ≡ times_x (times_x x)
unfolding product product_of_bits
part_c x h = same_at (λ (y : ℕ). sum4 (product 2 y) (product 3 (product 3 y)) (product 2 y) y) (λ (y : ℕ). times_x (times_x y)) x refl h

part_d : (x : ℕ) → x < 256 → sum4 (product 2 x) (product 3 x) (product 3 x) (product 2 x) ≡ 0
unfolding product product_of_bits
part_d x h = same_at (λ (y : ℕ). sum4 (product 2 y) (product 3 y) (product 3 y) (product 2 y)) (λ (y : ℕ). 0) x refl h

-- four times what two octets differ by, added to the first
unfoldable pub spread : ℕ → ℕ → ℕ
spread a c = bit_xor a (times_x (times_x (bit_xor a c)))

pub mixed_twice : (a b c d : ℕ) → a < 256 → b < 256 → c < 256 → d < 256
    → mixed (mixed a b c d) (mixed b c d a) (mixed c d a b) (mixed d a b c) ≡ spread a c
unfolding spread
mixed_twice a b c d ha hb hc hd =
    let a2 : ℕ = product 2 a in
    let b2 : ℕ = product 2 b in
    let c2 : ℕ = product 2 c in
    let d2 : ℕ = product 2 d in
    let a3 : ℕ = product 3 a in
    let b3 : ℕ = product 3 b in
    let c3 : ℕ = product 3 c in
    let d3 : ℕ = product 3 d in
    let row1 : product 2 (mixed a b c d) ≡ sum4 (product 2 a2) (product 2 b3) c2 d2 =
    product-sum4 2 a2 b3 c d (product_below 2 a ha) (product_below 3 b hb) hc hd in
    let row2 : product 3 (mixed b c d a) ≡ sum4 a3 (product 3 b2) (product 3 c3) d3 =
    product-sum4 3 b2 c3 d a (product_below 2 b hb) (product_below 3 c hc) hd ha
    ∙ sum4_turned (product 3 b2) (product 3 c3) d3 a3 in
    let row3 : mixed c d a b ≡ sum4 a b c2 d3 = sum4_turned c2 d3 a b ∙ sum4_turned b c2 d3 a in
    let row4 : mixed d a b c ≡ sum4 a3 b c d2 =
    sum4_turned d2 a3 b c ∙ sum4_turned c d2 a3 b ∙ sum4_turned b c d2 a3 in
    let linear : times_x (times_x (bit_xor a c)) ≡ bit_xor (times_x (times_x a)) (times_x (times_x c)) =
    ap times_x (times_x-bit_xor a c ha hc)
    ∙ times_x-bit_xor (times_x a) (times_x c) (times_x_below a ha) (times_x_below c hc) in
    ap₂ bit_xor (ap₂ bit_xor row1 row2) (ap₂ bit_xor row3 row4)
    ∙ sum4_columns (product 2 a2) (product 2 b3) c2 d2 a3 (product 3 b2) (product 3 c3) d3 a b c2 d3 a3 b c d2
    ∙ ap₂ bit_xor (ap₂ bit_xor (part_a a ha) (part_b b hb)) (ap₂ bit_xor (part_c c hc) (part_d d hd))
    ∙ ap₂ bit_xor (xor_zero_r (bit_xor a (times_x (times_x a)))) (xor_zero_r (times_x (times_x c)))
    ∙ xor_assoc a (times_x (times_x a)) (times_x (times_x c)) ∙ ap (bit_xor a) (sym linear)

-- ---- a column that is unmixed

-- the octet times 4, and times 5
abbrev times_4 : ℕ → ℕ
times_4 x = times_x (times_x x)

abbrev times_5 : ℕ → ℕ
times_5 x = bit_xor x (times_4 x)

times_4_below : (x : ℕ) → x < 256 → times_4 x < 256
times_4_below x h = times_x_below (times_x x) (times_x_below x h)

times_5_below : (x : ℕ) → x < 256 → times_5 x < 256
times_5_below x h = bit_xor_below x (times_4 x) h (times_4_below x h)

spread_parts : (a c : ℕ) → a < 256 → c < 256 → spread a c ≡ bit_xor (times_5 a) (times_4 c)
unfolding spread
spread_parts a c ha hc =
    ap (bit_xor a) (ap times_x (times_x-bit_xor a c ha hc) ∙ times_x-bit_xor (times_x a) (times_x c) (times_x_below a ha) (times_x_below c hc))
    ∙ sym (xor_assoc a (times_4 a) (times_4 c))

times_14 : (x : ℕ) → x < 256 → bit_xor (product 2 (times_5 x)) (times_4 x) ≡ product 14 x
unfolding product product_of_bits
times_14 x h = same_at (λ (y : ℕ). bit_xor (product 2 (times_5 y)) (times_4 y)) (product 14) x refl h

times_11 : (x : ℕ) → x < 256 → bit_xor (product 3 (times_5 x)) (times_4 x) ≡ product 11 x
unfolding product product_of_bits
times_11 x h = same_at (λ (y : ℕ). bit_xor (product 3 (times_5 y)) (times_4 y)) (product 11) x refl h

times_13 : (x : ℕ) → x < 256 → bit_xor (times_5 x) (product 2 (times_4 x)) ≡ product 13 x
unfolding product product_of_bits
times_13 x h = same_at (λ (y : ℕ). bit_xor (times_5 y) (product 2 (times_4 y))) (product 13) x refl h

times_9 : (x : ℕ) → x < 256 → bit_xor (times_5 x) (product 3 (times_4 x)) ≡ product 9 x
unfolding product product_of_bits
times_9 x h = same_at (λ (y : ℕ). bit_xor (times_5 y) (product 3 (times_4 y))) (product 9) x refl h

-- a column that is spread and then mixed is unmixed
pub mixed-spread : (a b c d : ℕ) → a < 256 → b < 256 → c < 256 → d < 256
    → mixed (spread a c) (spread b d) (spread c a) (spread d b) ≡ unmixed a b c d
mixed-spread a b c d ha hb hc hd =
    let first : product 2 (spread a c) ≡ bit_xor (product 2 (times_5 a)) (product 2 (times_4 c)) =
    ap (product 2) (spread_parts a c ha hc) ∙ product-bit_xor 2 (times_5 a) (times_4 c) (times_5_below a ha) (times_4_below c hc) in
    let second : product 3 (spread b d) ≡ bit_xor (product 3 (times_5 b)) (product 3 (times_4 d)) =
    ap (product 3) (spread_parts b d hb hd) ∙ product-bit_xor 3 (times_5 b) (times_4 d) (times_5_below b hb) (times_4_below d hd) in
    ap₂ bit_xor (ap₂ bit_xor first second) (ap₂ bit_xor (spread_parts c a hc ha) (spread_parts d b hd hb))
    ∙ sym (sum4_pairs (product 2 (times_5 a)) (product 3 (times_5 b)) (times_5 c) (times_5 d) (product 2 (times_4 c)) (product 3 (times_4 d)) (times_4 a) (times_4 b))
    ∙ ap (bit_xor (sum4 (product 2 (times_5 a)) (product 3 (times_5 b)) (times_5 c) (times_5 d)))
    (sum4_turned (product 2 (times_4 c)) (product 3 (times_4 d)) (times_4 a) (times_4 b) ∙ sum4_turned (times_4 b) (product 2 (times_4 c)) (product 3 (times_4 d)) (times_4 a))
    ∙ sum4_pairs (product 2 (times_5 a)) (product 3 (times_5 b)) (times_5 c) (times_5 d) (times_4 a) (times_4 b) (product 2 (times_4 c)) (product 3 (times_4 d))
    ∙ ap₂ bit_xor (ap₂ bit_xor (times_14 a ha) (times_11 b hb)) (ap₂ bit_xor (times_13 c hc) (times_9 d hd))

pub unmixed-bit_xor : (a b c d e f g h : ℕ) → a < 256 → b < 256 → c < 256 → d < 256 → e < 256 → f < 256 → g < 256 → h < 256
    → unmixed (bit_xor a e) (bit_xor b f) (bit_xor c g) (bit_xor d h) ≡ bit_xor (unmixed a b c d) (unmixed e f g h)
unmixed-bit_xor a b c d e f g h ha hb hc hd he hf hg hh =
    ap₂ bit_xor (ap₂ bit_xor (product-bit_xor 14 a e ha he) (product-bit_xor 11 b f hb hf)) (ap₂ bit_xor (product-bit_xor 13 c g hc hg) (product-bit_xor 9 d h hd hh))
    ∙ sym (sum4_pairs (product 14 a) (product 11 b) (product 13 c) (product 9 d) (product 14 e) (product 11 f) (product 13 g) (product 9 h))
