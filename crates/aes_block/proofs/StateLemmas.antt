-- The steps of a round undo no more than they do: each has an inverse, and keeps octets octets.
use Rattle.std.proofs.Common.{◌≡◌, ℕ, ◌<◌, ◌+◌, ◌-◌, ◌*◌, ◌/◌, ◌%◌, List, length, get_or, refl, sym, ap, ap₂, ◌∙◌, arith}
use Rattle.std.proofs.lemmas.List.{length-map, get_or-map}
use Rattle.std.proofs.lemmas.List.Elements.{All-from_get_or}
use Rattle.std.proofs.lemmas.List.FromFn.{get_or-map-range_with_len}
use Rattle.std.proofs.lemmas.Grind.{same_number_lists}
use Rattle.std.specs.Int.Bits.{bit_xor, xor_comm, xor_self, xor_zero_r}
use Rattle.domain_base.specs.Octets.{AreOctets}
use Rattle.domain_base.proofs.OctetLemmas.{get_or_below}
use Rattle.aes_block.specs.Field.{times_x, sub_octet}
use Rattle.aes_block.specs.State.{entry, state_of, sub_octets, shift_rows, mixed, mix_columns}
use Rattle.aes_block.specs.Octets.{exclusive_or}
use Rattle.aes_block.specs.Words.{unmixed, unmix_columns}
use Rattle.aes_block.proofs.OctetLemmas.{bit_xor_below, bit_xor_twice, bit_xor_swap, length-exclusive_or, get_or-exclusive_or}
use Rattle.aes_block.proofs.FieldLemmas.{spread, mixed_twice, product_below, times_x_below, mixed-spread, unmixed-bit_xor}

-- ---- states by their entries

pub length-state_of : (f : ℕ → ℕ → ℕ) → length (state_of f) ≡ 16
unfolding state_of
length-state_of f = refl

pub get_or-state_of : (f : ℕ → ℕ → ℕ) (k : ℕ) → k < 16 → get_or (state_of f) k 0 ≡ f (k % 4) (k / 4)
unfolding state_of
get_or-state_of f k h = get_or-map-range_with_len (λ (p : ℕ). f (p % 4) (p / 4)) 0 16 k k 0 h (omega arith)

pub entry-state_of : (f : ℕ → ℕ → ℕ) (r c : ℕ) → r < 4 → c < 4 → entry (state_of f) r c ≡ f r c
entry-state_of f r c h k =
    let row : (r + 4 * c) % 4 ≡ r = omega arith in
    let column : (r + 4 * c) / 4 ≡ c = omega arith in
    get_or-state_of f (r + 4 * c) (omega arith) ∙ ap₂ f row column

-- a state is the one of its entries
pub state_of-same : (f : ℕ → ℕ → ℕ) (s : List ℕ) → length s ≡ 16 → ((r c : ℕ) → r < 4 → c < 4 → f r c ≡ entry s r c) → state_of f ≡ s
state_of-same f s len same = same_number_lists (state_of f) s (length-state_of f ∙ sym len) (λ k h.
    let lt : k < 16 = omega (arith, length-state_of f) in
    let place : k % 4 + 4 * (k / 4) ≡ k = omega arith in
    get_or-state_of f k lt ∙ same (k % 4) (k / 4) (omega arith) (omega arith) ∙ ap (λ (p : ℕ). get_or s p 0) place)

pub AreOctets-state_of : (f : ℕ → ℕ → ℕ) → ((r c : ℕ) → r < 4 → c < 4 → f r c < 256) → AreOctets (state_of f)
AreOctets-state_of f below = All-from_get_or (λ (x : ℕ). x < 256) (state_of f) 0 (λ i h.
    let lt : i < 16 = omega (arith, length-state_of f) in
    let b = below (i % 4) (i / 4) (omega arith) (omega arith) in
    let e = get_or-state_of f i lt in
    omega arith)

-- ---- the substitution

pub length-sub_octets : (s : List ℕ) → length (sub_octets s) ≡ length s
unfolding sub_octets
length-sub_octets s = length-map s sub_octet

pub get_or-sub_octets : (s : List ℕ) (k : ℕ) → k < length s → get_or (sub_octets s) k 0 ≡ sub_octet (get_or s k 0)
unfolding sub_octets
get_or-sub_octets s k h = get_or-map sub_octet s k 0 0 h

-- ---- the shift of the rows

-- each row shifted to the right
unfoldable pub unshifted_rows : List ℕ → List ℕ
unshifted_rows s = state_of (λ r c. entry s r ((c + 4 - r) % 4))

pub shift_rows-unshifted_rows : (s : List ℕ) → length s ≡ 16 → shift_rows (unshifted_rows s) ≡ s
unfolding shift_rows unshifted_rows
shift_rows-unshifted_rows s len = state_of-same _ s len (λ r c h k.
    let e : ((c + r) % 4 + 4 - r) % 4 ≡ c = omega arith in
    entry-state_of (λ r c. entry s r ((c + 4 - r) % 4)) r ((c + r) % 4) h (omega arith) ∙ ap (entry s r) e)

pub unshifted_rows-shift_rows : (s : List ℕ) → length s ≡ 16 → unshifted_rows (shift_rows s) ≡ s
unfolding shift_rows unshifted_rows
unshifted_rows-shift_rows s len = state_of-same _ s len (λ r c h k.
    let e : ((c + 4 - r) % 4 + r) % 4 ≡ c = omega arith in
    entry-state_of (λ r c. entry s r ((c + r) % 4)) r ((c + 4 - r) % 4) h (omega arith) ∙ ap (entry s r) e)

pub AreOctets-shift_rows : (s : List ℕ) → AreOctets s → AreOctets (shift_rows s)
unfolding shift_rows
AreOctets-shift_rows s are = AreOctets-state_of _ (λ r c h k. get_or_below s (r + 4 * ((c + r) % 4)) are)

pub AreOctets-unshifted_rows : (s : List ℕ) → AreOctets s → AreOctets (unshifted_rows s)
unfolding unshifted_rows
AreOctets-unshifted_rows s are = AreOctets-state_of _ (λ r c h k. get_or_below s (r + 4 * ((c + 4 - r) % 4)) are)

-- ---- the mix of the columns

-- each octet and the one two rows on, spread
unfoldable pub spread_columns : List ℕ → List ℕ
spread_columns s = state_of (λ r c. spread (entry s r c) (entry s ((r + 2) % 4) c))

spread_twice : (a c : ℕ) → spread (spread a c) (spread c a) ≡ a
unfolding spread
spread_twice a c =
    let u : ℕ = times_x (times_x (bit_xor a c)) in
    let same : times_x (times_x (bit_xor c a)) ≡ u = ap (λ (w : ℕ). times_x (times_x w)) (xor_comm c a) in
    let between : bit_xor (bit_xor a u) (bit_xor c (times_x (times_x (bit_xor c a)))) ≡ bit_xor a c =
    ap (λ (w : ℕ). bit_xor (bit_xor a u) (bit_xor c w)) same ∙ bit_xor_swap a u c u
    ∙ ap (bit_xor (bit_xor a c)) (xor_self u) ∙ xor_zero_r (bit_xor a c) in
    ap (λ (w : ℕ). bit_xor (bit_xor a u) (times_x (times_x w))) between ∙ bit_xor_twice a u

pub spread_columns_twice : (s : List ℕ) → length s ≡ 16 → spread_columns (spread_columns s) ≡ s
unfolding spread_columns
spread_columns_twice s len = state_of-same _ s len (λ r c h k.
    let f : ℕ → ℕ → ℕ = λ r c. spread (entry s r c) (entry s ((r + 2) % 4) c) in
    let back : ((r + 2) % 4 + 2) % 4 ≡ r = omega arith in
    ap₂ spread (entry-state_of f r c h k)
    (entry-state_of f ((r + 2) % 4) c (omega arith) k ∙ ap (λ (w : ℕ). spread (entry s ((r + 2) % 4) c) (entry s w c)) back)
    ∙ spread_twice (entry s r c) (entry s ((r + 2) % 4) c))

mixed_of : List ℕ → ℕ → ℕ → ℕ
mixed_of s r c =
    mixed (entry s r c) (entry s ((r + 1) % 4) c) (entry s ((r + 2) % 4) c) (entry s ((r + 3) % 4) c)

-- an entry of the mixed columns, from the four rows in the order that begins with its own
pub mixed_from : (s : List ℕ) (r r1 r2 r3 c : ℕ) → r < 4 → c < 4 → (r + 1) % 4 ≡ r1 → (r + 2) % 4 ≡ r2 → (r + 3) % 4 ≡ r3
    → entry (mix_columns s) r c ≡ mixed (entry s r c) (entry s r1 c) (entry s r2 c) (entry s r3 c)
unfolding mix_columns mixed_of
mixed_from s r r1 r2 r3 c h k e1 e2 e3 =
    entry-state_of (mixed_of s) r c h k
    ∙ ap (λ (w : ℕ). mixed (entry s r c) (entry s w c) (entry s ((r + 2) % 4) c) (entry s ((r + 3) % 4) c)) e1
    ∙ ap (λ (w : ℕ). mixed (entry s r c) (entry s r1 c) (entry s w c) (entry s ((r + 3) % 4) c)) e2
    ∙ ap (λ (w : ℕ). mixed (entry s r c) (entry s r1 c) (entry s r2 c) (entry s w c)) e3

pub length-mix_columns : (s : List ℕ) → length (mix_columns s) ≡ 16
unfolding mix_columns
length-mix_columns s = length-state_of _

pub mix_columns_twice : (s : List ℕ) → AreOctets s → mix_columns (mix_columns s) ≡ spread_columns s
unfolding spread_columns
mix_columns_twice s are = sym (state_of-same _ (mix_columns (mix_columns s)) (length-mix_columns (mix_columns s)) (λ r c h k.
    let r1 : ℕ = (r + 1) % 4 in
    let r2 : ℕ = (r + 2) % 4 in
    let r3 : ℕ = (r + 3) % 4 in
    let m : List ℕ = mix_columns s in
    let at = λ (row : ℕ). get_or_below s (row + 4 * c) are in
    sym (mixed_from m r r1 r2 r3 c h k refl refl refl
    ∙ ap (λ (w : ℕ). mixed w (entry m r1 c) (entry m r2 c) (entry m r3 c)) (mixed_from s r r1 r2 r3 c h k refl refl refl)
    ∙ ap (λ (w : ℕ). mixed (mixed (entry s r c) (entry s r1 c) (entry s r2 c) (entry s r3 c)) w (entry m r2 c) (entry m r3 c))
    (mixed_from s r1 r2 r3 r c (omega arith) k (omega arith) (omega arith) (omega arith))
    ∙ ap (λ (w : ℕ). mixed (mixed (entry s r c) (entry s r1 c) (entry s r2 c) (entry s r3 c)) (mixed (entry s r1 c) (entry s r2 c) (entry s r3 c) (entry s r c)) w (entry m r3 c))
    (mixed_from s r2 r3 r r1 c (omega arith) k (omega arith) (omega arith) (omega arith))
    ∙ ap (λ (w : ℕ). mixed (mixed (entry s r c) (entry s r1 c) (entry s r2 c) (entry s r3 c)) (mixed (entry s r1 c) (entry s r2 c) (entry s r3 c) (entry s r c)) (mixed (entry s r2 c) (entry s r3 c) (entry s r c) (entry s r1 c)) w)
    (mixed_from s r3 r r1 r2 c (omega arith) k (omega arith) (omega arith) (omega arith))
    ∙ mixed_twice (entry s r c) (entry s r1 c) (entry s r2 c) (entry s r3 c) (at r) (at r1) (at r2) (at r3))))

pub AreOctets-mix_columns : (s : List ℕ) → AreOctets s → AreOctets (mix_columns s)
unfolding mix_columns
AreOctets-mix_columns s are = AreOctets-state_of _ (λ r c h k.
    let at = λ (row : ℕ). get_or_below s (row + 4 * c) are in
    bit_xor_below _ _ (bit_xor_below _ _ (product_below 2 _ (at r)) (product_below 3 _ (at ((r + 1) % 4)))) (bit_xor_below _ _ (at ((r + 2) % 4)) (at ((r + 3) % 4))))

pub AreOctets-spread_columns : (s : List ℕ) → AreOctets s → AreOctets (spread_columns s)
unfolding spread_columns spread
AreOctets-spread_columns s are = AreOctets-state_of _ (λ r c h k.
    let a = get_or_below s (r + 4 * c) are in
    let b = get_or_below s ((r + 2) % 4 + 4 * c) are in
    bit_xor_below _ _ a (times_x_below _ (times_x_below _ (bit_xor_below _ _ a b))))

-- the columns of spread ones, mixed twice, are what they were
pub mix_columns-spread_columns : (s : List ℕ) → length s ≡ 16 → AreOctets s → mix_columns (mix_columns (spread_columns s)) ≡ s
mix_columns-spread_columns s len are =
    mix_columns_twice (spread_columns s) (AreOctets-spread_columns s are) ∙ spread_columns_twice s len

pub mix_columns-injective : (s t : List ℕ) → length s ≡ 16 → length t ≡ 16 → AreOctets s → AreOctets t
    → mix_columns s ≡ mix_columns t → s ≡ t
mix_columns-injective s t len len' are are' e =
    sym (spread_columns_twice s len)
    ∙ ap spread_columns (sym (mix_columns_twice s are) ∙ ap mix_columns e ∙ mix_columns_twice t are')
    ∙ spread_columns_twice t len'

pub shift_rows-injective : (s t : List ℕ) → length s ≡ 16 → length t ≡ 16 → shift_rows s ≡ shift_rows t → s ≡ t
shift_rows-injective s t len len' e =
    sym (unshifted_rows-shift_rows s len) ∙ ap unshifted_rows e ∙ unshifted_rows-shift_rows t len'

pub length-shift_rows : (s : List ℕ) → length (shift_rows s) ≡ 16
unfolding shift_rows
length-shift_rows s = length-state_of _

pub length-unshifted_rows : (s : List ℕ) → length (unshifted_rows s) ≡ 16
unfolding unshifted_rows
length-unshifted_rows s = length-state_of _

pub length-spread_columns : (s : List ℕ) → length (spread_columns s) ≡ 16
unfolding spread_columns
length-spread_columns s = length-state_of _

-- ---- the columns unmixed

pub length-unmix_columns : (s : List ℕ) → length (unmix_columns s) ≡ 16
unfolding unmix_columns
length-unmix_columns s = length-state_of _

pub AreOctets-unmix_columns : (s : List ℕ) → AreOctets s → AreOctets (unmix_columns s)
unfolding unmix_columns
AreOctets-unmix_columns s are = AreOctets-state_of _ (λ r c h k.
    let at = λ (row : ℕ). get_or_below s (row + 4 * c) are in
    bit_xor_below _ _ (bit_xor_below _ _ (product_below 14 _ (at r)) (product_below 11 _ (at ((r + 1) % 4))))
    (bit_xor_below _ _ (product_below 13 _ (at ((r + 2) % 4))) (product_below 9 _ (at ((r + 3) % 4)))))

unmixed_of : List ℕ → ℕ → ℕ → ℕ
unmixed_of s r c =
    unmixed (entry s r c) (entry s ((r + 1) % 4) c) (entry s ((r + 2) % 4) c) (entry s ((r + 3) % 4) c)

entry-unmix_columns : (s : List ℕ) (r c : ℕ) → r < 4 → c < 4 → entry (unmix_columns s) r c ≡ unmixed_of s r c
unfolding unmix_columns unmixed_of
entry-unmix_columns s r c h k = entry-state_of (unmixed_of s) r c h k

entry-exclusive_or : (s t : List ℕ) (r c : ℕ) → length s ≡ 16 → r < 4 → c < 4
    → entry (exclusive_or s t) r c ≡ bit_xor (entry s r c) (entry t r c)
entry-exclusive_or s t r c len h k = get_or-exclusive_or s t (r + 4 * c) (omega arith)

mixed_same : {a b c d e f g h : ℕ} → a ≡ e → b ≡ f → c ≡ g → d ≡ h → mixed a b c d ≡ mixed e f g h
mixed_same {a} {b} {c} {d} {e} {f} ea eb ec ed = ap₂ (λ (v w : ℕ). mixed v w c d) ea eb ∙ ap₂ (mixed e f) ec ed

unmixed_same : {a b c d e f g h : ℕ} → a ≡ e → b ≡ f → c ≡ g → d ≡ h → unmixed a b c d ≡ unmixed e f g h
unmixed_same {a} {b} {c} {d} {e} {f} ea eb ec ed = ap₂ (λ (v w : ℕ). unmixed v w c d) ea eb ∙ ap₂ (unmixed e f) ec ed

spread_at : (s : List ℕ) (r r2 c : ℕ) → r < 4 → c < 4 → (r + 2) % 4 ≡ r2 → entry (spread_columns s) r c ≡ spread (entry s r c) (entry s r2 c)
unfolding spread_columns
spread_at s r r2 c h k e =
    entry-state_of (λ (r c : ℕ). spread (entry s r c) (entry s ((r + 2) % 4) c)) r c h k
    ∙ ap (λ (w : ℕ). spread (entry s r c) (entry s w c)) e

-- unmixing is linear
pub unmix_columns-exclusive_or : (s t : List ℕ) → length s ≡ 16 → AreOctets s → AreOctets t
    → unmix_columns (exclusive_or s t) ≡ exclusive_or (unmix_columns s) (unmix_columns t)
unfolding unmixed_of
unmix_columns-exclusive_or s t len are are' =
    let sum : List ℕ = exclusive_or (unmix_columns s) (unmix_columns t) in
    let len' : length sum ≡ 16 = length-exclusive_or (unmix_columns s) (unmix_columns t) ∙ length-unmix_columns s in
    let at = λ (row c : ℕ). get_or_below s (row + 4 * c) are in
    let at' = λ (row c : ℕ). get_or_below t (row + 4 * c) are' in
    let split = λ (row c : ℕ) (h : row < 4) (k : c < 4). entry-exclusive_or s t row c len h k in
    sym (state_of-same (entry (unmix_columns (exclusive_or s t))) (unmix_columns (exclusive_or s t)) (length-unmix_columns (exclusive_or s t)) (λ r c h k. refl))
    ∙ state_of-same (entry (unmix_columns (exclusive_or s t))) sum len' (λ r c h k.
    let r1 : ℕ = (r + 1) % 4 in
    let r2 : ℕ = (r + 2) % 4 in
    let r3 : ℕ = (r + 3) % 4 in
    entry-unmix_columns (exclusive_or s t) r c h k
    ∙ unmixed_same (split r c h k) (split r1 c (omega arith) k) (split r2 c (omega arith) k) (split r3 c (omega arith) k)
    ∙ unmixed-bit_xor (entry s r c) (entry s r1 c) (entry s r2 c) (entry s r3 c) (entry t r c) (entry t r1 c) (entry t r2 c) (entry t r3 c)
    (at r c) (at r1 c) (at r2 c) (at r3 c) (at' r c) (at' r1 c) (at' r2 c) (at' r3 c)
    ∙ sym (entry-exclusive_or (unmix_columns s) (unmix_columns t) r c (length-unmix_columns s) h k
    ∙ ap₂ bit_xor (entry-unmix_columns s r c h k) (entry-unmix_columns t r c h k)))

-- the columns that are spread and mixed are unmixed
mix_columns-spread_is : (s : List ℕ) → length s ≡ 16 → AreOctets s → mix_columns (spread_columns s) ≡ unmix_columns s
unfolding unmixed_of
mix_columns-spread_is s len are =
    let t : List ℕ = spread_columns s in
    let at = λ (row c : ℕ). get_or_below s (row + 4 * c) are in
    sym (state_of-same (entry (mix_columns t)) (mix_columns t) (length-mix_columns t) (λ r c h k. refl))
    ∙ state_of-same (entry (mix_columns t)) (unmix_columns s) (length-unmix_columns s) (λ r c h k.
    let r1 : ℕ = (r + 1) % 4 in
    let r2 : ℕ = (r + 2) % 4 in
    let r3 : ℕ = (r + 3) % 4 in
    mixed_from t r r1 r2 r3 c h k refl refl refl
    ∙ mixed_same (spread_at s r r2 c h k refl) (spread_at s r1 r3 c (omega arith) k (omega arith)) (spread_at s r2 r c (omega arith) k (omega arith)) (spread_at s r3 r1 c (omega arith) k (omega arith))
    ∙ mixed-spread (entry s r c) (entry s r1 c) (entry s r2 c) (entry s r3 c) (at r c) (at r1 c) (at r2 c) (at r3 c)
    ∙ sym (entry-unmix_columns s r c h k))

-- columns that are mixed and unmixed are what they were
pub unmix_columns-mix_columns : (s : List ℕ) → length s ≡ 16 → AreOctets s → unmix_columns (mix_columns s) ≡ s
unmix_columns-mix_columns s len are =
    let once : List ℕ = mix_columns s in
    let is_once : AreOctets once = AreOctets-mix_columns s are in
    sym (mix_columns-spread_is once (length-mix_columns s) is_once)
    ∙ ap mix_columns (sym (mix_columns_twice once is_once))
    ∙ mix_columns_twice (mix_columns once) (AreOctets-mix_columns once is_once)
    ∙ ap spread_columns (mix_columns_twice s are)
    ∙ spread_columns_twice s len
