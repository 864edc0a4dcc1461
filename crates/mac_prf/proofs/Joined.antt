-- Blocks of one length, joined.
use Rattle.std.proofs.Common.{◌≡◌, ℕ, zero, suc, ◌+◌, ◌-◌, ◌*◌, ◌≤◌, List, ◌++◌, length, take, refl, sym, ap, ◌∙◌, arith, add-zero, append_assoc}
use Rattle.std.proofs.lemmas.List.{length-append, append-nil, take_all}
use Rattle.std.proofs.Math.Nat.{mul-suc}
use Rattle.std.proofs.Math.Seq.{take-append-add}
use Rattle.std.specs.List.{flat_map, range_with_len}

-- one more block
pub joined-more : (f : ℕ → List ℕ) (a n : ℕ) → flat_map f (range_with_len a (suc n)) ≡ flat_map f (range_with_len a n) ++ f (a + n)
joined-more f a zero = rw (add-zero, append-nil) refl
joined-more f a (suc n) =
    ap (λ (w : List ℕ). f a ++ w) (joined-more f (a + 1) n)
    ∙ sym (append_assoc (f a) (flat_map f (range_with_len (a + 1) n)) (f (a + 1 + n)))
    ∙ ap (λ (k : ℕ). (f a ++ flat_map f (range_with_len (a + 1) n)) ++ f k) (let e : a + 1 + n ≡ a + suc n = omega arith in e)

pub length-joined : (f : ℕ → List ℕ) (w : ℕ) → ((i : ℕ) → length (f i) ≡ w) → (a n : ℕ) → length (flat_map f (range_with_len a n)) ≡ w * n
length-joined f w size a zero = omega arith
length-joined f w size a (suc n) =
    length-append (f a) (flat_map f (range_with_len (a + 1) n))
    ∙ rw (mul-suc) (omega (arith, size a, length-joined f w size (a + 1) n))

-- one more block is written, as far as there is room
pub block_written : (f : ℕ → List ℕ) (w : ℕ) → ((i : ℕ) → length (f i) ≡ w) → (a i place n : ℕ) (out out' block : List ℕ) → length out ≡ n → w * i ≤ n → place ≡ a + i
    → take (w * i) out ≡ take n (flat_map f (range_with_len a i))
    → block ≡ f place
    → take (w * i + length block) out' ≡ take (w * i) out ++ take (length out - w * i) block
    → take (w * suc i) out' ≡ take n (flat_map f (range_with_len a (suc i)))
block_written f w size a i place n out out' block long fits at so_far is front =
    let blocks = flat_map f (range_with_len a i) in
    let len : length blocks ≡ w * i = length-joined f w size a i in
    let whole : take n blocks ≡ blocks = take_all n blocks (omega arith) in
    let seam : length blocks + (n - w * i) ≡ n = omega arith in
    let wide : length block ≡ w = ap length is ∙ size place in
    let end : w * suc i ≡ w * i + length block = mul-suc w i ∙ omega arith in
    ap (λ (m : ℕ). take m out') end
    ∙ front
    ∙ ap (λ (m : ℕ). take (w * i) out ++ take (m - w * i) block) long
    ∙ ap (λ (x : List ℕ). x ++ take (n - w * i) block) (so_far ∙ whole)
    ∙ ap (λ (x : List ℕ). blocks ++ take (n - w * i) x) (is ∙ ap f at)
    ∙ sym (take-append-add blocks (f (a + i)) (n - w * i))
    ∙ ap (λ (m : ℕ). take m (blocks ++ f (a + i))) seam
    ∙ ap (λ (x : List ℕ). take n x) (sym (joined-more f a i))

-- all blocks are written
pub all_written : (f : ℕ → List ℕ) (w a i count n : ℕ) (out : List ℕ) → length out ≡ n → i ≡ count → n ≤ w * i
    → take (w * i) out ≡ take n (flat_map f (range_with_len a i)) → out ≡ take n (flat_map f (range_with_len a count))
all_written f w a i count n out len all enough so_far =
    sym (take_all (w * i) out (omega arith)) ∙ so_far ∙ ap (λ (k : ℕ). take n (flat_map f (range_with_len a k))) all
