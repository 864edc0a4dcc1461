-- The blocks of a text that grows.
use Rattle.std.proofs.Common.{◌≡◌, ℕ, zero, suc, ◌<◌, ◌≤◌, ◌+◌, ◌-◌, ◌*◌, List, ◌∷◌, ◌++◌, length, take, drop, replicate, set, refl, sym, subst, ap, ap₂, ◌∙◌, arith, append_assoc, false, true}
use Rattle.std.proofs.Math.Seq.{set-append_seam, take-add}
use Rattle.std.proofs.lemmas.Bool.{lt-ltb, le-ltb, eq-eqb, ne_eqb}
use Rattle.std.specs.Prelude.{◌^◌, ◌%◌, ◌==◌, bit_xor}
use Rattle.std.specs.Int.{w128, to_be_bytes, from_be_bytes}
use Rattle.std.proofs.lemmas.List.{drop-append-le, take-append-le, take_at, drop_at, take_all, take_rest, length-append, length-drop, append-nil}
use Rattle.aes_block.specs.Octets.{exclusive_or}
use Rattle.aes_block.specs.Cipher.{cipher}
use Rattle.mac_prf.specs.Cmac.{blocks_before_last, last_octets, last_block, second_subkey, first_subkey, doubled, chained}
use Rattle.mac_prf.specs.HoldsBlocks.{HoldsBlocks}

-- what stands behind whole blocks does not change their chain
chained-append : (key text more : List ℕ) (n : ℕ) → 16 * n ≤ length text → chained key (text ++ more) n ≡ chained key text n
unfolding chained
chained-append key text more zero h = refl
chained-append key text more (suc n) h =
    let front : chained key (text ++ more) n ≡ chained key text n = chained-append key text more n (omega arith) in
    let block : take 16 (drop (16 * n) (text ++ more)) ≡ take 16 (drop (16 * n) text) =
    ap (take 16) (drop-append-le (16 * n) text more (omega arith))
    ∙ take-append-le 16 (drop (16 * n) text) more (omega (arith, length-drop (16 * n) text)) in
    ap₂ (λ (x m : List ℕ). cipher key (exclusive_or x m)) front block

-- an octet is put in the place of the first zero
placed : (octets block : List ℕ) (count octet : ℕ) → count ≡ length octets → count < 16 → block ≡ octets ++ replicate (16 - count) 0
    → set block count octet ≡ octets ++ octet ∷ replicate (15 - count) 0
placed octets block count octet c room b =
    let one : 16 - count ≡ suc (15 - count) = omega arith in
    ap₂ (λ (w : List ℕ) (n : ℕ). set w n octet) (b ∙ ap (λ (n : ℕ). octets ++ replicate n 0) one) c
    ∙ set-append_seam octets 0 (replicate (15 - count) 0) octet

-- fewer zeros
pub fewer_zeros : (m n : ℕ) → drop {A = ℕ} m (replicate n 0) ≡ replicate (n - m) 0
fewer_zeros zero n = ap (λ (k : ℕ). replicate k 0) {x = n} {y = n - 0} (omega arith)
fewer_zeros (suc m) zero = ap (λ (k : ℕ). replicate k 0) {x = 0} {y = 0 - suc m} (omega arith)
fewer_zeros (suc m) (suc n) = fewer_zeros m n ∙ ap (λ (k : ℕ). replicate k 0) {x = n - m} {y = suc n - suc m} (omega arith)

-- octets are put in the places of the first zeros
put : (octets block more new : List ℕ) (count n : ℕ) → count ≡ length octets → new ≡ more → count + n ≤ 16
    → block ≡ octets ++ replicate (16 - count) 0
    → take count block ++ (new ++ drop (count + n - count) (drop count block)) ≡ (octets ++ more) ++ replicate (16 - (count + n)) 0
put octets block more new count n c e room b =
    let zeros : List ℕ = replicate (16 - count) 0 in
    let front : take count block ≡ octets = ap (take count) b ∙ take_at octets zeros count (sym c) in
    let rest : drop count block ≡ zeros = ap (drop count) b ∙ drop_at octets zeros count (sym c) in
    let left : drop (count + n - count) (drop count block) ≡ replicate (16 - (count + n)) 0 =
    ap (drop (count + n - count)) rest ∙ fewer_zeros (count + n - count) (16 - count)
    ∙ ap (λ (k : ℕ). replicate k 0) {x = 16 - count - (count + n - count)} {y = 16 - (count + n)} (omega arith) in
    ap₂ (λ (v w : List ℕ). v ++ w) front (ap₂ (λ (v w : List ℕ). v ++ w) e left)
    ∙ sym (append_assoc octets more (replicate (16 - (count + n)) 0))

-- more octets of the last block
pub holds-more : (cipher_key chain block key text more new : List ℕ) (count n : ℕ) → HoldsBlocks cipher_key chain block count key text
    → n ≡ length more → new ≡ more → 0 < n → count + n ≤ 16
    → HoldsBlocks cipher_key chain (take count block ++ (new ++ drop (count + n - count) (drop count block))) (count + n) key (text ++ more)
holds-more cipher_key chain block key text more new count n h e is some room =
    let b = blocks_before_last text in
    let all : List ℕ = text ++ more in
    let len = length-append text more in
    let left : count ≡ length text - 16 * b = h.counted ∙ length-drop (16 * b) text in
    let same : blocks_before_last all ≡ b = omega (arith, len, left) in
    let last : last_octets all ≡ last_octets text ++ more =
    ap (λ (k : ℕ). drop (16 * k) all) same ∙ drop-append-le (16 * b) text more (omega arith) in record {
      keyed = h.keyed;
      before = h.before ∙ sym (ap (chained key all) same ∙ chained-append key text more b (omega arith));
      counted = sym (ap length last ∙ length-append (last_octets text) more ∙ ap₂ (λ (k m : ℕ). k + m) (sym h.counted) (sym e));
      last = put (last_octets text) block more new count n h.counted is room h.last
          ∙ ap (λ (w : List ℕ). w ++ replicate (16 - (count + n)) 0) (sym last);
    }

-- the first octets of a new block, after a whole one
pub holds-next : (cipher_key chain block key text more : List ℕ) (count n : ℕ) → HoldsBlocks cipher_key chain block count key text → 16 ≤ count
    → n ≡ length more → 0 < n → n ≤ 16
    → HoldsBlocks cipher_key (cipher cipher_key (exclusive_or chain block)) (more ++ replicate (16 - length more) 0) n key (text ++ more)
unfolding chained
holds-next cipher_key chain block key text more count n h full e some room =
    let b = blocks_before_last text in
    let all : List ℕ = text ++ more in
    let len = length-append text more in
    let left : count ≡ length text - 16 * b = h.counted ∙ length-drop (16 * b) text in
    let whole : length text ≡ 16 * suc b = omega (arith, left) in
    let next : blocks_before_last all ≡ suc b = omega (arith, len, whole) in
    let sixteen : count ≡ 16 = omega (arith, left, whole) in
    let none : 16 - count ≡ 0 = omega arith in
    let block_is : block ≡ last_octets text = h.last ∙ ap (λ (k : ℕ). last_octets text ++ replicate k 0) none ∙ append-nil (last_octets text) in
    let taken : take 16 (drop (16 * b) all) ≡ last_octets text =
    ap (take 16) (drop-append-le (16 * b) text more (omega (arith, whole)))
    ∙ take_at (last_octets text) more 16 (sym h.counted ∙ sixteen) in
    let front : chained key all b ≡ chain = chained-append key text more b (omega (arith, whole)) ∙ sym h.before in
    let last : last_octets all ≡ more = ap (λ (k : ℕ). drop (16 * k) all) next ∙ drop_at text more (16 * suc b) whole in record {
      keyed = h.keyed;
      before = ap₂ (λ (k w : List ℕ). cipher k (exclusive_or chain w)) h.keyed block_is
          ∙ ap₂ (λ (x m : List ℕ). cipher key (exclusive_or x m)) (sym front) (sym taken)
          ∙ sym (ap (chained key all) next);
      counted = e ∙ sym (ap length last);
      last = ap₂ (λ (w : List ℕ) (k : ℕ). w ++ replicate (16 - k) 0) (sym last) (sym e);
    }

-- a text under another name
pub holds-same : (cipher_key chain block : List ℕ) (count : ℕ) (key text other : List ℕ) → text ≡ other
    → HoldsBlocks cipher_key chain block count key text → HoldsBlocks cipher_key chain block count key other
holds-same cipher_key chain block count key text other e h = subst (HoldsBlocks cipher_key chain block count key) e h

-- a piece of one block
pub whole_filled : (piece : List ℕ) → length piece ≡ 16 → take 16 (drop 0 piece) ≡ piece ++ replicate (16 - length piece) 0
whole_filled piece len =
    let none : 16 - length piece ≡ 0 = omega arith in
    take_all 16 piece (omega arith) ∙ sym (ap (λ (k : ℕ). piece ++ replicate k 0) none ∙ append-nil piece)

-- a text with a piece of which a front is taken in, and then some of its rest
pub taken_more : (text piece : List ℕ) (done count : ℕ)
    → (text ++ take done piece) ++ take count (take (length piece - done) (drop done piece)) ≡ text ++ take (done + count) piece
taken_more text piece done count =
    append_assoc text (take done piece) (take count (take (length piece - done) (drop done piece)))
    ∙ ap (λ (w : List ℕ). text ++ (take done piece ++ take count w)) (take_rest piece done)
    ∙ ap (λ (w : List ℕ). text ++ w) (sym (take-add done count piece))

-- the last block under its subkey, as it is padded
pub last_block-part : (key octets block subkey : List ℕ) (count : ℕ) → count ≡ length octets → block ≡ octets ++ replicate (16 - count) 0 → count < 16
    → subkey ≡ second_subkey key → exclusive_or (set block count 0x80) subkey ≡ last_block key octets
last_block-part key octets block subkey count c b room s =
    let other : (length octets == 16) ≡ false = ne_eqb (length octets) 16 (λ e. absurd (omega arith)) in
    rw other (ap₂ exclusive_or (placed octets block count 0x80 c room b ∙ ap (λ (n : ℕ). octets ++ 0x80 ∷ replicate (15 - n) 0) c) s)

-- the last block under its subkey, as it is whole
pub last_block-whole : (key octets block subkey : List ℕ) (count : ℕ) → count ≡ length octets → block ≡ octets ++ replicate (16 - count) 0 → count ≡ 16
    → subkey ≡ first_subkey key → exclusive_or block subkey ≡ last_block key octets
last_block-whole key octets block subkey count c b full s =
    let same : (length octets == 16) ≡ true = eq-eqb (length octets) 16 (sym c ∙ full) in
    let none : 16 - count ≡ 0 = omega arith in
    rw same (ap₂ exclusive_or (b ∙ ap (λ (n : ℕ). octets ++ replicate n 0) none ∙ append-nil octets) s)

-- a last block has at most 16 octets
pub last_octets-few : (text : List ℕ) → length (last_octets text) ≤ 16
last_octets-few text = omega (arith, length-drop (16 * blocks_before_last text) text)

-- a block that loses no bit
pub doubled-low : (block : List ℕ) → from_be_bytes w128 block < 2 ^ 127 → to_be_bytes w128 (from_be_bytes w128 block * 2 % 2 ^ 128) ≡ doubled block
unfolding doubled
doubled-low block low = rw (lt-ltb (from_be_bytes w128 block) (2 ^ 127) low) refl

-- a block that loses one
pub doubled-high : (block : List ℕ) → 2 ^ 127 ≤ from_be_bytes w128 block
    → to_be_bytes w128 (bit_xor (from_be_bytes w128 block * 2 % 2 ^ 128) 0x87) ≡ doubled block
unfolding doubled
doubled-high block high = rw (le-ltb (from_be_bytes w128 block) (2 ^ 127) high) refl
