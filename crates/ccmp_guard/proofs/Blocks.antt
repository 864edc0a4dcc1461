-- Blocks of a message and of the key stream.
use Rattle.std.proofs.Common.{◌≡◌, ℕ, zero, suc, ◌<◌, ◌≤◌, ◌+◌, ◌-◌, ◌*◌, min, List, [], ◌∷◌, ◌++◌, length, take, drop, refl, sym, ap, ap₂, ◌∙◌, arith, inl, inr}
use Rattle.std.proofs.lemmas.Bool.{cases_lt, ne_eqb}
use Rattle.std.proofs.lemmas.List.{append_assoc, take_at, drop_at, take_all, drop_all, drop-drop, length-append, length-drop, length-take-le, take-append-le, drop-append-le, append-nil}
use Rattle.std.proofs.Math.Seq.{take-add}
use Rattle.std.specs.Int.{w16, to_be_bytes}
use Rattle.std.specs.Prelude.{◌==◌, false}
use Rattle.aes_block.specs.Octets.{exclusive_or}
use Rattle.aes_block.specs.Cipher.{cipher}
use Rattle.aes_block.proofs.CipherLemmas.{length-cipher}
use Rattle.ccmp_guard.specs.Ccm.{filled, block_count, chained, chained_all, begun, counter_block, key_block, key_stream, encrypted}
use Rattle.ccmp_guard.proofs.Octets.{take-exclusive_or, drop-exclusive_or}

-- the octets from a place to the end of its block
pub block_from : (octets : List ℕ) (at end : ℕ) → at ≤ length octets → end ≡ min (at + 16) (length octets)
    → take (end - at) (drop at octets) ≡ take 16 (drop at octets)
block_from octets at end h e = elim (cases_lt (length octets) (at + 16)) [
  | inl short ↦
      let len = length-drop at octets in
      take_all (end - at) (drop at octets) (omega (arith, len)) ∙ sym (take_all 16 (drop at octets) (omega (arith, len)))
  | inr long ↦ ap (λ (k : ℕ). take k (drop at octets)) (let s : end - at ≡ 16 = omega arith in s)
]

-- S_1 to S_n are so many octets
pub length-key_stream : (key nonce : List ℕ) (n : ℕ) → length (key_stream key nonce n) ≡ 16 * n
unfolding key_stream
length-key_stream key nonce zero = refl
length-key_stream key nonce (suc n) =
    length-append (key_stream key nonce n) (key_block key nonce (suc n))
    ∙ omega (arith, length-key_stream key nonce n, length-cipher key (counter_block nonce (suc n)))

-- a block of the key stream
pub key_stream-block : (key nonce : List ℕ) (n m : ℕ) → n < m → take 16 (drop (16 * n) (key_stream key nonce m)) ≡ key_block key nonce (suc n)
unfolding key_stream
key_stream-block key nonce n zero h = absurd (omega arith)
key_stream-block key nonce n (suc m) h =
    let before = key_stream key nonce m in
    let last = key_block key nonce (suc m) in
    let len : length before ≡ 16 * m = length-key_stream key nonce m in
    elim (cases_lt n m) [
      | inl less ↦
          ap (take 16) (drop-append-le (16 * n) before last (omega arith))
          ∙ take-append-le 16 (drop (16 * n) before) last (omega (arith, length-drop (16 * n) before))
          ∙ key_stream-block key nonce n m less
      | inr more ↦
          let same : n ≡ m = omega arith in
          let place : length before ≡ 16 * n = omega arith in
          ap (take 16) (drop_at before last (16 * n) place)
          ∙ take_all 16 last (omega (arith, length-cipher key (counter_block nonce (suc m))))
          ∙ ap (λ (k : ℕ). key_block key nonce (suc k)) (sym same)
    ]

-- a block of an encrypted message
pub encrypted-block : (key nonce octets : List ℕ) (n : ℕ) → n < block_count octets
    → take 16 (drop (16 * n) (encrypted key nonce octets)) ≡ exclusive_or (take 16 (drop (16 * n) octets)) (key_block key nonce (suc n))
encrypted-block key nonce octets n h =
    let stream = key_stream key nonce (block_count octets) in
    ap (take 16) (drop-exclusive_or (16 * n) octets stream)
    ∙ take-exclusive_or 16 (drop (16 * n) octets) (drop (16 * n) stream)
    ∙ ap (exclusive_or (take 16 (drop (16 * n) octets))) (key_stream-block key nonce n (block_count octets) h)

-- one more block is written: the octets before the place `at` are written, and the rest stands as it was
pub block_put : (whole old out piece : List ℕ) (at end next : ℕ) → length whole ≡ length old → at < length whole → end ≡ min (at + 16) (length whole) → next ≡ at + 16
    → out ≡ take at whole ++ drop at old → piece ≡ take 16 (drop at whole)
    → take at out ++ (piece ++ drop (end - at) (drop at out)) ≡ take next whole ++ drop next old
block_put whole old out piece at end next len within e ne o p =
    let wide : length (take at whole) ≡ at = length-take-le at whole (omega arith) in
    let front : take at out ≡ take at whole = ap (take at) o ∙ take_at (take at whole) (drop at old) at wide in
    let back : drop at out ≡ drop at old = ap (drop at) o ∙ drop_at (take at whole) (drop at old) at wide in
    let rest : drop (end - at) (drop at out) ≡ drop next old =
    ap (drop (end - at)) back ∙ drop-drop (end - at) at old ∙ elim (cases_lt (length whole) (at + 16)) [
      | inl short ↦ drop_all _ old (omega arith) ∙ sym (drop_all next old (omega arith))
      | inr long ↦ ap (λ (k : ℕ). drop k old) (let s : at + (end - at) ≡ next = omega arith in s)
    ] in
    ap₂ (λ (v w : List ℕ). v ++ w) front (ap₂ (λ (v w : List ℕ). v ++ w) p rest)
    ∙ sym (append_assoc (take at whole) (take 16 (drop at whole)) (drop next old))
    ∙ ap (λ (w : List ℕ). w ++ drop next old) (sym (take-add at 16 whole) ∙ ap (λ (k : ℕ). take k whole) (sym ne))

-- all blocks are written
pub blocks_put : (whole old out : List ℕ) (at : ℕ) → length whole ≡ length old → length whole ≤ at → out ≡ take at whole ++ drop at old → out ≡ whole
blocks_put whole old out at len all o =
    o ∙ ap₂ (λ (v w : List ℕ). v ++ w) (take_all at whole all) (drop_all at old (omega arith)) ∙ append-nil whole

-- X goes on by a block
pub chained-more : (key start octets x block : List ℕ) (n next : ℕ) → next ≡ suc n → x ≡ chained key start octets n → block ≡ take 16 (drop (16 * n) octets)
    → cipher key (exclusive_or x (filled block)) ≡ chained key start octets next
unfolding chained
chained-more key start octets x block n next e hx hb =
    ap₂ (λ (v w : List ℕ). cipher key (exclusive_or v (filled w))) hx hb ∙ ap (chained key start octets) (sym e)

pub chained-none : (key start octets : List ℕ) → start ≡ chained key start octets zero
unfolding chained
chained-none key start octets = refl

-- X after B_0 and the additional authenticated data
pub begun-made : (key nonce aad x octets : List ℕ) (size : ℕ) → 0 < length aad → x ≡ cipher key (0x59 ∷ nonce ++ to_be_bytes w16 size)
    → octets ≡ to_be_bytes w16 (length aad) ++ aad → chained_all key x octets ≡ begun key nonce aad size
unfolding begun
begun-made key nonce aad x octets size some ex eo =
    let other : (length aad == 0) ≡ false = ne_eqb (length aad) 0 (λ e. absurd (omega arith)) in
    ap₂ (chained_all key) ex eo
    ∙ rw other refl

-- two pieces written behind a first octet
pub two_written : (first : ℕ) (a a' b b' rest behind : List ℕ) (n : ℕ) → length a' ≡ n → a ≡ a' → b ≡ b' → behind ≡ []
    → first ∷ (take n (a ++ rest) ++ (b ++ behind)) ≡ first ∷ (a' ++ b')
two_written first a a' b b' rest behind n len ea eb none =
    ap (λ (w : List ℕ). first ∷ w) (ap₂ (λ (v w : List ℕ). v ++ w) (take_at a rest n (ap length ea ∙ len) ∙ ea) (ap₂ (λ (v w : List ℕ). v ++ w) eb none ∙ append-nil b'))
