-- Hexadecimal digits: the kit's encoding is the report's.
use Rattle.std.proofs.Common.{◌≡◌, ℕ, suc, zero, ◌+◌, ◌-◌, ◌/◌, ◌%◌, ◌<◌, ◌≤◌, ◌==◌, ◌&&◌, Bool, true, List, [], ◌∷◌, length, get_or, refl, arith, eqb-true, inl, inr, length-append, length-take, length-drop}
use Rattle.std.proofs.lemmas.Bool.{and_parts, cases_lt}
use Rattle.std.proofs.lemmas.Slice.{take-put_mid, drop-put_mid}
use borrow.Rule.Slice.PartMut.{put_mid}
use Rattle.std.specs.Prelude.{slice_index}
use Rattle.hex.specs.Hex.{encode_lower, encode_with, lower_digits}
use Rattle.run_journal.specs.Report.{hex, hex_digit}
use Rattle.journal_report.specs.Writing.{Writes}

-- the digits below n are the same in both
abbrev same_below : ℕ → Bool
same_below zero = true
same_below (suc n) = (slice_index lower_digits n == hex_digit n) && same_below n

same_at : (n k : ℕ) → same_below n ≡ true → k < n → slice_index lower_digits k ≡ hex_digit k
same_at zero k h lt = absurd (omega arith)
same_at (suc n) k h lt =
    let parts = and_parts (slice_index lower_digits n == hex_digit n) (same_below n) h in
    elim (cases_lt k n) [
      | inl below ↦ same_at n k parts.1 below
      | inr top ↦
          let e : k ≡ n = omega arith in
          rw e (eqb-true (slice_index lower_digits n) (hex_digit n) parts.0)
    ]

digit_same : (k : ℕ) → k < 16 → slice_index lower_digits k ≡ hex_digit k
digit_same k lt = same_at 16 k refl lt

-- of octets
pub encode-hex : (octets : List ℕ) → ((k : ℕ) → get_or octets k 0 < 256) → encode_lower octets ≡ hex octets
unfolding encode_with
encode-hex [] h = refl
encode-hex (o ∷ os) h =
    let small : o < 256 = h 0 in
    let high = digit_same (o / 16) (omega arith) in
    let low = digit_same (o % 16) (omega arith) in
    let rest = encode-hex os (λ k. h (suc k)) in
    rw (high, low, rest) refl

-- a part of a slice that was written over
pub put_mid-Writes : (piece ys : List ℕ) (at end : ℕ) (old : List ℕ) → ys ≡ piece → end ≡ at + length piece → end ≤ length old → Writes piece at old end (put_mid at (end - at) old ys)
put_mid-Writes piece ys at end old e h room = rw e (record {
  end = h;
  front = take-put_mid at (end - at) old piece end h (omega arith);
  rest = λ n lt. drop-put_mid at (end - at) old piece n (omega arith) (omega arith) (omega arith);
  len = simp (length-append, length-take, length-drop) (omega arith);
})
