-- Two blocks, written one after the other.
use Rattle.std.proofs.Common.{◌≡◌, ℕ, ◌+◌, ◌-◌, List, ◌++◌, length, take, sym, ap, ◌∙◌, arith}
use Rattle.std.proofs.lemmas.List.{take_all}
use Rattle.std.proofs.Math.Seq.{take-append-add}

-- 32 octets of two blocks of 20
pub two_blocks : (old first second middle out : List ℕ) → length old ≡ 32 → length first ≡ 20 → length second ≡ 20 → length middle ≡ 32 → length out ≡ 32
    → take (0 + length first) middle ≡ take 0 old ++ take (length old - 0) first
    → take (20 + length second) out ≡ take 20 middle ++ take (length middle - 20) second
    → out ≡ take 32 (first ++ second)
two_blocks old first second middle out old_len first_len second_len middle_len len front whole =
    let is_first : take 20 middle ≡ first =
    ap (λ (k : ℕ). take k middle) (let e : 20 ≡ 0 + length first = omega arith in e) ∙ front ∙ take_all (length old - 0) first (omega arith) in
    sym (take_all (20 + length second) out (omega arith)) ∙ whole
    ∙ ap (λ (w : List ℕ). w ++ take (length middle - 20) second) is_first
    ∙ ap (λ (k : ℕ). first ++ take (k - 20) second) middle_len
    ∙ sym (take-append-add first second 12)
    ∙ ap (λ (k : ℕ). take (k + 12) (first ++ second)) first_len
