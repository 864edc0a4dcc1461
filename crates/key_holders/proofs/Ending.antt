-- Rows that end one place after the other.
use Rattle.std.proofs.Common.{◌≡◌, ℕ, zero, suc, ◌+◌, ◌<◌, List, [], ◌∷◌, ◌++◌, length, take, drop, set, get_or, sym, ap, ◌∙◌, subst, arith}
use Rattle.key_holders.specs.declared.rows.HeldRow.{HeldRow}
use Rattle.key_holders.specs.Rows.{ended, ended_row}

ended_then : (name : List ℕ) (xs : List HeldRow) (i : ℕ) (h : HeldRow) → i < length xs → h ≡ get_or (ended name (take i xs) ++ drop i xs) i h → set (ended name (take i xs) ++ drop i xs) i (ended_row name h) ≡ ended name (take (suc i) xs) ++ drop (suc i) xs
ended_then name [] i h few e = absurd (omega arith)
ended_then name (x ∷ xs) zero h few e = ap (λ (y : HeldRow). ended_row name y ∷ xs) e
ended_then name (x ∷ xs) (suc i) h few e = ap (λ (ys : List HeldRow). ended_row name x ∷ ys) (ended_then name xs i h (omega arith) e)

pub ended_next : (name : List ℕ) (xs ys : List HeldRow) (i : ℕ) (h : HeldRow) → i < length xs → ys ≡ ended name (take i xs) ++ drop i xs → h ≡ get_or ys i h → set ys i (ended_row name h) ≡ ended name (take (i + 1) xs) ++ drop (i + 1) xs
ended_next name xs ys i h few is e =
    let one : suc i ≡ i + 1 = omega arith in
    subst (λ (zs : List HeldRow). set zs i (ended_row name h) ≡ ended name (take (i + 1) xs) ++ drop (i + 1) xs) (sym is)
    (subst (λ (n : ℕ). set (ended name (take i xs) ++ drop i xs) i (ended_row name h) ≡ ended name (take n xs) ++ drop n xs) one
    (ended_then name xs i h few (e ∙ ap (λ (zs : List HeldRow). get_or zs i h) is)))
