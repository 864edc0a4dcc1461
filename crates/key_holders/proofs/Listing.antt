-- Numbers below a number.
use Rattle.std.proofs.Common.{◌≡◌, ℕ, zero, suc, ◌<◌, eqb, eqb-true, eq-eqb, Bool, true, false, cond, true≢false, refl, sym, ap, ◌∙◌, arith}
use Rattle.key_holders.specs.Rows.{is_in}
use Rattle.key_holders.specs.Listed.{below}

in_below_if : (r n : ℕ) (b : Bool) → eqb n r ≡ b → (is_in r (below n) ≡ true → r < n) → cond b true (is_in r (below n)) ≡ true → r < suc n
in_below_if r n true is rest e = let same : n ≡ r = eqb-true n r is in omega arith
in_below_if r n false is rest e = let h = rest e in omega arith

pub in_below : (r n : ℕ) → is_in r (below n) ≡ true → r < n
in_below r zero e = absurd (true≢false (sym e))
in_below r (suc n) e = in_below_if r n (eqb n r) refl (in_below r n) e

below_in_if : (r n : ℕ) (b : Bool) → eqb n r ≡ b → (r < n → is_in r (below n) ≡ true) → r < suc n → cond b true (is_in r (below n)) ≡ true
below_in_if r n true is rest h = refl
below_in_if r n false is rest h = rest (less r n (λ e. true≢false (sym (eq-eqb n r (sym e)) ∙ is)) h)
  where
    less : (r n : ℕ) → (r ≡ n → ⊥) → r < suc n → r < n
    less zero zero ne h = absurd (ne refl)
    less zero (suc n) ne h = omega arith
    less (suc r) zero ne h = absurd (omega arith)
    less (suc r) (suc n) ne h = omega (arith, less r n (λ e. ne (ap suc e)) (omega arith))

pub below_in : (r n : ℕ) → r < n → is_in r (below n) ≡ true
below_in r zero h = absurd (omega arith)
below_in r (suc n) h = below_in_if r n (eqb n r) refl (below_in r n) h
