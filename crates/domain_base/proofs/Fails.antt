-- A call fails exactly where the next one is to fail.
use Rattle.std.proofs.Common.{◌≡◌, ◌↔◌, ◌≤◌, ◌+◌, ◌-◌, ◌^◌, false, Result, Ok, Err, refl, sym, ap, ◌∙◌, subst, arith}
use Rattle.std.specs.Prelude.{min, is_err, IsErr}
use Rattle.std.proofs.lemmas.Bool.{false≢true}
use Rattle.domain_base.specs.Memory.{Calls, FailsNext, after_call}
use Rattle.domain_base.specs.Causes.{HasCause}

pub fails_not : {T E : Type 0} (inside now : Calls) (r : Result T E) → inside ≡ now → (FailsNext inside → ⊥) → is_err r ≡ false → IsErr r ↔ FailsNext now
fails_not inside now r same not ok = (λ e. absurd (false≢true (sym ok ∙ e)), λ f. absurd (not (subst (λ (k : Calls). FailsNext k) (sym same) f)))

-- what counts no faults never fails
pub steady : {T E : Type 0} (r : Result T E) → HasCause 0 0 r → is_err r ≡ false
steady (Ok x) h = refl
steady (Err e) h = let rose : min (0 + 1) (2 ^ 64 - 1) ≤ 0 = h.failed in absurd (omega (arith, rose))

-- a call that went well, and was counted, has its cause
pub cause_none : {T E : Type 0} (inside now made : Calls) (r : Result T E) → inside ≡ now → made ≡ after_call inside → is_err r ≡ false → HasCause now.faults made.faults r
cause_none inside now made (Ok x) same counted ok =
    let e : made.faults ≡ now.faults = ap (λ (k : Calls). k.faults) counted ∙ ap (λ (k : Calls). k.faults) same in
    record { later = omega (arith, e); failed = tt }
cause_none inside now made (Err e) same counted ok = absurd (false≢true (sym ok))
