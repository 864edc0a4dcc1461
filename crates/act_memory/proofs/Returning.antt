-- What a call that adds acts returns.
use Rattle.std.proofs.Common.{◌≡◌, sym, subst, Result, Ok, Err}
use Rattle.std.specs.Prelude.{IfOk, OnOk}
use Rattle.run_journal.specs.declared.acts.Outcome.{Outcome}

-- the outcome and the acts together make what is to hold of the outcome
pub if_settled : {E : Type 0} (r : Result Outcome E) (o : Outcome) (P : Outcome → Type 0) (A : Type 0) → IfOk r (λ came. came ≡ o) → OnOk r A → (A → P o) → IfOk r P
if_settled (Ok came) o P A is acts then_ = subst P (sym is) (then_ acts)
if_settled (Err e) o P A is acts then_ = tt

-- with three facts
pub if_begun : {E : Type 0} (r : Result Outcome E) (o : Outcome) (P : Outcome → Type 0) (A B C : Type 0) → IfOk r (λ came. came ≡ o) → OnOk r A → OnOk r B → OnOk r C → (A → B → C → P o) → IfOk r P
if_begun (Ok came) o P A B C is a b c then_ = subst P (sym is) (then_ a b c)
if_begun (Err e) o P A B C is a b c then_ = tt
