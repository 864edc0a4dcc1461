-- A row that is written word by word.
use Rattle.std.proofs.Common.{◌≡◌, ◌+◌, ◌≤◌, ℕ, List, [], ◌∷◌, length, take, refl, sym, ap, ◌∙◌, subst, arith, length-append}
use Rattle.std.proofs.lemmas.List.{length-take-le}
use Rattle.atomic_table.specs.Table.{Me}
use Rattle.holder_table.specs.declared.view.View.{View}
use Rattle.holder_table.specs.Steps.{drafted, GoesOn}

pub goes_on : (m : Me (Unit {0}) View) (v : View) (f : List (ℕ × Unit {0})) (r k n : ℕ) → k ≤ length v.draft → m ≡ (drafted v r k n, f) → GoesOn m.0 r (k + 1)
goes_on m v f r k n long e =
    let count = length-append (take k v.draft) (n ∷ []) ∙ ap (λ (i : ℕ). i + 1) (length-take-le k v.draft long) in
    subst (λ (x : Me (Unit {0}) View). GoesOn x.0 r (k + 1)) (sym e) (omega (arith, count), λ some. refl)
