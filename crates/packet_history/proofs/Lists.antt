-- Elements by their places, in lists that are kept newest first.
use Rattle.std.proofs.Common.{◌≡◌, ℕ, zero, suc, List, [], ◌∷◌, ◌++◌, length, reverse, Some, refl, sym, ap, ◌∙◌}
use Rattle.std.specs.Prelude.{slice_get}
use Rattle.std.proofs.lemmas.List.{reverse-append, length-reverse}

get_front : {A : Type 0} (xs ys : List A) (k : ℕ) (y : A) → slice_get xs k ≡ Some y → slice_get (xs ++ ys) k ≡ Some y
get_front [] ys k y e = cc
get_front (x ∷ xs) ys zero y e = e
get_front (x ∷ xs) ys (suc k) y e = get_front xs ys k y e

get_last : {A : Type 0} (xs : List A) (x : A) → slice_get (xs ++ x ∷ []) (length xs) ≡ Some x
get_last [] x = refl
get_last (y ∷ xs) x = get_last xs x

-- counted from the oldest
pub get_older : {A : Type 0} (xs : List A) (x : A) (k : ℕ) (y : A) → slice_get (reverse xs) k ≡ Some y → slice_get (reverse (x ∷ xs)) k ≡ Some y
get_older xs x k y e = ap (λ l. slice_get l k) (reverse-append (x ∷ []) xs) ∙ get_front (reverse xs) (x ∷ []) k y e

pub get_newest : {A : Type 0} (xs : List A) (x : A) → slice_get (reverse (x ∷ xs)) (length xs) ≡ Some x
get_newest xs x = ap (λ l. slice_get l (length xs)) (reverse-append (x ∷ []) xs) ∙ ap (slice_get (reverse xs ++ x ∷ [])) (sym (length-reverse xs)) ∙ get_last (reverse xs) x
