-- Tables of places.
use Rattle.std.proofs.Common.{◌≡◌, ◌≤◌, ℕ, zero, suc, List, [], ◌∷◌, ◌++◌, length, get_or, take, replicate, Option, None, refl, ap, ◌∙◌}
use Rattle.std.proofs.lemmas.List.{take_all}

-- a table that is none everywhere
none_anywhere : (m c : ℕ) → get_or (replicate {A = Option ℕ} m None) c None ≡ None
none_anywhere zero c = refl
none_anywhere (suc m) zero = refl
none_anywhere (suc m) (suc c) = none_anywhere m c

padded : (xs : List (Option ℕ)) (m c : ℕ) → get_or (xs ++ replicate m None) c None ≡ get_or xs c None
padded [] m c = none_anywhere m c
padded (x ∷ xs) m zero = refl
padded (x ∷ xs) m (suc c) = padded xs m c

-- a table that is made longer by none
pub widened : (xs : List (Option ℕ)) (n m : ℕ) → length xs ≤ n → (c : ℕ) → get_or (take n xs ++ replicate m None) c None ≡ get_or xs c None
widened xs n m h c = ap (λ (w : List (Option ℕ)). get_or (w ++ replicate m None) c None) (take_all n xs h) ∙ padded xs m c
