-- Elements by their places.
use Rattle.std.proofs.Common.{◌≡◌, ℕ, zero, suc, ◌+◌, ◌<◌, ◌⊎◌, inl, inr, List, [], ◌∷◌, ◌++◌, length, reverse, Some, refl, sym, ap, ◌∙◌, arith}
use Rattle.std.specs.Prelude.{slice_get, slice_set}
use Rattle.std.proofs.lemmas.List.{reverse-append, length-reverse}

-- where an element was set
pub get_set : {A : Type 0} (xs : List A) (i k : ℕ) (x y : A) → slice_get (slice_set xs i x) k ≡ Some y
    → ((k ≡ i) × (y ≡ x)) ⊎ ((k ≡ i → ⊥) × (slice_get xs k ≡ Some y))
get_set [] i k x y e = cc
get_set (z ∷ xs) zero zero x y e = inl (refl, cc)
get_set (z ∷ xs) zero (suc k) x y e = inr (λ h. omega arith, e)
get_set (z ∷ xs) (suc i) zero x y e = inr (λ h. omega arith, e)
get_set (z ∷ xs) (suc i) (suc k) x y e = elim (get_set xs i k x y e) [ inl h ↦ inl (ap suc h.0, h.1) | inr h ↦ inr (λ q. h.0 (omega arith), h.1) ]

-- the others are as they were
pub set_elsewhere : {A : Type 0} (xs : List A) (i k : ℕ) (x : A) → (k ≡ i → ⊥) → slice_get (slice_set xs i x) k ≡ slice_get xs k
set_elsewhere [] i k x other = refl
set_elsewhere (z ∷ xs) zero zero x other = absurd (other refl)
set_elsewhere (z ∷ xs) zero (suc k) x other = refl
set_elsewhere (z ∷ xs) (suc i) zero x other = refl
set_elsewhere (z ∷ xs) (suc i) (suc k) x other = set_elsewhere xs i k x (λ (is : k ≡ i). other (ap suc is))

-- where an element was pushed
pub get_push : {A : Type 0} (xs : List A) (k : ℕ) (x y : A) → slice_get (xs ++ x ∷ []) k ≡ Some y → ((k ≡ length xs) × (y ≡ x)) ⊎ (slice_get xs k ≡ Some y)
get_push [] zero x y e = inl (refl, cc)
get_push [] (suc k) x y e = cc
get_push (z ∷ xs) zero x y e = inr e
get_push (z ∷ xs) (suc k) x y e = elim (get_push xs k x y e) [ inl h ↦ inl (ap suc h.0, h.1) | inr h ↦ inr h ]

pub get_front : {A : Type 0} (xs ys : List A) (k : ℕ) (y : A) → slice_get xs k ≡ Some y → slice_get (xs ++ ys) k ≡ Some y
get_front [] ys k y e = cc
get_front (x ∷ xs) ys zero y e = e
get_front (x ∷ xs) ys (suc k) y e = get_front xs ys k y e

pub get_before : {A : Type 0} (xs ys : List A) (k : ℕ) → k < length xs → slice_get (xs ++ ys) k ≡ slice_get xs k
get_before [] ys k low = absurd (omega arith)
get_before (x ∷ xs) ys zero low = refl
get_before (x ∷ xs) ys (suc k) low = get_before xs ys k (omega arith)

pub get_behind : {A : Type 0} (xs ys : List A) (k i : ℕ) → i ≡ length xs + k → slice_get (xs ++ ys) i ≡ slice_get ys k
get_behind [] ys k i is = ap (slice_get ys) (let e : i ≡ k = omega (arith, is) in e)
get_behind (x ∷ xs) ys k zero is = absurd (omega (arith, is))
get_behind (x ∷ xs) ys k (suc i) is = get_behind xs ys k i (omega (arith, is))

pub get_last : {A : Type 0} (xs : List A) (x : A) → slice_get (xs ++ x ∷ []) (length xs) ≡ Some x
get_last [] x = refl
get_last (y ∷ xs) x = get_last xs x

-- in a list that is kept newest first, counted from the oldest
pub get_older : {A : Type 0} (xs : List A) (x : A) (k : ℕ) (y : A) → slice_get (reverse xs) k ≡ Some y → slice_get (reverse (x ∷ xs)) k ≡ Some y
get_older xs x k y e = ap (λ l. slice_get l k) (reverse-append (x ∷ []) xs) ∙ get_front (reverse xs) (x ∷ []) k y e

pub get_newest : {A : Type 0} (xs : List A) (x : A) → slice_get (reverse (x ∷ xs)) (length xs) ≡ Some x
get_newest xs x = ap (λ l. slice_get l (length xs)) (reverse-append (x ∷ []) xs) ∙ ap (slice_get (reverse xs ++ x ∷ [])) (sym (length-reverse xs)) ∙ get_last (reverse xs) x
