-- What is in a list, in a list backwards, and at a place.
use Rattle.std.proofs.Common.{◌<◌, ◌⊎◌, ℕ, zero, suc, List, [], ◌∷◌, ◌++◌, reverse, length, get_or, All, refl, sym, subst, arith, inl, inr}
use Rattle.std.specs.List.{HoldsAt}
use Rattle.std.proofs.lemmas.List.{reverse-append}
use Rattle.run_journal.specs.Premises.{In}

pub In-append_left : {A : Type 0} (x : A) (xs ys : List A) → In x xs → In x (xs ++ ys)
In-append_left x [] ys h = elim h [ ]
In-append_left x (z ∷ xs) ys (inl h) = inl h
In-append_left x (z ∷ xs) ys (inr h) = inr (In-append_left x xs ys h)

pub In-append_right : {A : Type 0} (x : A) (xs ys : List A) → In x ys → In x (xs ++ ys)
In-append_right x [] ys h = h
In-append_right x (z ∷ xs) ys h = inr (In-append_right x xs ys h)

In-append_cases : {A : Type 0} (x : A) (xs ys : List A) → In x (xs ++ ys) → In x xs ⊎ In x ys
In-append_cases x [] ys h = inr h
In-append_cases x (z ∷ xs) ys (inl h) = inl (inl h)
In-append_cases x (z ∷ xs) ys (inr h) = elim (In-append_cases x xs ys h) [ inl a ↦ inl (inr a) | inr b ↦ inr b ]

pub In-reverse : {A : Type 0} (x : A) (xs : List A) → In x xs → In x (reverse xs)
In-reverse x [] h = elim h [ ]
In-reverse x (z ∷ xs) (inl h) = subst (λ w. In x w) (sym (reverse-append (z ∷ []) xs)) (In-append_right x (reverse xs) (z ∷ []) (inl h))
In-reverse x (z ∷ xs) (inr h) = subst (λ w. In x w) (sym (reverse-append (z ∷ []) xs)) (In-append_left x (reverse xs) (z ∷ []) (In-reverse x xs h))

pub In-from_reverse : {A : Type 0} (x : A) (xs : List A) → In x (reverse xs) → In x xs
In-from_reverse x [] h = h
In-from_reverse x (z ∷ xs) h = elim (In-append_cases x (reverse xs) (z ∷ []) (subst (λ w. In x w) (reverse-append (z ∷ []) xs) h)) [
  | inl a ↦ inr (In-from_reverse x xs a)
  | inr (inl b) ↦ inl b
  | inr (inr b) ↦ absurd b
]

pub In-get_or : {A : Type 0} (xs : List A) (k : ℕ) (d : A) → k < length xs → In (get_or xs k d) xs
In-get_or [] k d h = absurd (omega arith)
In-get_or (x ∷ xs) zero d h = inl refl
In-get_or (x ∷ xs) (suc k) d h = inr (In-get_or xs k d (omega arith))

-- no element passes, by places
pub none_in : {A : Type 0} (P : A → Type 0) (xs : List A) → All (λ x. P x → ⊥) xs → (x : A) → In x xs → P x → ⊥
none_in P [] h x i p = elim i [ ]
none_in P (z ∷ xs) h x (inl e) p = h 0 x (omega arith) (subst P e p)
none_in P (z ∷ xs) h x (inr i) p = none_in P xs (λ k d l. h (suc k) d (omega arith)) x i p

-- some element passes, by its place
pub some_in : {A : Type 0} (P : A → Type 0) (xs : List A) (k : ℕ) → k < length xs → HoldsAt P xs k → (x : A) × (In x xs × P x)
some_in P [] k h p = absurd (omega arith)
some_in P (x ∷ xs) k h p = (get_or (x ∷ xs) k x, (In-get_or (x ∷ xs) k x h, p x))
