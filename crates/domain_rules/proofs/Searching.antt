-- What can be told of each can be told of some: by trying them all.
use Rattle.std.proofs.Common.{◌≡◌, ◌⊎◌, ℕ, zero, suc, ◌<◌, ◌≤◌, List, [], ◌∷◌, length, refl, ap, subst, ◌∙◌, arith, inl, inr}
use Rattle.std.proofs.lemmas.Bool.{cases_eq, cases_lt}
use Rattle.std.proofs.lemmas.List.Elements.{All-nil, All-cons, All-head, All-tail}
use Rattle.domain_base.specs.Octets.{AreOctets}

-- it is so, or it is not
abbrev pub OrNot : Type 0 → Type 0
OrNot A = A ⊎ (A → ⊥)

pub both : {A B : Type 0} → OrNot A → OrNot B → OrNot (A × B)
both (inl a) (inl b) = inl (a, b)
both (inl a) (inr other) = inr (λ w. other w.1)
both (inr other) b = inr (λ w. other w.0)

pub implied : {A B : Type 0} → OrNot A → OrNot B → OrNot (A → B)
implied (inl a) (inl b) = inl (λ w. b)
implied (inl a) (inr other) = inr (λ w. other (w a))
implied (inr other) b = inl (λ a. absurd (other a))

pub at_most : (m n : ℕ) → OrNot (m ≤ n)
at_most m n = elim (cases_lt n m) [ inl less ↦ inr (λ most. omega arith) | inr most ↦ inl most ]

pub same_lists : (xs ys : List ℕ) → OrNot (xs ≡ ys)
same_lists [] [] = inl refl
same_lists [] (y ∷ ys) = inr (λ is. cc is)
same_lists (x ∷ xs) [] = inr (λ is. cc is)
same_lists (x ∷ xs) (y ∷ ys) = by (cases_eq x y) (same_lists xs ys)
  where
    by : OrNot (x ≡ y) → OrNot (xs ≡ ys) → OrNot (x ∷ xs ≡ y ∷ ys)
    by (inl first) (inl rest) = inl (ap (λ (n : ℕ). n ∷ xs) first ∙ ap (λ (l : List ℕ). y ∷ l) rest)
    by (inl first) (inr other) = inr (λ is. other (cc is))
    by (inr other) rest = inr (λ is. other (cc is))

-- ---- numbers below another

abbrev SomeBelow : ℕ → (ℕ → Type 0) → Type 0
SomeBelow b P = (x : ℕ) × ((x < b) × P x)

some_below : (b : ℕ) (P : ℕ → Type 0) → ((x : ℕ) → OrNot (P x)) → OrNot (SomeBelow b P)
some_below zero P told = inr (λ w. omega (arith, w.1.0))
some_below (suc b) P told = by (told b) (some_below b P told)
  where
    by : OrNot (P b) → OrNot (SomeBelow b P) → OrNot (SomeBelow (suc b) P)
    by (inl is) rest = inl (b, (omega arith, is))
    by (inr other) (inl w) = inl (w.0, (omega (arith, w.1.0), w.1.1))
    by (inr other) (inr none) = inr (λ w. last w.0 w.1.0 w.1.1)
      where
        last : (x : ℕ) → x < suc b → P x → ⊥
        last x low is = elim (cases_lt x b) [ inl less ↦ none (x, (less, is)) | inr more ↦ (let same : x ≡ b = omega arith in other (subst P same is)) ]

-- ---- octets of a length

pub are_octets : (xs : List ℕ) → OrNot (AreOctets xs)
are_octets [] = inl (All-nil (λ (n : ℕ). n < 256))
are_octets (x ∷ xs) = by (cases_lt x 256) (are_octets xs)
  where
    by : (x < 256) ⊎ (256 ≤ x) → OrNot (AreOctets xs) → OrNot (AreOctets (x ∷ xs))
    by (inl low) (inl rest) = inl (All-cons (λ (n : ℕ). n < 256) x xs low rest)
    by (inl low) (inr other) = inr (λ all. other (All-tail (λ (n : ℕ). n < 256) x xs all))
    by (inr high) rest = inr (λ all. (let low : x < 256 = All-head (λ (n : ℕ). n < 256) x xs all in omega arith))

abbrev SomeOctets : ℕ → (List ℕ → Type 0) → Type 0
SomeOctets n P = (xs : List ℕ) × (AreOctets xs × ((length xs ≡ n) × P xs))

pub some_octets : (n : ℕ) (P : List ℕ → Type 0) → ((xs : List ℕ) → OrNot (P xs)) → OrNot (SomeOctets n P)
some_octets zero P told = by (told [])
  where
    none_is : (xs : List ℕ) → length xs ≡ 0 → P xs → P []
    none_is [] size is = is
    none_is (x ∷ xs) size is = absurd (omega (arith, size))

    by : OrNot (P []) → OrNot (SomeOctets zero P)
    by (inl is) = inl ([], (All-nil (λ (n : ℕ). n < 256), (refl, is)))
    by (inr other) = inr (λ w. other (none_is w.0 w.1.1.0 w.1.1.1))
some_octets (suc n) P told = by (some_below 256 (λ (x : ℕ). SomeOctets n (λ (xs : List ℕ). P (x ∷ xs))) (λ x. some_octets n (λ (xs : List ℕ). P (x ∷ xs)) (λ xs. told (x ∷ xs))))
  where
    by : OrNot (SomeBelow 256 (λ (x : ℕ). SomeOctets n (λ (xs : List ℕ). P (x ∷ xs)))) → OrNot (SomeOctets (suc n) P)
    by (inl (x, (low, (xs, (all, (size, is)))))) = inl (x ∷ xs, (All-cons (λ (k : ℕ). k < 256) x xs low all, (omega (arith, size), is)))
    by (inr none) = inr (λ w. parts w.0 w.1.0 w.1.1.0 w.1.1.1)
      where
        parts : (xs : List ℕ) → AreOctets xs → length xs ≡ suc n → P xs → ⊥
        parts [] all size is = omega (arith, size)
        parts (x ∷ xs) all size is = none (x, (All-head (λ (k : ℕ). k < 256) x xs all, (xs, (All-tail (λ (k : ℕ). k < 256) x xs all, (omega (arith, size), is)))))
