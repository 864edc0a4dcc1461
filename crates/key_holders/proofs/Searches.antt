-- What a search for the first place finds.
use Rattle.std.proofs.Common.{◌≡◌, ℕ, suc, ◌+◌, ◌<◌, ltb, Bool, true, false, cond, not, true≢false, List, [], ◌∷◌, length, Some, None, refl, sym, ap, ◌∙◌, subst, arith}
use Rattle.std.specs.Prelude.{slice_get, position}
use Rattle.std.specs.List.{position_or_len}
use Rattle.std.proofs.lemmas.Bool.Decides.{Decides-ltb}
use Rattle.std.proofs.lemmas.Option.{slice_get_within, get_or_from_slice_get}
use Rattle.std.proofs.lemmas.List.Sums.{fails_before_first}

some_if : (b : Bool) (n i : ℕ) → Some i ≡ cond b (Some n) None → (b ≡ true) × (i ≡ n)
some_if true n i e = (refl, same n i e)
  where
    same : (n i : ℕ) → Some i ≡ Some n → i ≡ n
    same n i e = cc
some_if false n i e = absurd (cc)

none_if : (b : Bool) (n : ℕ) → None ≡ cond b (Some n) None → b ≡ false
none_if true n e = absurd (cc)
none_if false n e = refl

module _ {A : Type 0} (p : A → Bool) where
  at_if : (b : Bool) (x : A) (xs : List A) → p x ≡ b → (position_or_len p xs < length xs → (y : A) × (slice_get xs (position_or_len p xs) ≡ Some y) × (p y ≡ true)) → cond (not b) (1 + position_or_len p xs) 0 < suc (length xs) → (y : A) × (slice_get (x ∷ xs) (cond (not b) (1 + position_or_len p xs) 0) ≡ Some y) × (p y ≡ true)
  at_if true x xs e rest h = (x, refl, e)
  at_if false x xs e rest h =
      let r = rest (omega (arith, h)) in
      let one : suc (position_or_len p xs) ≡ 1 + position_or_len p xs = omega arith in
      (r.0, subst (λ (n : ℕ). slice_get (x ∷ xs) n ≡ Some r.0) one r.1, r.2)

  at_place : (xs : List A) → position_or_len p xs < length xs → (y : A) × (slice_get xs (position_or_len p xs) ≡ Some y) × (p y ≡ true)
  at_place [] h = absurd (omega arith)
  at_place (x ∷ xs) h = at_if (p x) x xs refl (at_place xs) h

  pub at_position : (xs : List A) (i : ℕ) → Some i ≡ position p xs → (y : A) × (slice_get xs i ≡ Some y) × (p y ≡ true)
  at_position xs i e =
      let t = some_if (ltb (position_or_len p xs) (length xs)) (position_or_len p xs) i e in
      let r = at_place xs ((Decides-ltb (position_or_len p xs) (length xs)).0 t.0) in
      (r.0, ap (λ (n : ℕ). slice_get xs n) t.1 ∙ r.1, r.2)

  pub none_at : (xs : List A) → None ≡ position p xs → (j : ℕ) (x : A) → slice_get xs j ≡ Some x → p x ≡ false
  none_at xs e j x there =
      let t = none_if (ltb (position_or_len p xs) (length xs)) (position_or_len p xs) e in
      let past : ¬ (position_or_len p xs < length xs) = λ h. true≢false (sym ((Decides-ltb (position_or_len p xs) (length xs)).1 h) ∙ t) in
      let within = slice_get_within xs j x there in
      ap p (sym (get_or_from_slice_get xs j x x there)) ∙ fails_before_first p xs j x (omega (arith, past, within))
