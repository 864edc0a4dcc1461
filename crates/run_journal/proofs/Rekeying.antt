-- Keys of stations that are changed one place after the other, and what that leaves of the index by addresses.
use Rattle.std.proofs.Common.{◌≡◌, ℕ, zero, suc, ◌+◌, ◌<◌, not, cond, List, [], ◌∷◌, ◌++◌, length, take, drop, set, get_or, Option, Some, None, refl, sym, ap, ap₂, ◌∙◌, subst, arith, append-nil}
use Rattle.std.specs.Prelude.{position, nat_lt}
use Rattle.std.specs.List.{AllByRecursion, position_or_len}
use Rattle.std.proofs.lemmas.List.{take_all}
use Rattle.run_journal.specs.declared.domain.ListedSta.{ListedSta}
use Rattle.run_journal.specs.Changed.{is_named, rekeyed}
use Rattle.run_journal.specs.Places.{IsWhole, is_numbered, Indexes}

module _ (named : Option ℕ) (psk : List ℕ) where
  -- station k as it is then
  abbrev pub keyed : ℕ → ListedSta → ListedSta
  keyed k s = record { address = s.address; psk = cond (is_named named k) psk s.psk }

  keyed_then : (k : ℕ) (xs : List ListedSta) (i m : ℕ) (s : ListedSta) → m ≡ k + i → i < length xs → s ≡ get_or (rekeyed named psk k (take i xs) ++ drop i xs) i s
      → set (rekeyed named psk k (take i xs) ++ drop i xs) i (keyed m s) ≡ rekeyed named psk k (take (suc i) xs) ++ drop (suc i) xs
  keyed_then k [] i m s is few e = absurd (omega arith)
  keyed_then k (x ∷ xs) zero m s is few e = let first : m ≡ k = omega (arith, is) in ap₂ (λ (n : ℕ) (y : ListedSta). keyed n y ∷ xs) first e
  keyed_then k (x ∷ xs) (suc i) m s is few e = ap (λ (ys : List ListedSta). keyed k x ∷ ys) (keyed_then (suc k) xs i m s (omega (arith, is)) (omega arith) e)

  pub keyed_next : (xs ys : List ListedSta) (i : ℕ) (s : ListedSta) → i < length xs → ys ≡ rekeyed named psk 0 (take i xs) ++ drop i xs → s ≡ get_or ys i s
      → set ys i (keyed i s) ≡ rekeyed named psk 0 (take (i + 1) xs) ++ drop (i + 1) xs
  keyed_next xs ys i s few is e =
      let one : suc i ≡ i + 1 = omega arith in
      subst (λ (zs : List ListedSta). set zs i (keyed i s) ≡ rekeyed named psk 0 (take (i + 1) xs) ++ drop (i + 1) xs) (sym is)
      (subst (λ (n : ℕ). set (rekeyed named psk 0 (take i xs) ++ drop i xs) i (keyed i s) ≡ rekeyed named psk 0 (take n xs) ++ drop n xs) one
      (keyed_then 0 xs i i s (omega arith) few (e ∙ ap (λ (zs : List ListedSta). get_or zs i s) is)))

  -- at the end each is as it is then
  pub all_keyed : (xs ys : List ListedSta) (i : ℕ) → length xs ≡ i → ys ≡ rekeyed named psk 0 (take i xs) ++ drop i xs → ys ≡ rekeyed named psk 0 xs
  all_keyed xs ys i is e = e ∙ ap (λ (n : ℕ). rekeyed named psk 0 (take n xs) ++ drop n xs) (sym is) ∙ all_taken xs
    where
      none_left : (zs : List ListedSta) → drop (length zs) zs ≡ []
      none_left [] = refl
      none_left (z ∷ zs) = none_left zs

      all_taken : (zs : List ListedSta) → rekeyed named psk 0 (take (length zs) zs) ++ drop (length zs) zs ≡ rekeyed named psk 0 zs
      all_taken zs =
          ap₂ (λ (a b : List ListedSta). rekeyed named psk 0 a ++ b) (take_all (length zs) zs (omega arith)) (none_left zs) ∙ append-nil (rekeyed named psk 0 zs)

  length_keyed : (k : ℕ) (stas : List ListedSta) → length (rekeyed named psk k stas) ≡ length stas
  length_keyed k [] = refl
  length_keyed k (s ∷ stas) = ap suc (length_keyed (suc k) stas)

  -- ---- the addresses are as they were

  same_place : (n k : ℕ) (stas : List ListedSta) → position_or_len (is_numbered n) (rekeyed named psk k stas) ≡ position_or_len (is_numbered n) stas
  same_place n k [] = refl
  same_place n k (s ∷ stas) = ap (λ (m : ℕ). cond (not (is_numbered n s)) (1 + m) 0) (same_place n (suc k) stas)

  same_position : (n k : ℕ) (stas : List ListedSta) → position (is_numbered n) (rekeyed named psk k stas) ≡ position (is_numbered n) stas
  same_position n k stas = ap₂ (λ (m count : ℕ). cond (nat_lt m count) (Some m) None) (same_place n k stas) (length_keyed k stas)

  all_whole : (k : ℕ) (stas : List ListedSta) → AllByRecursion (λ (s : ListedSta). IsWhole s.address.0) stas → AllByRecursion (λ (s : ListedSta). IsWhole s.address.0) (rekeyed named psk k stas)
  all_whole k [] all = tt
  all_whole k (s ∷ stas) all = (all.0, all_whole (suc k) stas all.1)

  pub still_indexes : (k : ℕ) (stas : List ListedSta) (numbers places : List ℕ) → Indexes stas numbers places → Indexes (rekeyed named psk k stas) numbers places
  still_indexes k stas numbers places x = record {
    rising = x.rising;
    even = x.even;
    first = λ i low. same_position (get_or numbers i 0) k stas ∙ x.first i low;
    absent = λ n none. same_position n k stas ∙ x.absent n none;
    whole = all_whole k stas x.whole;
  }
