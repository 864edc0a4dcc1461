-- An index of stations by their addresses: what it finds, and that one more station keeps it right.
use Rattle.std.proofs.Common.{◌≡◌, ◌≢◌, ℕ, ◌+◌, ◌<◌, ◌≤◌, ◌-◌, ◌==◌, List, [], ◌∷◌, ◌++◌, length, get_or, take, Bool, true, false, not, cond, Some, None, refl, sym, ap, ap₂, ◌∙◌, subst, arith, inl, inr}
use Rattle.std.specs.Prelude.{position, nat_lt}
use Rattle.std.specs.Int.{w64, to_le_bytes, from_le_bytes}
use Rattle.std.specs.List.{AllByRecursion, insert, position_or_len}
use Rattle.std.specs.List.Sorted.{IsBinarySearchResult}
use Rattle.std.specs.Ordering.{nat_cmp}
use Rattle.std.specs.declared.result.Result.TheVariants.{Ok, Err}
use Rattle.std.proofs.lemmas.Bool.{cases_lt, cases_order, cases_Bool, ne_eqb}
use Rattle.std.proofs.lemmas.Grind.{common_steps, get_or_default_zero}
use Rattle.std.proofs.lemmas.List.{append_cancel_right, take_all, length-append}
use Rattle.std.proofs.lemmas.List.Edits.{get_or-insert_below, get_or-insert_at, get_or-insert_above, length-insert}
use Rattle.std.proofs.lemmas.List.Elements.{All-append}
use Rattle.std.proofs.lemmas.List.Folds.{position_or_len_push}
use Rattle.std.proofs.lemmas.List.Sorted.{IsNonDecreasingBy-insert, searched}
use Rattle.std.proofs.lemmas.List.Sums.{prefix_len-le-length}
use Rattle.std.proofs.lemmas.Nat.{le_bytes_8}
use Rattle.std.proofs.lemmas.Slice.Eq.{bytes_eq-Decides}
use Rattle.domain_base.specs.Octets.{AreOctets}
use Rattle.domain_base.proofs.OctetLemmas.{get_or_below}
use Rattle.rsn_elements.proofs.Cuts.{All-push}
use Rattle.run_journal.specs.declared.domain.ListedSta.{ListedSta}
use Rattle.run_journal.specs.Places.{number_of, IsWhole, has, is_numbered, Indexes}

-- ---- the first that passes, in a list with one more at its end

module _ {X : Type 0} (p : X → Bool) (xs : List X) (y : X) where
  pub position-kept : (i : ℕ) → position p xs ≡ Some i → position p (xs ++ y ∷ []) ≡ Some i
  position-kept i e = let push = position_or_len_push p xs y in let long = length-append xs (y ∷ []) in let most = prefix_len-le-length (λ x. not (p x)) xs in grind (arith, common_steps)

  pub position-new : position p xs ≡ None → p y ≡ true → position p (xs ++ y ∷ []) ≡ Some (length xs)
  position-new e passes = let push = position_or_len_push p xs y in let long = length-append xs (y ∷ []) in let most = prefix_len-le-length (λ x. not (p x)) xs in grind (arith, common_steps)

  pub position-none : position p xs ≡ None → p y ≡ false → position p (xs ++ y ∷ []) ≡ None
  position-none e fails = let push = position_or_len_push p xs y in let long = length-append xs (y ∷ []) in let most = prefix_len-le-length (λ x. not (p x)) xs in grind (arith, common_steps)

-- two tests that agree on all
alike : {X : Type 0} (p q : X → Bool) (xs : List X) → AllByRecursion (λ x. p x ≡ q x) xs → position_or_len p xs ≡ position_or_len q xs
alike p q [] h = refl
alike p q (x ∷ xs) h = ap₂ (λ (b : Bool) (n : ℕ). cond (not b) (1 + n) 0) h.0 (alike p q xs h.1)

-- ---- addresses and their numbers

same_number : (n : ℕ) → (n == n) ≡ true
same_number n = grind (arith, common_steps)

pub whole_from : (octets : List ℕ) → length octets ≡ 6 → AreOctets octets → IsWhole octets
unfolding number_of
whole_from octets long are =
    let all : take 6 octets ≡ octets = take_all 6 octets (omega (arith, long)) in
    let eight : List ℕ = octets ++ 0 ∷ 0 ∷ [] in
    let zeros : AreOctets (0 ∷ 0 ∷ []) = grind (arith, common_steps) in
    le_bytes_8 eight (number_of octets) (omega (arith, length-append octets (0 ∷ 0 ∷ []), long)) (λ i. get_or_below eight i (All-append (λ octet. octet < 256) octets (0 ∷ 0 ∷ []) are zeros))
    (ap (λ (w : List ℕ). from_le_bytes w64 (w ++ 0 ∷ 0 ∷ [])) all)

same_address : (a b : List ℕ) → IsWhole a → IsWhole b → number_of a ≡ number_of b → a ≡ b
same_address a b wa wb e = append_cancel_right a b (0 ∷ 0 ∷ []) (sym wa ∙ ap (to_le_bytes w64) e ∙ wb)

same_test : (a : List ℕ) → IsWhole a → (s : ListedSta) → IsWhole s.address.0 → is_numbered (number_of a) s ≡ has a s
same_test a w s ws = elim (cases_Bool (has a s)) [
  | inl same ↦ ap (λ (o : List ℕ). number_of o == number_of a) ((bytes_eq-Decides s.address.0 a).0 same) ∙ same_number (number_of a) ∙ sym same
  | inr apart ↦ ne_eqb (number_of s.address.0) (number_of a) (λ e. grind (arith, common_steps, apart, (bytes_eq-Decides s.address.0 a).1 (same_address s.address.0 a ws w e))) ∙ sym apart
]

same_tests : (a : List ℕ) → IsWhole a → (stas : List ListedSta) → AllByRecursion (λ (s : ListedSta). IsWhole s.address.0) stas → AllByRecursion (λ (s : ListedSta). is_numbered (number_of a) s ≡ has a s) stas
same_tests a w [] all = tt
same_tests a w (s ∷ stas) all = (same_test a w s all.0, same_tests a w stas all.1)

pub by_number : (a : List ℕ) → IsWhole a → (stas : List ListedSta) → AllByRecursion (λ (s : ListedSta). IsWhole s.address.0) stas → position (is_numbered (number_of a)) stas ≡ position (has a) stas
by_number a w stas all = ap (λ (n : ℕ). cond (nat_lt n (length stas)) (Some n) None) (alike (is_numbered (number_of a)) (has a) stas (same_tests a w stas all))

-- ---- what is found, and one more

module _ (stas : List ListedSta) (numbers places : List ℕ) (x : Indexes stas numbers places) (n at : ℕ) where
  pub there : IsBinarySearchResult (λ y. nat_cmp y n) numbers (Ok at) → position (is_numbered n) stas ≡ Some (get_or places at 0)
  there found =
      let is = searched numbers n (Ok at) found (λ i j. x.rising i j 0) in
      subst (λ (m : ℕ). position (is_numbered m) stas ≡ Some (get_or places at 0)) is.1 (x.first at is.0)

  pub nowhere : IsBinarySearchResult (λ y. nat_cmp y n) numbers (Err at) → position (is_numbered n) stas ≡ None
  nowhere found =
      let is = searched numbers n (Err at) found (λ i j. x.rising i j 0) in
      x.absent n (λ i l e. elim (cases_lt i at) [
        | inl below ↦ omega (arith, is.1 i below, e)
        | inr above ↦ omega (arith, is.2 i above l, e)
      ])

module _ (stas : List ListedSta) (numbers places : List ℕ) (x : Indexes stas numbers places) (s : ListedSta) (w : IsWhole s.address.0) (at : ℕ) where
  abbrev number : ℕ
  number = number_of s.address.0

  pub listed_before : IsBinarySearchResult (λ y. nat_cmp y (number_of s.address.0)) numbers (Ok at) → Indexes (stas ++ s ∷ []) numbers places
  listed_before found =
      let is = searched numbers number (Ok at) found (λ i j. x.rising i j 0) in record {
        rising = x.rising;
        even = x.even;
        first = λ i l. position-kept (is_numbered (get_or numbers i 0)) stas s (get_or places i 0) (x.first i l);
        absent = λ n h. position-none (is_numbered n) stas s (x.absent n h) (ne_eqb number n (λ e. h at is.0 (is.1 ∙ e)));
        whole = All-push (λ (s : ListedSta). IsWhole s.address.0) stas s x.whole w;
      }

  module _ (found : IsBinarySearchResult (λ y. nat_cmp y (number_of s.address.0)) numbers (Err at)) where
    within : at ≤ length numbers
    within = (searched numbers number (Err at) found (λ i j. x.rising i j 0)).0

    here : at ≤ length places
    here = omega (arith, within, x.even)

    below : (k d : ℕ) → k < at → get_or numbers k d ≤ number
    below k d l =
        let is = searched numbers number (Err at) found (λ i j. x.rising i j 0) in
        omega (arith, is.1 k l, get_or_default_zero numbers k d (omega (arith, l, within)))

    above : (k d : ℕ) → at ≤ k → k < length numbers → number ≤ get_or numbers k d
    above k d l m =
        let is = searched numbers number (Err at) found (λ i j. x.rising i j 0) in
        omega (arith, is.2 k l m, get_or_default_zero numbers k d m)

    abbrev IsFirst : ℕ → Type 0
    IsFirst i = position (is_numbered (get_or (insert numbers at number) i 0)) (stas ++ s ∷ []) ≡ Some (get_or (insert places at (length stas)) i 0)

    first-at : IsFirst at
    first-at = rw (get_or-insert_at numbers at number 0 within, get_or-insert_at places at (length stas) 0 here)
        (position-new (is_numbered number) stas s (nowhere stas numbers places x number at found) (same_number number))

    first-below : (i : ℕ) → i < at → IsFirst i
    first-below i l = rw (get_or-insert_below numbers at number 0 i l within, get_or-insert_below places at (length stas) 0 i l here)
        (position-kept (is_numbered (get_or numbers i 0)) stas s (get_or places i 0) (x.first i (omega (arith, l, within))))

    first-above : (i : ℕ) → at ≤ i → i < length numbers → IsFirst (i + 1)
    first-above i l m = rw (get_or-insert_above numbers at number 0 i l within, get_or-insert_above places at (length stas) 0 i l here)
        (position-kept (is_numbered (get_or numbers i 0)) stas s (get_or places i 0) (x.first i m))

    long : length (insert numbers at number) ≡ length numbers + 1
    long = length-insert numbers at number within

    first : (i : ℕ) → i < length (insert numbers at number) → IsFirst i
    first i l = elim (cases_order i at) [
      | inl same ↦ subst IsFirst (sym same) first-at
      | inr apart ↦ elim apart [
        | inl low ↦ first-below i low
        | inr high ↦ subst IsFirst (omega (arith, high)) (first-above (i - 1) (omega (arith, high)) (omega (arith, high, l, long)))
      ]
    ]

    absent : (n : ℕ) → ((i : ℕ) → i < length (insert numbers at number) → get_or (insert numbers at number) i 0 ≢ n) → position (is_numbered n) (stas ++ s ∷ []) ≡ None
    absent n h =
        let other : number ≢ n = λ e. h at (omega (arith, long, within)) (get_or-insert_at numbers at number 0 within ∙ e) in
        let old : position (is_numbered n) stas ≡ None = x.absent n (λ i l e. elim (cases_lt i at) [
          | inl low ↦ h i (omega (arith, long, l)) (get_or-insert_below numbers at number 0 i low within ∙ e)
          | inr high ↦ h (i + 1) (omega (arith, long, l)) (get_or-insert_above numbers at number 0 i high within ∙ e)
        ]) in
        position-none (is_numbered n) stas s old (ne_eqb number n other)

    pub listed_first : Indexes (stas ++ s ∷ []) (insert numbers at (number_of s.address.0)) (insert places at (length stas))
    listed_first = record {
      rising = IsNonDecreasingBy-insert (λ (n : ℕ). n) numbers at number x.rising within below above;
      even = omega (arith, long, length-insert places at (length stas) here, x.even);
      first = first;
      absent = absent;
      whole = All-push (λ (s : ListedSta). IsWhole s.address.0) stas s x.whole w;
    }
