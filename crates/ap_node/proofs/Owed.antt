-- How many sessions owe a G2, as one of them changes.
use Rattle.std.proofs.Common.{◌≡◌, ◌≢◌, ℕ, zero, suc, ◌+◌, ◌<◌, ◌≤◌, Bool, true, false, cond, List, refl, sym, ap, ◌∙◌, arith, inl, inr}
use Rattle.std.specs.Prelude.{◌==◌}
use Rattle.std.proofs.lemmas.Bool.{cases_Bool, cases_lt, eqb-true, eq-eqb}
use Rattle.ap_node.specs.declared.station.Station.{Station}
use Rattle.ap_node.specs.State.{station_at}
use Rattle.ap_node.specs.Counts.{owes_part, owing_below, recounted}

-- whether that of a station does
abbrev pub owes_at : ℕ → List (ℕ × Station) → ℕ → Bool
owes_at place xs k = owes_part place (station_at xs k)

abbrev pub bit : Bool → ℕ
bit b = cond b 1 0

pub bit_low : (b : Bool) → bit b ≤ 1
bit_low true = omega arith
bit_low false = omega arith

pub count_more : (place : ℕ) (xs : List (ℕ × Station)) (k : ℕ) → owing_below place xs (suc k) ≡ bit (owes_at place xs k) + owing_below place xs k
count_more place xs k = by (owes_at place xs k) (owing_below place xs k)
  where
    by : (b : Bool) (n : ℕ) → cond b (suc n) n ≡ bit b + n
    by true n = omega arith
    by false n = omega arith

-- where none does, the count is 0
pub count_none : (place : ℕ) (xs : List (ℕ × Station)) (m : ℕ) → ((k : ℕ) → owes_at place xs k ≡ false) → owing_below place xs m ≡ 0
count_none place xs zero none = omega arith
count_none place xs (suc k) none = omega (arith, count_more place xs k, ap bit (none k), count_none place xs k none)

-- and else one does
pub count_some : (place : ℕ) (xs : List (ℕ × Station)) (m : ℕ) → 1 ≤ owing_below place xs m → (k : ℕ) × (k < m) × (owes_at place xs k ≡ true)
count_some place xs zero some = absurd (omega (arith, some))
count_some place xs (suc k) some = elim (cases_Bool (owes_at place xs k)) [
  | inl is ↦ (k, omega arith, is)
  | inr other ↦ (let more = count_some place xs k (omega (arith, some, count_more place xs k, ap bit other)) in (more.0, omega (arith, more.1), more.2))
]

bit_zero : (b : Bool) → bit b ≡ 0 → b ≡ false
bit_zero true is = absurd (omega (arith, is))
bit_zero false is = refl

below : (k m : ℕ) → k < suc m → k ≢ m → k < m
below k m low other = elim (cases_lt k m) [ inl less ↦ less | inr most ↦ absurd (other (last k m low most)) ]
  where
    last : (k m : ℕ) → k < suc m → m ≤ k → k ≡ m
    last k m low most = omega (arith, low, most)

pub none_owes : (place : ℕ) (xs : List (ℕ × Station)) (m : ℕ) → owing_below place xs m ≡ 0 → (k : ℕ) → k < m → owes_at place xs k ≡ false
none_owes place xs zero none k low = absurd (omega (arith, low))
none_owes place xs (suc m) none k low = elim (cases_Bool (k == m)) [
  | inl is ↦ ap (owes_at place xs) (eqb-true k m is) ∙ bit_zero (owes_at place xs m) (omega (arith, none, count_more place xs m))
  | inr other ↦ none_owes place xs m (omega (arith, none, count_more place xs m)) k (below k m low (λ (e : k ≡ m). cc (eq-eqb k m e, other)))
]

-- it is no more than there are stations
pub count_low : (place : ℕ) (xs : List (ℕ × Station)) (m : ℕ) → owing_below place xs m ≤ m
count_low place xs zero = omega arith
count_low place xs (suc k) = omega (arith, count_more place xs k, bit_low (owes_at place xs k), count_low place xs k)

-- where each does as before, the count is the same
pub count_same : (place : ℕ) (xs ys : List (ℕ × Station)) (m : ℕ) → ((k : ℕ) → k < m → owes_at place ys k ≡ owes_at place xs k) → owing_below place ys m ≡ owing_below place xs m
count_same place xs ys zero same = omega arith
count_same place xs ys (suc k) same = omega (arith, count_more place xs k, count_more place ys k, ap bit (same k (omega arith)), count_same place xs ys k (λ j low. same j (omega (arith, low))))

-- and of further stations that do not it is too
pub count_on : (place : ℕ) (xs : List (ℕ × Station)) (m more : ℕ) → ((k : ℕ) → m ≤ k → owes_at place xs k ≡ false) → owing_below place xs (more + m) ≡ owing_below place xs m
count_on place xs m zero none = ap (owing_below place xs) (zero_plus m)
  where
    zero_plus : (m : ℕ) → 0 + m ≡ m
    zero_plus m = omega arith
count_on place xs m (suc j) none = ap (owing_below place xs) (suc_plus j m) ∙ joined (count_more place xs (j + m)) (none (j + m) (omega arith)) ∙ count_on place xs m j none
  where
    suc_plus : (j m : ℕ) → suc j + m ≡ suc (j + m)
    suc_plus j m = omega arith

    joined : {n k : ℕ} {b : Bool} → n ≡ bit b + k → b ≡ false → n ≡ k
    joined e f = omega (arith, e, ap bit f)

-- one changes
pub count_changed : (place : ℕ) (xs ys : List (ℕ × Station)) (k m : ℕ) → k < m → ((j : ℕ) → j ≢ k → owes_at place ys j ≡ owes_at place xs j) → owing_below place ys m + bit (owes_at place xs k) ≡ owing_below place xs m + bit (owes_at place ys k)
count_changed place xs ys k zero low others = absurd (omega (arith, low))
count_changed place xs ys k (suc m) low others = elim (cases_Bool (k == m)) [
  | inl is ↦
      let same : k ≡ m = eqb-true k m is in
      let rest = count_same place xs ys m (λ j less. others j (λ e. omega (arith, e, less, same))) in
      omega (arith, count_more place xs m, count_more place ys m, rest, ap (λ (i : ℕ). bit (owes_at place xs i)) same, ap (λ (i : ℕ). bit (owes_at place ys i)) same)
  | inr other ↦
      let apart : k ≢ m = λ (e : k ≡ m). cc (eq-eqb k m e, other) in
      let rest = count_changed place xs ys k m (below k m low apart) others in
      omega (arith, count_more place xs m, count_more place ys m, rest, ap bit (others m (λ e. apart (sym e))))
]

-- as the code counts
pub recounted_is : (n before after : ℕ) (owed owes : Bool) → n ≡ before → after + bit owed ≡ before + bit owes → recounted n owed owes ≡ after
recounted_is n before after true true is changed = omega (arith, is, changed)
recounted_is n before after true false is changed = omega (arith, is, changed)
recounted_is n before after false true is changed = omega (arith, is, changed)
recounted_is n before after false false is changed = omega (arith, is, changed)
