-- The words of different rows are different words, and what a state word says of the rows.
use Rattle.std.proofs.Common.{◌≡◌, ◌≢◌, ◌⊎◌, ℕ, zero, suc, ◌<◌, ◌≤◌, Bool, true, false, List, [], ◌∷◌, ◌++◌, length, Some, refl, sym, ap, ◌∙◌, inl, inr, ⊎_elim, arith}
use Rattle.std.specs.Prelude.{slice_get}
use Rattle.key_holders.specs.declared.rows.HolderRow.{HolderRow}
use Rattle.holder_table.specs.Histories.{HeldRow, live, ended_at}
use Rattle.holder_table.specs.Words.{state_word, data_word, live_word, state_of}

pub one_state : (r s j k : ℕ) → j < 64 → k < 64 → state_word r j ≡ state_word s k → (r ≡ s) × (j ≡ k)
one_state r s j k a b e = (omega arith, omega arith)

pub one_data : (r s j k m n : ℕ) → j < 64 → k < 64 → m < 7 → n < 7 → data_word r j m ≡ data_word s k n → (r ≡ s) × (j ≡ k) × (m ≡ n)
one_data r s j k m n a b c d e = (omega arith, omega arith, omega arith)

pub state_data : (r s j k n : ℕ) → n < 7 → state_word r j ≡ data_word s k n → ⊥
state_data r s j k n a e = omega arith

pub state_free : (ps : List HeldRow) (j : ℕ) → length ps ≤ j → state_of ps j ≡ 0
state_free [] j h = refl
state_free (p ∷ ps) zero h = absurd (omega arith)
state_free (p ∷ ps) (suc j) h = state_free ps j (omega arith)

-- where the state word is 0, there is no row
pub free_state : (ps : List HeldRow) (j : ℕ) → state_of ps j ≡ 0 → length ps ≤ j
free_state [] j e = omega arith
free_state (p ∷ ps) zero e = absurd (not_free p.live e)
  where
    not_free : (b : Bool) → live_word b ≡ 0 → ⊥
    not_free true e = omega arith
    not_free false e = omega arith
free_state (p ∷ ps) (suc j) e = let h = free_state ps j e in omega arith

-- where it is not 0, there is one, live or not
pub row_state : (ps : List HeldRow) (j n : ℕ) → state_of ps j ≡ n → n ≢ 0 → (p : HeldRow) × (slice_get ps j ≡ Some p) × (((n ≡ 1) × (p.live ≡ true)) ⊎ ((n ≡ 3) × (p.live ≡ false)))
row_state [] j n e h = absurd (h (sym e))
row_state (p ∷ ps) zero n e h = (p, refl, by p.live refl (sym e))
  where
    by : (b : Bool) → p.live ≡ b → n ≡ live_word p.live → ((n ≡ 1) × (p.live ≡ true)) ⊎ ((n ≡ 3) × (p.live ≡ false))
    by true is e = inl (e ∙ ap (λ (b : Bool). live_word b) is, is)
    by false is e = inr (e ∙ ap (λ (b : Bool). live_word b) is, is)
row_state (p ∷ ps) (suc j) n e h = row_state ps j n e h

pub state_row : (ps : List HeldRow) (j : ℕ) (p : HeldRow) → slice_get ps j ≡ Some p → state_of ps j ≡ live_word p.live
state_row [] j p e = absurd (cc)
state_row (x ∷ ps) zero p e = ap (λ (o : HeldRow). live_word o.live) (is x p e)
  where
    is : (x p : HeldRow) → Some x ≡ Some p → x ≡ p
    is x p e = cc
state_row (x ∷ ps) (suc j) p e = state_row ps j p e

-- one row more
pub state_more : (ps : List HeldRow) (row : HolderRow) (j : ℕ) → j ≢ length ps → state_of (ps ++ live row ∷ []) j ≡ state_of ps j
state_more [] row zero h = absurd (h refl)
state_more [] row (suc j) h = refl
state_more (p ∷ ps) row zero h = refl
state_more (p ∷ ps) row (suc j) h = state_more ps row j (λ e. h (ap suc e))

pub state_last : (ps : List HeldRow) (row : HolderRow) → state_of (ps ++ live row ∷ []) (length ps) ≡ 1
state_last [] row = refl
state_last (p ∷ ps) row = state_last ps row

pub get_more : (ps : List HeldRow) (row : HolderRow) (j : ℕ) (p : HeldRow) → slice_get (ps ++ live row ∷ []) j ≡ Some p → (slice_get ps j ≡ Some p) ⊎ ((j ≡ length ps) × (p.row ≡ row))
get_more [] row zero p e = inr (refl, sym (ap (λ (o : HeldRow). o.row) (is (live row) p e)))
  where
    is : (x p : HeldRow) → Some x ≡ Some p → x ≡ p
    is x p e = cc
get_more [] row (suc j) p e = absurd (cc)
get_more (x ∷ ps) row zero p e = inl e
get_more (x ∷ ps) row (suc j) p e = ⊎_elim (λ a. inl a) (λ (b : (j ≡ length ps) × (p.row ≡ row)). inr (ap suc b.0, b.1)) (get_more ps row j p e)

-- one row ended
pub length-ended : (k : ℕ) (ps : List HeldRow) → length (ended_at k ps) ≡ length ps
length-ended k [] = refl
length-ended zero (p ∷ ps) = refl
length-ended (suc k) (p ∷ ps) = ap suc (length-ended k ps)

pub state_ended : (k : ℕ) (ps : List HeldRow) (j : ℕ) → j ≢ k → state_of (ended_at k ps) j ≡ state_of ps j
state_ended k [] j h = refl
state_ended zero (p ∷ ps) zero h = absurd (h refl)
state_ended zero (p ∷ ps) (suc j) h = refl
state_ended (suc k) (p ∷ ps) zero h = refl
state_ended (suc k) (p ∷ ps) (suc j) h = state_ended k ps j (λ e. h (ap suc e))

pub state_at_end : (k : ℕ) (ps : List HeldRow) → k < length ps → state_of (ended_at k ps) k ≡ 3
state_at_end k [] h = absurd (omega arith)
state_at_end zero (p ∷ ps) h = refl
state_at_end (suc k) (p ∷ ps) h = state_at_end k ps (omega arith)

pub get_ended : (k : ℕ) (ps : List HeldRow) (j : ℕ) (p : HeldRow) → slice_get (ended_at k ps) j ≡ Some p → (q : HeldRow) × (slice_get ps j ≡ Some q) × (q.row ≡ p.row)
get_ended k [] j p e = absurd (cc)
get_ended zero (x ∷ ps) zero p e = (x, refl, ap (λ (o : HeldRow). o.row) (is (record { row = x.row; live = false }) p e))
  where
    is : (x p : HeldRow) → Some x ≡ Some p → x ≡ p
    is x p e = cc
get_ended zero (x ∷ ps) (suc j) p e = (p, e, refl)
get_ended (suc k) (x ∷ ps) zero p e = (p, e, refl)
get_ended (suc k) (x ∷ ps) (suc j) p e = get_ended k ps j p e
