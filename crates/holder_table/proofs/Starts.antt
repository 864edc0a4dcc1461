-- The rule holds of the new table.
use Rattle.std.proofs.Common.{◌≡◌, ℕ, zero, suc, ◌+◌, ◌*◌, true, false, true≢false, List, [], ◌∷◌, length, get_or, replicate, refl, sym, ap, ◌∙◌, subst, ⊎_elim, arith}
use Rattle.std.proofs.lemmas.List.{length-replicate}
use mathlib.Core.Option.{some, some-injective, some-ne-none}
use lib.ListN.{get_elem?}
use Rattle.atomic_table.specs.Table.{opening}
use Rattle.holder_table.specs.declared.view.View.{View}
use Rattle.key_holders.proofs.Listing.{in_below}
use Rattle.holder_table.specs.Rule.{is_in, below, first_view, Fits, Kept}

abbrev pub zeros : ℕ → List ℕ
zeros n = replicate n 0

all_zero : (n i : ℕ) → get_or (zeros n) i 0 ≡ 0
all_zero zero i = refl
all_zero (suc n) zero = refl
all_zero (suc n) (suc i) = all_zero n i

first_fits : (aps : ℕ) (words : List ℕ) → Fits aps words [] (first_view aps)
first_fits aps words = record {
  seen = ([], refl);
  told = ([], refl);
  own = λ r e. refl;
  brought = λ r e. absurd (true≢false (sym e));
  loads = λ k d h. absurd (omega (arith, h));
  listed = λ r o. ⊎_elim (λ (e : is_in r (below aps) ≡ true). in_below r aps e) (λ (e : false ≡ true). absurd (true≢false (sym e))) o;
  short = omega arith;
  draft = λ k n e. absurd (cc);
}

only : (v x : View) (a : ℕ) → get_elem? (v ∷ []) a ≡ some x → (a ≡ 0) × (v ≡ x)
only v x zero e = (refl, some-injective v x e)
only v x (suc a) e = absurd (some-ne-none x (sym e))

pub begins : (aps : ℕ) (words : List ℕ) → words ≡ zeros (1 + 512 * aps) → Kept aps (opening {S = Unit {0}} words [] (first_view aps))
begins aps words same = record {
  log = [];
  shows = record {
    size = ap length same ∙ length-replicate (1 + 512 * aps) 0;
    room = λ r. omega arith;
    states = λ r j h. ap (λ (ws : List ℕ). get_or ws (1 + 8 * (64 * r + j)) 0) same ∙ all_zero (1 + 512 * aps) (1 + 8 * (64 * r + j));
    rows = λ r j k p e h. absurd (cc);
  };
  fits = λ a x e. subst (λ (v : View). Fits aps words [] v) (only (first_view aps) x a e).1 (first_fits aps words);
  alone = λ a b x y r ea eb ox oy. (only (first_view aps) x a ea).0 ∙ sym (only (first_view aps) y b eb).0;
}
