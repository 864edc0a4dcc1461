-- The views after a step of one pass.
use Rattle.std.proofs.Common.{◌≡◌, ◌≢◌, ◌⊎◌, ℕ, eqb, Bool, true, false, cond, List, [], ◌∷◌, ◌++◌, set, refl, sym, subst, inl, inr, ⊎_elim}
use mathlib.Core.Option.{some}
use lib.ListN.{get_elem?}
use Rattle.atomic_table.proofs.Lists.{at_set}
use Rattle.holder_table.specs.declared.history.HolderEvent.{HolderEvent}
use Rattle.holder_table.specs.declared.view.View.{View}
use Rattle.holder_table.specs.Rule.{is_in, Owns, Fits, Alone}

in_either : (b c d f : Bool) → (c ≡ true → (d ≡ true) ⊎ (f ≡ true)) → cond b true c ≡ true → (cond b true d ≡ true) ⊎ (f ≡ true)
in_either true c d f k e = inl refl
in_either false c d f k e = k e

pub is_in-append : (r : ℕ) (xs ys : List ℕ) → is_in r (xs ++ ys) ≡ true → (is_in r xs ≡ true) ⊎ (is_in r ys ≡ true)
is_in-append r [] ys e = inr e
is_in-append r (x ∷ xs) ys e = in_either (eqb x r) (is_in r (xs ++ ys)) (is_in r xs) (is_in r ys) (is_in-append r xs ys) e

origin : (views : List View) (id : ℕ) (v w : View) (r : ℕ) → get_elem? views id ≡ some v → (Owns w r → Owns v r) → (a : ℕ) (x : View) → get_elem? (set views id w) a ≡ some x → Owns x r → (y : View) × (get_elem? views a ≡ some y) × Owns y r
origin views id v w r at owns a x e o =
    ⊎_elim
    (λ (t : (a ≡ id) × (w ≡ x)). (v, subst (λ (k : ℕ). get_elem? views k ≡ some v) (sym t.0) at, owns (subst (λ (y : View). Owns y r) (sym t.1) o)))
    (λ (t : (a ≢ id) × (get_elem? views a ≡ some x)). (x, t.1, o))
    (at_set views id a w x e)

pub alone_after : (views : List View) (id : ℕ) (v w : View) → get_elem? views id ≡ some v → ((r : ℕ) → Owns w r → Owns v r) → Alone views → Alone (set views id w)
alone_after views id v w at owns alone a b x y r ea eb ox oy =
    let p = origin views id v w r at (owns r) a x ea ox in
    let q = origin views id v w r at (owns r) b y eb oy in
    alone a b p.0 q.0 r p.1 q.1 p.2 q.2

pub fits_after : (aps : ℕ) (words : List ℕ) (log : List HolderEvent) (views : List View) (id : ℕ) (w : View) → ((j : ℕ) (u : View) → j ≢ id → get_elem? views j ≡ some u → Fits aps words log u) → Fits aps words log w → (j : ℕ) (u : View) → get_elem? (set views id w) j ≡ some u → Fits aps words log u
fits_after aps words log views id w others mine j u e =
    ⊎_elim
    (λ (t : (j ≡ id) × (w ≡ u)). subst (λ (y : View). Fits aps words log y) t.1 mine)
    (λ (t : (j ≢ id) × (get_elem? views j ≡ some u)). others j u t.0 t.1)
    (at_set views id j w u e)
