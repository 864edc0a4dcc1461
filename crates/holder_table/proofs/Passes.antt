-- Splits and joins keep the rule.
use Rattle.std.proofs.Common.{◌≡◌, ◌≢◌, ◌⊎◌, ℕ, zero, suc, ◌<◌, ◌≤◌, nat_lt, eqb, Bool, true, false, cond, true≢false, List, [], ◌∷◌, ◌++◌, length, set, refl, sym, ap, ◌∙◌, subst, inl, inr, ⊎_elim, arith}
use Rattle.std.proofs.Common.{eqb-true, ltb-false}
use Rattle.std.proofs.lemmas.Bool.{ltb-true}
use Rattle.std.proofs.lemmas.List.Elements.{All-append}
use mathlib.Core.Option.{some, some-injective, some-ne-none}
use lib.ListN.{get_elem?}
use Rattle.atomic_table.specs.Table.{Splits, Joins}
use Rattle.atomic_table.proofs.Lists.{at_set}
use Rattle.holder_table.specs.declared.history.HolderEvent.{HolderEvent}
use Rattle.holder_table.specs.declared.view.View.{View}
use Rattle.holder_table.specs.Rule.{is_in, Owns, Lasts, Fits, Kept}
use Rattle.holder_table.specs.Steps.{without, kept_part, given_part, those_below, those_from, below_part, from_part, united, nobody}
use Rattle.holder_table.proofs.Views.{alone_after, fits_after}
use Rattle.holder_table.proofs.Loads.{nil_end}

no : {X : Type 0} → false ≡ true → X
no e = absurd (true≢false (sym e))

in_without_at : (r a x : ℕ) (xs : List ℕ) (b c : Bool) → eqb x a ≡ b → eqb x r ≡ c → (is_in r (without a xs) ≡ true → (is_in r xs ≡ true) × (r ≢ a)) → is_in r (cond b (without a xs) (x ∷ without a xs)) ≡ true → (cond c true (is_in r xs) ≡ true) × (r ≢ a)
in_without_at r a x xs true true at is rest e = (refl, (rest e).1)
in_without_at r a x xs true false at is rest e = rest e
in_without_at r a x xs false true at is rest e = (refl, λ same. true≢false (sym is ∙ (ap (λ (y : ℕ). eqb x y) same ∙ at)))
in_without_at r a x xs false false at is rest e = rest (ap (λ (b : Bool). cond b true (is_in r (without a xs))) (sym is) ∙ e)

pub in_without : (r a : ℕ) (xs : List ℕ) → is_in r (without a xs) ≡ true → (is_in r xs ≡ true) × (r ≢ a)
in_without r a [] e = no e
in_without r a (x ∷ xs) e = in_without_at r a x xs (eqb x a) (eqb x r) refl refl (in_without r a xs) e

in_below_at : (r a x : ℕ) (xs : List ℕ) (b c : Bool) → nat_lt x a ≡ b → eqb x r ≡ c → (is_in r (those_below a xs) ≡ true → (is_in r xs ≡ true) × (r < a)) → is_in r (cond b (x ∷ those_below a xs) (those_below a xs)) ≡ true → (cond c true (is_in r xs) ≡ true) × (r < a)
in_below_at r a x xs true true at is rest e = (refl, omega (arith, ltb-true x a at, eqb-true x r is))
in_below_at r a x xs true false at is rest e = rest (ap (λ (b : Bool). cond b true (is_in r (those_below a xs))) (sym is) ∙ e)
in_below_at r a x xs false true at is rest e = (refl, (rest e).1)
in_below_at r a x xs false false at is rest e = rest e

pub in_those_below : (r a : ℕ) (xs : List ℕ) → is_in r (those_below a xs) ≡ true → (is_in r xs ≡ true) × (r < a)
in_those_below r a [] e = no e
in_those_below r a (x ∷ xs) e = in_below_at r a x xs (nat_lt x a) (eqb x r) refl refl (in_those_below r a xs) e

in_from_at : (r a x : ℕ) (xs : List ℕ) (b c : Bool) → nat_lt x a ≡ b → eqb x r ≡ c → (is_in r (those_from a xs) ≡ true → (is_in r xs ≡ true) × (a ≤ r)) → is_in r (cond b (those_from a xs) (x ∷ those_from a xs)) ≡ true → (cond c true (is_in r xs) ≡ true) × (a ≤ r)
in_from_at r a x xs true true at is rest e = (refl, (rest e).1)
in_from_at r a x xs true false at is rest e = rest e
in_from_at r a x xs false true at is rest e = (refl, omega (arith, ltb-false x a at, eqb-true x r is))
in_from_at r a x xs false false at is rest e = rest (ap (λ (b : Bool). cond b true (is_in r (those_from a xs))) (sym is) ∙ e)

pub in_those_from : (r a : ℕ) (xs : List ℕ) → is_in r (those_from a xs) ≡ true → (is_in r xs ≡ true) × (a ≤ r)
in_those_from r a [] e = no e
in_those_from r a (x ∷ xs) e = in_from_at r a x xs (nat_lt x a) (eqb x r) refl refl (in_those_from r a xs) e

in_one : (r a : ℕ) → is_in r (a ∷ []) ≡ true → a ≡ r
in_one r a e = by (eqb a r) refl e
  where
    by : (b : Bool) → eqb a r ≡ b → cond b true false ≡ true → a ≡ r
    by true is h = eqb-true a r is
    by false is h = no h

at_end : (l : List View) (a b : View) (j : ℕ) → get_elem? (l ++ a ∷ []) j ≡ some b → (get_elem? l j ≡ some b) ⊎ ((j ≡ length l) × (a ≡ b))
at_end [] a b zero e = inr (refl, some-injective a b e)
at_end [] a b (suc j) e = absurd (some-ne-none b (sym e))
at_end (x ∷ xs) a b zero e = inl e
at_end (x ∷ xs) a b (suc j) e = ⊎_elim (λ (h : get_elem? xs j ≡ some b). inl h) (λ (h : (j ≡ length xs) × (a ≡ b)). inr (ap suc h.0, h.1)) (at_end xs a b j e)

-- ---- a pass that is cut in two

abbrev kept_with : List ℕ → View → View
kept_with those v = record v { has = those; draft = [] }

abbrev given_with : List ℕ → View → View
given_with those v = record v { has = those; draft = []; brought = []; told = [] }

-- these are access points of a pass
abbrev Within : List ℕ → View → Type 0
Within those v = (r : ℕ) → is_in r those ≡ true → is_in r v.has ≡ true

left_owns : (v : View) (those : List ℕ) (r : ℕ) → Within those v → Owns (kept_with those v) r → Owns v r
left_owns v those r within o = ⊎_elim (λ (e : is_in r those ≡ true). inl (within r e)) (λ (e : is_in r v.brought ≡ true). inr e) o

right_owns : (v : View) (those : List ℕ) (r : ℕ) → Owns (given_with those v) r → is_in r those ≡ true
right_owns v those r o = ⊎_elim (λ (e : is_in r those ≡ true). e) (λ (e : false ≡ true). no e) o

left_fits : (aps : ℕ) (words : List ℕ) (log : List HolderEvent) (v : View) (those : List ℕ) → Within those v → Fits aps words log v → Fits aps words log (kept_with those v)
left_fits aps words log v those within f = record {
  seen = f.seen;
  told = f.told;
  own = λ r e. f.own r (within r e);
  brought = f.brought;
  listed = λ r o. f.listed r (left_owns v those r within o);
  loads = f.loads;
  short = omega arith;
  draft = λ k m e. absurd (cc);
}

right_fits : (aps : ℕ) (words : List ℕ) (log : List HolderEvent) (v : View) (those : List ℕ) → Within those v → Fits aps words log v → Fits aps words log (given_with those v)
right_fits aps words log v those within f = record {
  seen = f.seen;
  told = (log, nil_end log);
  own = λ r e. f.own r (within r e);
  brought = λ r e. no e;
  listed = λ r o. f.listed r (inl (within r (right_owns v those r o)));
  loads = f.loads;
  short = omega arith;
  draft = λ k m e. absurd (cc);
}

-- no access point is both kept and given
cuts : (aps id : ℕ) (v : View) (keeps gives : List ℕ) → Within keeps v → Within gives v → ((r : ℕ) → is_in r keeps ≡ true → is_in r gives ≡ true → ⊥) → v.brought ≡ [] → Splits (Kept aps) id v (kept_with keeps v) (given_with gives v)
cuts aps id v keeps gives kept_within given_within ne none_brought s h at = record {
  log = h.log;
  shows = h.shows;
  fits = λ j u e. ⊎_elim
      (λ (was : get_elem? (set s.views id (kept_with keeps v)) j ≡ some u). fits_after aps s.words h.log s.views id (kept_with keeps v) (λ i x _ e'. h.fits i x e') (left_fits aps s.words h.log v keeps kept_within (h.fits id v at)) j u was)
      (λ (new : (j ≡ length (set s.views id (kept_with keeps v))) × (given_with gives v ≡ u)). subst (λ (x : View). Fits aps s.words h.log x) new.1 (right_fits aps s.words h.log v gives given_within (h.fits id v at)))
      (at_end (set s.views id (kept_with keeps v)) (given_with gives v) u j e);
  alone = λ a b x y r ea eb ox oy. ⊎_elim
      (λ (p : get_elem? (set s.views id (kept_with keeps v)) a ≡ some x). ⊎_elim
      (λ (q : get_elem? (set s.views id (kept_with keeps v)) b ≡ some y). alone_after s.views id v (kept_with keeps v) at (λ k. left_owns v keeps k kept_within) h.alone a b x y r p q ox oy)
      (λ (q : (b ≡ length (set s.views id (kept_with keeps v))) × (given_with gives v ≡ y)). absurd (apart h at a x r p ox (subst (λ (z : View). Owns z r) (sym q.1) oy)))
      (at_end (set s.views id (kept_with keeps v)) (given_with gives v) y b eb))
      (λ (p : (a ≡ length (set s.views id (kept_with keeps v))) × (given_with gives v ≡ x)). ⊎_elim
      (λ (q : get_elem? (set s.views id (kept_with keeps v)) b ≡ some y). absurd (apart h at b y r q oy (subst (λ (z : View). Owns z r) (sym p.1) ox)))
      (λ (q : (b ≡ length (set s.views id (kept_with keeps v))) × (given_with gives v ≡ y)). p.0 ∙ sym q.0)
      (at_end (set s.views id (kept_with keeps v)) (given_with gives v) y b eb))
      (at_end (set s.views id (kept_with keeps v)) (given_with gives v) x a ea);
}
  where
    -- what is given away is nobody else's
    apart : (h : Kept aps s) → get_elem? s.views id ≡ some v → (a : ℕ) (x : View) (r : ℕ) → get_elem? (set s.views id (kept_with keeps v)) a ≡ some x → Owns x r → Owns (given_with gives v) r → ⊥
    apart h at a x r e ox o =
        let mine : is_in r gives ≡ true = right_owns v gives r o in
        ⊎_elim
        (λ (t : (a ≡ id) × (kept_with keeps v ≡ x)). ⊎_elim
        (λ (i : is_in r keeps ≡ true). ne r i mine)
        (λ (i : is_in r v.brought ≡ true). no (subst (λ (zs : List ℕ). is_in r zs ≡ true) none_brought i))
        (subst (λ (z : View). Owns z r) (sym t.1) ox))
        (λ (t : (a ≢ id) × (get_elem? s.views a ≡ some x)). t.0 (h.alone a id x v r t.1 at ox (inl (given_within r mine))))
        (at_set s.views id a (kept_with keeps v) x e)

pub splits : (aps id : ℕ) (v : View) → is_in v.gives v.has ≡ true → v.brought ≡ [] → Splits (Kept aps) id v (kept_part v) (given_part v)
splits aps id v has none_brought =
    cuts aps id v (without v.gives v.has) (v.gives ∷ []) (λ r e. (in_without r v.gives v.has e).0) (λ r e. subst (λ (x : ℕ). is_in x v.has ≡ true) (in_one r v.gives e) has)
    (λ r e i. (in_without r v.gives v.has e).1 (sym (in_one r v.gives i))) none_brought

pub splits_from : (aps id : ℕ) (v : View) → v.brought ≡ [] → Splits (Kept aps) id v (below_part v) (from_part v)
splits_from aps id v none_brought =
    cuts aps id v (those_below v.gives v.has) (those_from v.gives v.has) (λ r e. (in_those_below r v.gives v.has e).0) (λ r e. (in_those_from r v.gives v.has e).0)
    (λ r e i. omega (arith, (in_those_below r v.gives v.has e).1, (in_those_from r v.gives v.has i).1)) none_brought

-- ---- a pass that takes another in

none_own : (r : ℕ) → Owns nobody r → ⊥
none_own r o = ⊎_elim (λ (e : false ≡ true). no e) (λ (e : false ≡ true). no e) o

pub joins : (aps id : ℕ) (v : View) (other : ℕ) (w : View) → Joins (Kept aps) id v other w (united v w) nobody
joins aps id v other w s h at ne there = record {
  log = h.log;
  shows = h.shows;
  fits = fits_after aps s.words h.log (set s.views id (united v w)) other nobody
      (λ j u apart e. fits_after aps s.words h.log s.views id (united v w) (λ i x _ e'. h.fits i x e') both j u e)
      (record { seen = (h.log, nil_end h.log); told = (h.log, nil_end h.log); own = λ r e. no e; brought = λ r e. no e; listed = λ r o. absurd (none_own r o); loads = λ k d less. absurd (omega (arith, less)); short = omega arith; draft = λ k m e. absurd (cc) });
  alone = λ a b x y r ea eb ox oy.
      let p = origin a x r ea ox in
      let q = origin b y r eb oy in
      let same : p.0 ≡ q.0 = h.alone p.0 q.0 p.1 q.1 r p.2 q.2 p.3 q.3 in
      ⊎_elim
      (λ (pa : p.0 ≡ a). ⊎_elim
      (λ (qb : q.0 ≡ b). sym pa ∙ (same ∙ qb))
      (λ (qb : (q.0 ≡ other) × (b ≡ id)). absurd (p.5 (sym pa ∙ (same ∙ qb.0))))
      q.4)
      (λ (pa : (p.0 ≡ other) × (a ≡ id)). ⊎_elim
      (λ (qb : q.0 ≡ b). absurd (q.5 (sym qb ∙ (sym same ∙ pa.0))))
      (λ (qb : (q.0 ≡ other) × (b ≡ id)). pa.1 ∙ sym qb.1)
      q.4)
      p.4;
}
  where
    was : get_elem? s.views other ≡ some w
    was = ⊎_elim (λ (t : (other ≡ id) × (united v w ≡ w)). absurd (ne t.0)) (λ (t : (other ≢ id) × (get_elem? s.views other ≡ some w)). t.1) (at_set s.views id other (united v w) w there)

    both : Fits aps s.words h.log (united v w)
    both =
        let f = h.fits id v at in
        let g = h.fits other w was in
        record {
          seen = f.seen;
          told = g.seen;
          own = f.own;
          brought = g.own;
          listed = λ r o. ⊎_elim (λ (e : is_in r v.has ≡ true). f.listed r (inl e)) (λ (e : is_in r w.has ≡ true). g.listed r (inl e)) o;
          loads = All-append (Lasts h.log) w.loads v.loads g.loads f.loads;
          short = omega arith;
          draft = λ k m e. absurd (cc);
        }

    origin : (a : ℕ) (x : View) (r : ℕ) → get_elem? (set (set s.views id (united v w)) other nobody) a ≡ some x → Owns x r
        → (o : ℕ) × (y : View) × (get_elem? s.views o ≡ some y) × Owns y r × ((o ≡ a) ⊎ ((o ≡ other) × (a ≡ id))) × (a ≢ other)
    origin a x r e ox =
        ⊎_elim
        (λ (t : (a ≡ other) × (nobody ≡ x)). absurd (none_own r (subst (λ (z : View). Owns z r) (sym t.1) ox)))
        (λ (t : (a ≢ other) × (get_elem? (set s.views id (united v w)) a ≡ some x)). ⊎_elim
        (λ (u : (a ≡ id) × (united v w ≡ x)). ⊎_elim
        (λ (i : is_in r v.has ≡ true). (id, v, at, inl i, inl (sym u.0), t.0))
        (λ (i : is_in r w.has ≡ true). (other, w, was, inl i, inr (refl, u.0), t.0))
        (subst (λ (z : View). Owns z r) (sym u.1) ox))
        (λ (u : (a ≢ id) × (get_elem? s.views a ≡ some x)). (a, x, u.1, ox, inl refl, t.0))
        (at_set s.views id a (united v w) x t.1))
        (at_set (set s.views id (united v w)) other a nobody x e)
