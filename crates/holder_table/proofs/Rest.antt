-- A pass is at rest again after a call.
use Rattle.std.proofs.Common.{◌≡◌, ℕ, ◌+◌, ◌*◌, ◌<◌, ◌⊎◌, eqb, eqb-true, Bool, cond, List, [], ◌∷◌, true, false, true≢false, refl, sym, ap, ◌∙◌, subst, ⊎_elim, arith}
use Rattle.atomic_table.specs.Table.{Me}
use Rattle.atomic_table.specs.Seated.{TableId}
use Rattle.key_holders.proofs.Listing.{in_below}
use Rattle.holder_table.specs.declared.history.HolderEvent.{HolderEvent}
use Rattle.holder_table.specs.declared.view.View.{View}
use Rattle.holder_table.specs.Histories.{HeldRow, is_in, held_at, NoTwins}
use Rattle.holder_table.specs.Rule.{first_view, LoadsLast}
use Rattle.holder_table.specs.Knowledge.{NoLess, Gave, GaveFrom, TookIn}
use Rattle.holder_table.specs.Pass.{IsAtRest}
use Rattle.holder_table.proofs.Views.{is_in-append}
use Rattle.holder_table.proofs.Passes.{in_without, in_those_below, in_those_from}

pub rest_first : (aps : ℕ) (id : TableId) (me : Me (Unit {0}) View) → id.words ≡ 1 + 512 * aps → me ≡ (first_view aps, []) → IsAtRest id me
rest_first aps id me size is = record {
  free = ap (λ (m : Me (Unit {0}) View). m.1) is;
  settled = ap (λ (m : Me (Unit {0}) View). m.0.brought) is;
  listed = λ r h. let low = in_below r aps (ap (λ (m : Me (Unit {0}) View). is_in r m.0.has) (sym is) ∙ h) in omega (arith, low, size);
  twins = λ r h. subst (λ (m : Me (Unit {0}) View). NoTwins (held_at r m.0.seen)) (sym is) (λ i j p q e. absurd (cc));
  lasting = subst (λ (m : Me (Unit {0}) View). LoadsLast m.0) (sym is) (λ k d h. absurd (omega (arith, h)));
}

-- a call that leaves the pass its access points
pub rest_after : (id new : TableId) (me now : Me (Unit {0}) View) → new ≡ id → now.1 ≡ me.1 → NoLess me.0 now.0 → now.0.brought ≡ [] → ((s : ℕ) → is_in s now.0.has ≡ true → NoTwins (held_at s now.0.seen)) → LoadsLast now.0 → IsAtRest id me → IsAtRest new now
rest_after id new me now same slots less settled twins lasting rest = record {
  free = slots ∙ rest.free;
  settled = settled;
  listed = λ s h. subst (λ (z : TableId). 512 * s + 512 < z.words) (sym same) (rest.listed s (ap (λ (xs : List ℕ). is_in s xs) (sym less.has) ∙ h));
  twins = twins;
  lasting = lasting;
}

-- a pass with access points of one that is at rest, at which nothing changed
rest_part : (id new : TableId) (me now : Me (Unit {0}) View) → new ≡ id → now.1 ≡ [] → now.0.brought ≡ [] → ((s : ℕ) → is_in s now.0.has ≡ true → (is_in s me.0.has ≡ true) × (held_at s now.0.seen ≡ held_at s me.0.seen)) → LoadsLast now.0 → IsAtRest id me
    → IsAtRest new now
rest_part id new me now same free settled part lasting rest = record {
  free = free;
  settled = settled;
  listed = λ s h. subst (λ (z : TableId). 512 * s + 512 < z.words) (sym same) (rest.listed s (part s h).0);
  twins = λ s h. subst (λ (ps : List HeldRow). NoTwins ps) (sym (part s h).1) (rest.twins s (part s h).0);
  lasting = lasting;
}

pub rest_gave : (r : ℕ) (id new : TableId) (me now : Me (Unit {0}) View) (given : View) → new ≡ id → now.1 ≡ me.1 → Gave r me.0 now.0 given → LoadsLast now.0 → IsAtRest id me → IsAtRest new now
rest_gave r id new me now given same slots g lasting rest = rest_part id new me now same (slots ∙ rest.free) g.settled.0 (λ s h. (before s h, g.own s (before s h))) lasting rest
  where
    before : (s : ℕ) → is_in s now.0.has ≡ true → is_in s me.0.has ≡ true
    before s h = (in_without s r me.0.has (ap (λ (xs : List ℕ). is_in s xs) (sym g.has) ∙ h)).0

pub rest_given : (r : ℕ) (id new : TableId) (me they now : Me (Unit {0}) View) → new ≡ id → they.1 ≡ [] → Gave r me.0 now.0 they.0 → is_in r me.0.has ≡ true → LoadsLast they.0 → IsAtRest id me → IsAtRest new they
rest_given r id new me they now same free g has lasting rest =
    rest_part id new me they same free g.settled.1 (λ s h. (before s h, ap (λ (l : List HolderEvent). held_at s l) g.alike.0 ∙ g.own s (before s h))) lasting rest
  where
    only : (s : ℕ) → is_in s (r ∷ []) ≡ true → r ≡ s
    only s e = is_here (eqb r s) refl e
      where
        is_here : (b : Bool) → eqb r s ≡ b → cond b true false ≡ true → r ≡ s
        is_here true t e = eqb-true r s t
        is_here false t e = absurd (true≢false (sym e))

    before : (s : ℕ) → is_in s they.0.has ≡ true → is_in s me.0.has ≡ true
    before s h = subst (λ (x : ℕ). is_in x me.0.has ≡ true) (only s (ap (λ (xs : List ℕ). is_in s xs) (sym g.given_has) ∙ h)) has

pub rest_gave_from : (r : ℕ) (id new : TableId) (me now : Me (Unit {0}) View) (given : View) → new ≡ id → now.1 ≡ me.1 → GaveFrom r me.0 now.0 given → LoadsLast now.0 → IsAtRest id me → IsAtRest new now
rest_gave_from r id new me now given same slots g lasting rest = rest_part id new me now same (slots ∙ rest.free) g.settled.0 (λ s h. (before s h, g.own s (before s h))) lasting rest
  where
    before : (s : ℕ) → is_in s now.0.has ≡ true → is_in s me.0.has ≡ true
    before s h = (in_those_below s r me.0.has (ap (λ (xs : List ℕ). is_in s xs) (sym g.has) ∙ h)).0

pub rest_given_from : (r : ℕ) (id new : TableId) (me they now : Me (Unit {0}) View) → new ≡ id → they.1 ≡ [] → GaveFrom r me.0 now.0 they.0 → LoadsLast they.0 → IsAtRest id me → IsAtRest new they
rest_given_from r id new me they now same free g lasting rest =
    rest_part id new me they same free g.settled.1 (λ s h. (before s h, ap (λ (l : List HolderEvent). held_at s l) g.alike.0 ∙ g.own s (before s h))) lasting rest
  where
    before : (s : ℕ) → is_in s they.0.has ≡ true → is_in s me.0.has ≡ true
    before s h = (in_those_from s r me.0.has (ap (λ (xs : List ℕ). is_in s xs) (sym g.given_has) ∙ h)).0

pub rest_took : (id new other : TableId) (me now they : Me (Unit {0}) View) → new ≡ id → other ≡ id → now.1 ≡ me.1 → TookIn me.0 they.0 now.0 → LoadsLast now.0 → IsAtRest id me → IsAtRest other they → IsAtRest new now
rest_took id new other me now they same others slots t lasting rest theirs = record {
  free = slots ∙ rest.free;
  settled = t.settled;
  listed = λ s h. subst (λ (z : TableId). 512 * s + 512 < z.words) (sym same)
      (⊎_elim
      (λ (a : is_in s me.0.has ≡ true). rest.listed s a)
      (λ (b : is_in s they.0.has ≡ true). subst (λ (z : TableId). 512 * s + 512 < z.words) others (theirs.listed s b))
      (whose s h));
  twins = λ s h. ⊎_elim
      (λ (a : is_in s me.0.has ≡ true). subst (λ (ps : List HeldRow). NoTwins ps) (sym (t.own s a)) (rest.twins s a))
      (λ (b : is_in s they.0.has ≡ true). subst (λ (ps : List HeldRow). NoTwins ps) (sym (t.others s b)) (theirs.twins s b))
      (whose s h);
  lasting = lasting;
}
  where
    whose : (s : ℕ) → is_in s now.0.has ≡ true → (is_in s me.0.has ≡ true) ⊎ (is_in s they.0.has ≡ true)
    whose s h = is_in-append s me.0.has they.0.has (ap (λ (xs : List ℕ). is_in s xs) (sym t.has) ∙ h)
