-- Calls one after the other, and walks over rows.
use Rattle.std.proofs.Common.{◌≡◌, ◌≢◌, ◌⊎◌, ℕ, zero, suc, ◌+◌, ◌<◌, ◌≤◌, Bool, true, false, List, [], ◌∷◌, ◌++◌, length, Some, refl, sym, ap, ◌∙◌, subst, inl, inr, ⊎_elim, arith, append_assoc}
use Rattle.std.specs.Prelude.{slice_get}
use Rattle.std.proofs.lemmas.Option.{slice_get_within}
use Rattle.key_holders.specs.declared.rows.HolderRow.{HolderRow}
use Rattle.holder_table.specs.declared.history.HolderEvent.{HolderEvent}
use Rattle.holder_table.specs.Histories.{HeldRow, live, held_at, Grows}
use Rattle.holder_table.specs.declared.view.View.{View}
use Rattle.holder_table.specs.declared.view.Load.{Load}
use Rattle.holder_table.specs.Words.{state_of}
use Rattle.holder_table.specs.Rule.{is_in}
use Rattle.holder_table.specs.Steps.{Sees, Adds}
use Rattle.holder_table.specs.Knowledge.{NoLess, KnowsMore, Did, LastLoad}
use Rattle.holder_table.specs.Scans.{Passed}
use Rattle.holder_table.specs.Relations.{follows_on, gained_on}
use Rattle.holder_table.proofs.Places.{row_state}

module _ {A : Type 0} where
  nil_on : (xs ys : List A) → ys ≡ [] → xs ++ ys ≡ xs
  nil_on [] ys e = e
  nil_on (x ∷ xs) ys e = ap (λ (zs : List A). x ∷ zs) (nil_on xs ys e)

pub more_of_look : (v w : View) (load : Load) → v.brought ≡ [] → Sees v w → w.loads ≡ load ∷ v.loads → KnowsMore v w
more_of_look v w load settled s loads = record {
  seen = s.seen;
  has = s.has ∙ nil_on v.has v.brought settled;
  own = s.own;
  loads = (load ∷ [], loads);
  settled = s.settled.0;
}

pub more_same : (v : View) → v.brought ≡ [] → KnowsMore v v
more_same v settled = record { seen = ([], refl); has = refl; own = λ r e. refl; loads = ([], refl); settled = settled }

pub more_on : (u v w : View) → KnowsMore u v → KnowsMore v w → KnowsMore u w
more_on u v w a b = record {
  seen = follows_on u.seen v.seen w.seen a.seen b.seen;
  has = b.has ∙ a.has;
  own = λ r e. b.own r (ap (λ (xs : List ℕ). is_in r xs) a.has ∙ e) ∙ a.own r e;
  loads = (b.loads.0 ++ a.loads.0, gained_on u.loads v.loads w.loads a.loads.0 b.loads.0 a.loads.1 b.loads.1);
  settled = b.settled;
}

pub last_load : (u v w : View) (load : Load) → KnowsMore u v → w.loads ≡ load ∷ v.loads → LastLoad load u w
last_load u v w load a e = (a.loads.0, e ∙ ap (λ (h : List Load). load ∷ h) a.loads.1)

-- an event after other steps
pub did_on : (u v w : View) (e : HolderEvent) → KnowsMore u v → Adds e v w → Did e u w
did_on u v w e a b = record {
  between = b.between ++ a.seen.0;
  seen = b.seen ∙ ap (λ (h : List HolderEvent). e ∷ h) (longer b.between);
  has = b.has ∙ a.has;
  own = λ r h. ap (λ (l : List HolderEvent). held_at r l) (sym (longer b.between)) ∙ (b.same r (ap (λ (xs : List ℕ). is_in r xs) a.has ∙ h) ∙ a.own r h);
  loads = (a.loads.0, b.loads ∙ a.loads.1);
  settled = b.settled.0;
}
  where
    longer : (between : List HolderEvent) → between ++ v.seen ≡ (between ++ a.seen.0) ++ u.seen
    longer between = ap (λ (h : List HolderEvent). between ++ h) a.seen.1 ∙ sym (append_assoc between a.seen.0 u.seen)

pub there : (ps : List HeldRow) (j : ℕ) → j < length ps → (p : HeldRow) × (slice_get ps j ≡ Some p)
there [] j h = absurd (omega arith)
there (p ∷ ps) zero h = (p, refl)
there (p ∷ ps) (suc j) h = there ps j (omega arith)

pub length_grows : (ps qs : List HeldRow) → Grows ps qs → length ps ≤ length qs
length_grows ps qs g = upto (length ps) (omega arith)
  where
    upto : (n : ℕ) → n ≤ length ps → n ≤ length qs
    upto zero h = omega arith
    upto (suc n) h = let p = there ps n (omega arith) in let q = g n p.0 p.1 in let w = slice_get_within qs n q.0 q.1 in omega arith

same_some : (p q : HeldRow) → Some p ≡ Some q → p ≡ q
same_some p q e = cc

module _ (Is : HolderRow → Type 0) where
  pub passed_grows : (n : ℕ) (ps qs : List HeldRow) → Grows ps qs → Passed Is n ps → Passed Is n qs
  passed_grows n ps qs g h = (
    (let more = length_grows ps qs g in omega (arith, h.0, more)),
    λ j q few e asked.
        let p = there ps j (omega (arith, few, h.0)) in
        let r = g j p.0 p.1 in
        let same : r.0 ≡ q = same_some r.0 q (sym r.1 ∙ e) in
        let row : q.row ≡ p.0.row = ap (λ (x : HeldRow). x.row) (sym same) ∙ r.2 in
        ap (λ (x : HeldRow). x.live) (sym same) ∙ r.3 (h.1 j p.0 few p.1 (subst Is row asked)),
  )

  pub passed_more : (n word : ℕ) (ps : List HeldRow) → word ≡ state_of ps n → word ≢ 0 → (word ≡ 1 → (p : HeldRow) → slice_get ps n ≡ Some p → Is p.row → ⊥) → Passed Is n ps → Passed Is (n + 1) ps
  passed_more n word ps is some_row other h =
      let here = row_state ps n word (sym is) some_row in (
        (let within = slice_get_within ps n here.0 here.1 in omega (arith, within)),
        λ j p few e asked. last j p few e asked (nat_split j n),
      )
    where
      nat_split : (j n : ℕ) → (j < n) ⊎ (n ≤ j)
      nat_split zero zero = inr (omega arith)
      nat_split zero (suc n) = inl (omega arith)
      nat_split (suc j) zero = inr (omega arith)
      nat_split (suc j) (suc n) = ⊎_elim (λ (a : j < n). inl (omega arith)) (λ (b : n ≤ j). inr (omega arith)) (nat_split j n)

      last : (j : ℕ) (p : HeldRow) → j < n + 1 → slice_get ps j ≡ Some p → Is p.row → (j < n) ⊎ (n ≤ j) → p.live ≡ false
      last j p few e asked split =
          ⊎_elim
          (λ (a : j < n). h.1 j p a e asked)
          (λ (b : n ≤ j).
          let at : j ≡ n = omega arith in
          let e' : slice_get ps n ≡ Some p = subst (λ (x : ℕ). slice_get ps x ≡ Some p) at e in
          let here = row_state ps n word (sym is) some_row in
          let same : here.0 ≡ p = same_some here.0 p (sym here.1 ∙ e') in
          ⊎_elim
          (λ (one : (word ≡ 1) × (here.0.live ≡ true)). absurd (other one.0 p e' asked))
          (λ (three : (word ≡ 3) × (here.0.live ≡ false)). ap (λ (x : HeldRow). x.live) (sym same) ∙ three.1)
          here.2)
          split

  pub passed_all : (n : ℕ) (ps : List HeldRow) → length ps ≤ n → Passed Is n ps → (j : ℕ) (p : HeldRow) → slice_get ps j ≡ Some p → Is p.row → p.live ≡ false
  passed_all n ps whole h j p e asked = let within = slice_get_within ps j p e in h.1 j p (omega (arith, within, whole)) e asked

-- a row whose state word is 1 is live
pub live_row : (ps : List HeldRow) (n : ℕ) → 1 ≡ state_of ps n → (row : HolderRow) × (slice_get ps n ≡ Some (live row))
live_row ps n is =
    let here = row_state ps n 1 (sym is) (λ e. omega arith) in
    ⊎_elim
    (λ (one : (1 ≡ 1) × (here.0.live ≡ true)). (here.0.row, here.1 ∙ ap (λ (b : Bool). Some (record { row = here.0.row; live = b })) one.1))
    (λ (three : (1 ≡ 3) × (here.0.live ≡ false)). absurd (omega (arith, three.0)))
    here.2

pub no_less-more : (v w : View) → KnowsMore v w → NoLess v w
no_less-more v w m = record { seen = m.seen; has = m.has; loads = m.loads }

pub no_less-did : (v w : View) (e : HolderEvent) → Did e v w → NoLess v w
no_less-did v w e d = record { seen = (e ∷ d.between, d.seen); has = d.has; loads = d.loads }
