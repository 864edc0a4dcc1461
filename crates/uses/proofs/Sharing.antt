-- What is found at a key holder that one row was put at.
use Rattle.std.proofs.Common.{◌≡◌, ◌≢◌, ◌∙◌, ℕ, zero, suc, Bool, true, false, List, [], ◌∷◌, ◌++◌, Some, refl, sym, ap, subst, length, arith}
use Rattle.std.specs.Prelude.{◌==◌, if◌then◌else◌, slice_index_or}
use Rattle.std.specs.List.{slice_get}
use Rattle.domain_base.specs.declared.names.Mac.{Mac}
use Rattle.key_hierarchy.specs.declared.answers.PullAnswer.{PullAnswer}
use Rattle.key_hierarchy.specs.declared.answers.PullAnswer.TheVariants.{Found, NoHolder, Absent}
use Rattle.key_holders.specs.declared.rows.HolderRow.{HolderRow}
use Rattle.key_holders.specs.declared.rows.HeldRow.{HeldRow}
use Rattle.key_holders.specs.Keys.{row_r1}
use Rattle.key_holders.specs.Rows.{is_in, live}
use Rattle.key_holders.specs.Listed.{below}
use Rattle.key_holders.specs.Pulls.{Answers, MayPull}
use Rattle.holder_table.specs.declared.history.HolderEvent.{HolderEvent}
use Rattle.holder_table.specs.declared.view.View.{View}
use Rattle.holder_table.specs.Histories.{held_at, Follows}
use Rattle.holder_table.specs.Knowledge.{Pulled, TookIn, Gave}
use Rattle.holder_table.specs.Rule.{first_view}
use Rattle.holder_table.specs.Steps.{without}
use Rattle.holder_table.proofs.Growth.{follows_grows}
use Rattle.uses.specs.Looks.{IsThatOrNone}

some_is : {X : Type 0} (x y : X) → Some x ≡ Some y → x ≡ y
some_is x y e = cc

-- the first of two access points has its R0KH-ID, and it alone
pub is_first : (ids : List (List ℕ)) (id : List ℕ) → length ids ≡ 2 → slice_index_or ids 0 [] ≡ id → slice_get ids 0 ≡ Some id
is_first [] id two at = absurd (omega (arith, two))
is_first (x ∷ ids) id two at = ap (λ (y : List ℕ). Some y) at

pub is_alone : (ids : List (List ℕ)) (id : List ℕ) → length ids ≡ 2 → slice_index_or ids 1 [] ≢ id → (r : ℕ) → slice_get ids r ≡ Some id → r ≡ 0
is_alone [] id two apart r e = absurd (omega (arith, two))
is_alone (x ∷ []) id two apart r e = absurd (omega (arith, two))
is_alone (x ∷ y ∷ z ∷ ids) id two apart r e = absurd (omega (arith, two))
is_alone (x ∷ y ∷ []) id two apart zero e = refl
is_alone (x ∷ y ∷ []) id two apart (suc zero) e = absurd (apart (some_is y id e))
is_alone (x ∷ y ∷ []) id two apart (suc (suc r)) e = absurd (cc e)

-- a row among those of one is that one
the_row : (j : ℕ) (p q : HeldRow) → slice_get (p ∷ []) j ≡ Some q → q ≡ p
the_row zero p q e = sym (some_is p q e)
the_row (suc j) p q e = absurd (cc e)

row_is : (row other : HolderRow) (q : HeldRow) → q ≡ live row → q.row ≡ other → other ≡ row
row_is row other q e same = sym same ∙ ap (λ (h : HeldRow). h.row) e

-- what was found before is the row that is there
pub found_before : (ids : List (List ℕ)) (id name : List ℕ) (r1kh sta : Mac) (v w z : View) (row : HolderRow) (answer : PullAnswer)
    → Pulled ids id name r1kh sta v w answer → slice_get ids 0 ≡ Some id → ((r : ℕ) → slice_get ids r ≡ Some id → r ≡ 0)
    → Follows w.seen z.seen → held_at 0 z.seen ≡ live row ∷ [] → IsThatOrNone (row_r1 row r1kh) answer
found_before ids id name r1kh sta v w z row (Found r1) p at alone later is =
    let r = p.found.0 in
    let pulled = p.found.2 in
    let f = pulled.2 in
    let there : slice_get (held_at 0 w.seen) f.0 ≡ Some (live pulled.0) =
    subst (λ (k : ℕ). slice_get (held_at k w.seen) f.0 ≡ Some (live pulled.0)) (alone r p.found.1) f.1 in
    let now = follows_grows 0 w.seen z.seen later f.0 (live pulled.0) there in
    let one : now.0 ≡ live row = the_row f.0 (live row) now.0 (subst (λ (ps : List HeldRow). slice_get ps f.0 ≡ Some now.0) is now.1) in
    pulled.1 ∙ ap (λ (x : HolderRow). row_r1 x r1kh) (row_is row pulled.0 now.0 one now.2)
found_before ids id name r1kh sta v w z row Absent p at alone later is = tt
found_before ids id name r1kh sta v w z row NoHolder p at alone later is = p.found 0 at

-- what is found at an access point of the pass is the row that is there
found_in : (row : HolderRow) (rows : List HeldRow) (r1kh : Mac) (answer : PullAnswer) → rows ≡ live row ∷ [] → MayPull rows row.name r1kh row.sta answer → answer ≡ Found (row_r1 row r1kh)
found_in row rows r1kh (Found r1) is m =
    let one : live m.1 ≡ live row = the_row m.0 (live row) (live m.1) (subst (λ (ps : List HeldRow). slice_get ps m.0 ≡ Some (live m.1)) is m.2) in
    ap (λ (k : _). Found k) (m.4 ∙ ap (λ (x : HolderRow). row_r1 x r1kh) (ap (λ (h : HeldRow). h.row) one))
found_in row rows r1kh Absent is m =
    absurd (cc (m 0 (live row) (subst (λ (ps : List HeldRow). slice_get ps 0 ≡ Some (live row)) (sym is) refl) (refl, refl)))
found_in row rows r1kh NoHolder is m = absurd m

pub found_after : (ids : List (List ℕ)) (has : List ℕ) (seen : List HolderEvent) (id : List ℕ) (r1kh : Mac) (row : HolderRow) (answer : PullAnswer)
    → Answers ids has (λ r. held_at r seen) id row.name r1kh row.sta answer → slice_get ids 0 ≡ Some id → ((r : ℕ) → slice_get ids r ≡ Some id → r ≡ 0)
    → is_in 0 has ≡ true → held_at 0 seen ≡ live row ∷ [] → answer ≡ Found (row_r1 row r1kh)
found_after ids has seen id r1kh row (Found r1) a at alone in_has is =
    found_in row (held_at 0 seen) r1kh (Found r1) is
    (subst (λ (k : ℕ). is_in k has ≡ true → MayPull (held_at k seen) row.name r1kh row.sta (Found r1)) (alone a.0 a.1) a.2 in_has)
found_after ids has seen id r1kh row Absent a at alone in_has is =
    found_in row (held_at 0 seen) r1kh Absent is
    (subst (λ (k : ℕ). is_in k has ≡ true → MayPull (held_at k seen) row.name r1kh row.sta Absent) (alone a.0 a.1) a.2 in_has)
found_after ids has seen id r1kh row NoHolder a at alone in_has is = absurd (a 0 at)

-- an access point of a pass that took in another
pub in_left : (r : ℕ) (xs ys : List ℕ) → is_in r xs ≡ true → is_in r (xs ++ ys) ≡ true
in_left r [] ys e = absurd (cc e)
in_left r (x ∷ xs) ys e = by (x == r) e (in_left r xs ys)
  where
    by : (b : Bool) → (if b then true else is_in r xs) ≡ true → (is_in r xs ≡ true → is_in r (xs ++ ys) ≡ true) → (if b then true else is_in r (xs ++ ys)) ≡ true
    by true e f = refl
    by false e f = f e

-- the first pass still has the first access point as the second one was given
pub has_first : (ids : List (List ℕ)) (v first second after : View) → v ≡ first_view (length ids) → length ids ≡ 2 → Gave 1 v first second → after.has ≡ first.has → is_in 0 after.has ≡ true
has_first ids v first second after is two gave same = ap (is_in 0) (same ∙ gave.has ∙ ap (without 1) (ap (λ (w : View). w.has) is ∙ ap below two))

-- and it has the row that it put where both are one again
pub held_first : (first second now : View) (row : HolderRow) → TookIn first second now → is_in 0 first.has ≡ true → held_at 0 first.seen ≡ live row ∷ [] → held_at 0 now.seen ≡ live row ∷ []
held_first first second now row took has held = took.own 0 has ∙ held
