-- The workers of batches of access points.
use Rattle.std.proofs.Common.{◌≡◌, ◌≢◌, ◌⊎◌, ℕ, zero, suc, ◌+◌, ◌-◌, ◌<◌, ◌≤◌, nat_lt, eqb, eqb-true, ltb-false, Ok, Err, IfOk, OnOk, OnErr, IsOkAnd, Result, Bool, true, false, cond, true≢false, List, [], ◌∷◌, ◌++◌, length, Some, refl, sym, ap, ◌∙◌, subst, arith, inl, inr, length-append, append_assoc}
use Rattle.std.proofs.lemmas.Bool.{cases_lt, ltb-true}
use Rattle.std.proofs.lemmas.List.{append-nil}
use Rattle.atomic_table.specs.Seated.{TableId}
use Rattle.run_journal.specs.declared.domain.Domain.{Domain}
use Rattle.holder_table.specs.declared.history.HolderEvent.{HolderEvent}
use Rattle.holder_table.specs.declared.view.View.{View}
use Rattle.holder_table.specs.Histories.{held_at, Follows}
use Rattle.holder_table.specs.Knowledge.{NoLess, Gave, TookIn}
use Rattle.holder_table.specs.Pass.{Pass}
use Rattle.holder_table.specs.Relations.{follows_on}
use Rattle.holder_table.specs.Rule.{is_in}
use Rattle.holder_table.specs.Steps.{without, those_below, those_from}
use Rattle.ap_node.specs.State.{State as ApState}
use Rattle.domain_world.specs.declared.part.Part.{Part}
use Rattle.domain_world.specs.declared.working.Turn.{Turn}
use Rattle.domain_world.specs.declared.working.Batch.{Batch}
use Rattle.domain_world.specs.declared.working.Ran.{Ran}
use Rattle.domain_world.specs.Working.{turns_at, AreIdle, Worked, HandedBack, AllWorked, AreNumberedFrom, IsBatch, IsHalved, WorkedFrom, HasRun}
use Rattle.domain_world.proofs.Lists.{get_front, get_before, get_behind}
use Rattle.domain_world.proofs.Workers.{same_history, earlier, later, none_worked}

-- ---- access points that a pass has

in_left : (r : ℕ) (xs ys : List ℕ) → is_in r xs ≡ true → is_in r (xs ++ ys) ≡ true
in_left r [] ys e = absurd (true≢false (sym e))
in_left r (x ∷ xs) ys e = by (eqb x r) (in_left r xs ys) e
  where
    by : (b : Bool) → (is_in r xs ≡ true → is_in r (xs ++ ys) ≡ true) → cond b true (is_in r xs) ≡ true → cond b true (is_in r (xs ++ ys)) ≡ true
    by true k h = refl
    by false k h = k h

in_right : (r : ℕ) (xs ys : List ℕ) → is_in r ys ≡ true → is_in r (xs ++ ys) ≡ true
in_right r [] ys e = e
in_right r (x ∷ xs) ys e = by (eqb x r) (in_right r xs ys e)
  where
    by : (b : Bool) → is_in r (xs ++ ys) ≡ true → cond b true (is_in r (xs ++ ys)) ≡ true
    by true k = refl
    by false k = k

or_without_at : (r a x : ℕ) (xs : List ℕ) (b c : Bool) → eqb x a ≡ b → eqb x r ≡ c → (is_in r xs ≡ true → (a ≡ r) ⊎ (is_in r (without a xs) ≡ true)) → cond c true (is_in r xs) ≡ true → (a ≡ r) ⊎ (is_in r (cond b (without a xs) (x ∷ without a xs)) ≡ true)
or_without_at r a x xs true true at is rest e = inl (sym (eqb-true x a at) ∙ eqb-true x r is)
or_without_at r a x xs true false at is rest e = rest e
or_without_at r a x xs false true at is rest e = inr (ap (λ (b : Bool). cond b true (is_in r (without a xs))) is)
or_without_at r a x xs false false at is rest e = elim (rest e) [ inl h ↦ inl h | inr h ↦ inr (ap (λ (b : Bool). cond b true (is_in r (without a xs))) is ∙ h) ]

or_without : (r a : ℕ) (xs : List ℕ) → is_in r xs ≡ true → (a ≡ r) ⊎ (is_in r (without a xs) ≡ true)
or_without r a [] e = absurd (true≢false (sym e))
or_without r a (x ∷ xs) e = or_without_at r a x xs (eqb x a) (eqb x r) refl refl (or_without r a xs) e

kept_in_at : (r a x : ℕ) (xs : List ℕ) (b c : Bool) → nat_lt x a ≡ b → eqb x r ≡ c → r < a → (is_in r xs ≡ true → is_in r (those_below a xs) ≡ true) → cond c true (is_in r xs) ≡ true → is_in r (cond b (x ∷ those_below a xs) (those_below a xs)) ≡ true
kept_in_at r a x xs true true at is low rest e = ap (λ (b : Bool). cond b true (is_in r (those_below a xs))) is
kept_in_at r a x xs true false at is low rest e = ap (λ (b : Bool). cond b true (is_in r (those_below a xs))) is ∙ rest e
kept_in_at r a x xs false true at is low rest e = absurd (omega (arith, ltb-false x a at, eqb-true x r is, low))
kept_in_at r a x xs false false at is low rest e = rest e

-- a pass that gave those from one on away still has those below it
kept_in : (r a : ℕ) (xs : List ℕ) → r < a → is_in r xs ≡ true → is_in r (those_below a xs) ≡ true
kept_in r a [] low e = e
kept_in r a (x ∷ xs) low e = kept_in_at r a x xs (nat_lt x a) (eqb x r) refl refl low (kept_in r a xs low) e

given_in_at : (r a x : ℕ) (xs : List ℕ) (b c : Bool) → nat_lt x a ≡ b → eqb x r ≡ c → a ≤ r → (is_in r xs ≡ true → is_in r (those_from a xs) ≡ true) → cond c true (is_in r xs) ≡ true → is_in r (cond b (those_from a xs) (x ∷ those_from a xs)) ≡ true
given_in_at r a x xs true true at is low rest e = absurd (omega (arith, ltb-true x a at, eqb-true x r is, low))
given_in_at r a x xs true false at is low rest e = rest e
given_in_at r a x xs false true at is low rest e = ap (λ (b : Bool). cond b true (is_in r (those_from a xs))) is
given_in_at r a x xs false false at is low rest e = ap (λ (b : Bool). cond b true (is_in r (those_from a xs))) is ∙ rest e

-- and the other one has those
given_in : (r a : ℕ) (xs : List ℕ) → a ≤ r → is_in r xs ≡ true → is_in r (those_from a xs) ≡ true
given_in r a [] low e = e
given_in r a (x ∷ xs) low e = given_in_at r a x xs (nat_lt x a) (eqb x r) refl refl low (given_in r a xs low) e

here_in : (x : ℕ) → is_in x (x ∷ []) ≡ true
here_in x = ap (λ (b : Bool). cond b true false) (Rattle.std.proofs.Common.eq-eqb x x refl)

pub one_given : (n : ℕ) (v w given : View) → Gave n v w given → is_in n given.has ≡ true
one_given n v w given gave = ap (is_in n) gave.given_has ∙ here_in n

-- ---- both halves of a batch

module _ (d : Domain) (table : TableId) (b front back : Batch) (is : IsBatch d table b) (h : IsHalved b front back) where
  two_parts : length b.aps.items ≡ length front.aps.items + length back.aps.items
  two_parts = ap length h.aps ∙ length-append front.aps.items back.aps.items

  numbers : AreNumberedFrom b.first (front.aps.items ++ back.aps.items)
  numbers = subst (AreNumberedFrom b.first) h.aps is.numbered

  pub front_batch : IsBatch d table front
  front_batch = record {
    listed = omega (arith, is.listed, two_parts, h.first);
    numbered = λ k s at. omega (arith, numbers k s (get_front front.aps.items back.aps.items k s at), h.first);
    table = h.table.0 ∙ is.table;
    has = λ r low high. ap (is_in r) h.gave.has ∙ kept_in r back.first b.pass.knows.has (omega (arith, high, h.first, h.next)) (is.has r (omega (arith, low, h.first)) (omega (arith, high, h.first, two_parts)));
  }

  pub back_batch : IsBatch d table back
  back_batch = record {
    listed = omega (arith, is.listed, two_parts, h.next);
    numbered = λ k s at. omega (arith, numbers (length front.aps.items + k) s (get_behind front.aps.items back.aps.items k (length front.aps.items + k) refl ∙ at), h.next);
    table = h.table.1 ∙ is.table;
    has = λ r low high. ap (is_in r) h.gave.given_has ∙ given_in r back.first b.pass.knows.has low (is.has r (omega (arith, low, h.next)) (omega (arith, high, h.next, two_parts)));
  }

-- ---- what workers did

-- between an earlier history and a later one, with the same rows at those access points
wider : (d : Domain) (n : ℕ) (ts : List Turn) (first old new last : List HolderEvent) (aps back : List ApState) (parts : List Part) → Follows first old → Follows new last
    → ((r : ℕ) → n ≤ r → r < n + length aps → (held_at r old ≡ held_at r first) × (held_at r last ≡ held_at r new)) → WorkedFrom d n ts old new aps back parts → WorkedFrom d n ts first last aps back parts
unfolding WorkedFrom
wider d n ts first old new last [] [] parts f g same w = w
wider d n ts first old new last [] (t ∷ back) parts f g same w = w
wider d n ts first old new last (s ∷ aps) [] parts f g same w = w
wider d n ts first old new last (s ∷ aps) (t ∷ back) parts f g same w =
    let own = same n (omega arith) (omega arith) in (
      w.0,
      w.1,
      w.2,
      earlier d n (turns_at n ts) s t first old last w.0 f own.0 (later d n (turns_at n ts) s t old new last w.0 g own.1 w.3),
      wider d (suc n) ts first old new last aps back w.1 f g (λ r low high. same r (omega (arith, low)) (omega (arith, high))) w.4,
    )

-- those of some access points, and of those after them
both_worked : (d : Domain) (n m : ℕ) (ts : List Turn) (old new : List HolderEvent) (xs ys xs' ys' : List ApState) (front mine all : List Part) → m ≡ n + length xs → WorkedFrom d n ts old new xs xs' front → WorkedFrom d m ts old new ys ys' mine
    → all ≡ front ++ mine → WorkedFrom d n ts old new (xs ++ ys) (xs' ++ ys') all
unfolding WorkedFrom
both_worked d n m ts old new [] ys [] ys' front mine all count w v is =
    subst (λ (k : ℕ). WorkedFrom d k ts old new ys ys' all) (let e : m ≡ n = omega (arith, count) in e) (subst (λ (ps : List Part). WorkedFrom d m ts old new ys ys' ps) (sym (is ∙ ap (λ (ps : List Part). ps ++ mine) w)) v)
both_worked d n m ts old new [] ys (x ∷ xs') ys' front mine all count w v is = absurd w
both_worked d n m ts old new (x ∷ xs) ys [] ys' front mine all count w v is = absurd w
both_worked d n m ts old new (x ∷ xs) ys (x' ∷ xs') ys' front mine all count w v is = (
  w.0,
  w.1 ++ mine,
  is ∙ ap (λ (ps : List Part). ps ++ mine) w.2 ∙ append_assoc w.0 w.1 mine,
  w.3,
  both_worked d (suc n) m ts old new xs ys xs' ys' w.1 mine (w.1 ++ mine) (omega (arith, count)) w.4 v refl,
)

-- those of access points that have no event
idle_worked : (d : Domain) (n : ℕ) (ts : List Turn) (old : List HolderEvent) (aps : List ApState) → AreIdle n (length aps) ts → WorkedFrom d n ts old old aps aps []
unfolding WorkedFrom
idle_worked d n ts old [] none = refl
idle_worked d n ts old (s ∷ aps) none = (
  [],
  [],
  refl,
  subst (λ (es : List Turn). Worked d n es s s old old []) (sym (none n (omega arith) (omega arith))) (none_worked d n s old old (same_history old) refl),
  idle_worked d (suc n) ts old aps (λ k low high. none k (omega (arith, low)) (omega (arith, high))),
)

-- that of one
one_worked : (d : Domain) (n : ℕ) (ts : List Turn) (old new : List HolderEvent) (s t : ApState) (mine : List Part) → Worked d n (turns_at n ts) s t old new mine → WorkedFrom d n ts old new (s ∷ []) (t ∷ []) mine
unfolding WorkedFrom
one_worked d n ts old new s t mine w = (mine, [], sym (append-nil mine), w, refl)

-- all from the first on
all_worked : (d : Domain) (n m : ℕ) (ts : List Turn) (old new : List HolderEvent) (done behind : List ApState) (front : List Part) (aps back : List ApState) (rest all : List Part) → m ≡ n + length aps → AllWorked d n ts old new done behind front
    → WorkedFrom d n ts old new aps back rest → all ≡ front ++ rest → AllWorked d m ts old new (done ++ aps) (behind ++ back) all
unfolding WorkedFrom AllWorked
all_worked d n m ts old new done behind front [] [] rest all count w v is =
    subst (λ (k : ℕ). AllWorked d k ts old new (done ++ []) (behind ++ []) all) (let e : n ≡ m = omega (arith, count) in e)
    (subst (λ (l : List ApState). AllWorked d n ts old new l (behind ++ []) all) (sym (append-nil done))
    (subst (λ (l : List ApState). AllWorked d n ts old new done l all) (sym (append-nil behind))
    (subst (λ (ps : List Part). AllWorked d n ts old new done behind ps) (sym (is ∙ ap (λ (ps : List Part). front ++ ps) v ∙ append-nil front)) w)))
all_worked d n m ts old new done behind front [] (t ∷ back) rest all count w v is = absurd v
all_worked d n m ts old new done behind front (s ∷ aps) [] rest all count w v is = absurd v
all_worked d n m ts old new done behind front (s ∷ aps) (t ∷ back) rest all count w v is =
    let one : AllWorked d (suc n) ts old new (done ++ s ∷ []) (behind ++ t ∷ []) (front ++ v.0) = (s, t, done, behind, front, v.0, refl, refl, refl, w, v.3) in
    let more = all_worked d (suc n) m ts old new (done ++ s ∷ []) (behind ++ t ∷ []) (front ++ v.0) aps back v.1 all (omega (arith, count)) one v.4 (is ∙ ap (λ (ps : List Part). front ++ ps) v.2 ∙ sym (append_assoc front v.0 v.1)) in
    subst (λ (l : List ApState). AllWorked d m ts old new l (behind ++ t ∷ back) all) (append_assoc done (s ∷ []) aps)
    (subst (λ (l : List ApState). AllWorked d m ts old new ((done ++ s ∷ []) ++ aps) l all) (append_assoc behind (t ∷ []) back) more)

-- ---- answers

pub if_ok : {A B : Type 0} (r : Result A B) (P Q : A → Type 0) → ((a : A) → P a → Q a) → IfOk r P → IfOk r Q
if_ok (Ok a) P Q f h = f a h
if_ok (Err b) P Q f h = h

pub and_if : {A B : Type 0} (r : Result A B) (P Q : A → Type 0) → IsOkAnd r P → IfOk r Q → (a : A) × P a × Q a
and_if (Ok a) P Q h k = (a, h, k)
and_if (Err b) P Q h k = absurd h

pub on_ok : {A B : Type 0} (r : Result A B) (P Q : Type 0) → (P → Q) → OnOk r P → OnOk r Q
on_ok (Ok a) P Q f h = f h
on_ok (Err b) P Q f h = h

pub both_err : {A B : Type 0} (r : Result A B) (P Q R : Type 0) → (P → Q → R) → OnErr r P → OnErr r Q → OnErr r R
both_err (Ok a) P Q R f h k = h
both_err (Err b) P Q R f h k = f h k

-- ---- a batch that was run

-- one that is handed back as it was
pub idle_run : (d : Domain) (ts : List Turn) (table : TableId) (b : Batch) (r : Ran) → IsBatch d table b → r.aps.items ≡ b.aps.items → r.pass ≡ b.pass
    → IfOk r.parts (λ parts. WorkedFrom d b.first ts b.pass.knows.seen b.pass.knows.seen b.aps.items b.aps.items parts.items) → HasRun d ts b r
idle_run d ts table b r is aps pass worked = record {
  table = ap (λ (p : Pass). p.table) pass;
  seen = subst (λ (p : Pass). Follows b.pass.knows.seen p.knows.seen) (sym pass) (same_history b.pass.knows.seen);
  has = λ k e. ap (λ (p : Pass). is_in k p.knows.has) pass ∙ e;
  others = λ k out e. ap (λ (p : Pass). held_at k p.knows.seen) pass;
  numbered = subst (AreNumberedFrom b.first) (sym aps) is.numbered;
  count = ap length aps;
  worked = if_ok r.parts _ _
      (λ parts w. subst (λ (p : Pass). WorkedFrom d b.first ts b.pass.knows.seen p.knows.seen b.aps.items r.aps.items parts.items) (sym pass)
      (subst (λ (l : List ApState). WorkedFrom d b.first ts b.pass.knows.seen b.pass.knows.seen b.aps.items l parts.items) (sym aps) w))
      worked;
}

-- one whose access points have no event
pub idle_parts : (d : Domain) (ts : List Turn) (b : Batch) (r : Ran) → AreIdle b.first (length b.aps.items) ts → IfOk r.parts (λ parts. parts.items ≡ [])
    → IfOk r.parts (λ parts. WorkedFrom d b.first ts b.pass.knows.seen b.pass.knows.seen b.aps.items b.aps.items parts.items)
idle_parts d ts b r none parts =
    if_ok r.parts _ _
    (λ ps empty. subst (λ (l : List Part). WorkedFrom d b.first ts b.pass.knows.seen b.pass.knows.seen b.aps.items b.aps.items l) (sym empty) (idle_worked d b.first ts b.pass.knows.seen b.aps.items none))
    parts

-- one of one access point
module _ (d : Domain) (ts : List Turn) (table : TableId) (b : Batch) (r : Ran) (s t : ApState) (left own : Pass) (given : View) where
  pub one_run : IsBatch d table b → b.aps.items ≡ s ∷ [] → r.aps.items ≡ t ∷ [] → t.number ≡ b.first → left.table ≡ b.pass.table → Gave b.first b.pass.knows left.knows given → NoLess given own.knows → r.pass.table ≡ left.table
      → TookIn left.knows own.knows r.pass.knows → IfOk r.parts (λ parts. Worked d b.first (turns_at b.first ts) s t given.seen own.knows.seen parts.items) → HasRun d ts b r
  one_run is aps back number table_left gave less table_is took worked = record {
    table = table_is ∙ table_left;
    seen = follows_on b.pass.knows.seen left.knows.seen r.pass.knows.seen gave.seen took.seen;
    has = λ k e. ap (is_in k) took.has ∙ (elim (or_without k b.first b.pass.knows.has e) [
      | inl here ↦ in_right k left.knows.has own.knows.has (ap (is_in k) (less.has ∙ gave.given_has) ∙ subst (λ x. is_in x (b.first ∷ []) ≡ true) here (here_in b.first))
      | inr there ↦ in_left k left.knows.has own.knows.has (ap (is_in k) gave.has ∙ there)
    ]);
    others = λ k out e. elim (or_without k b.first b.pass.knows.has e) [
      | inl here ↦ absurd (out (omega (arith, here)) (omega (arith, here, one)))
      | inr there ↦ took.own k (ap (is_in k) gave.has ∙ there) ∙ gave.own k e
    ];
    numbered = subst (AreNumberedFrom b.first) (sym back) numbered;
    count = ap length back ∙ sym (ap length aps);
    worked = if_ok r.parts _ _
        (λ parts w. subst (λ (l : List ApState). WorkedFrom d b.first ts b.pass.knows.seen r.pass.knows.seen b.aps.items l parts.items) (sym back)
        (subst (λ (l : List ApState). WorkedFrom d b.first ts b.pass.knows.seen r.pass.knows.seen l (t ∷ []) parts.items) (sym aps)
        (one_worked d b.first ts b.pass.knows.seen r.pass.knows.seen s t parts.items
        (earlier d b.first (turns_at b.first ts) s t b.pass.knows.seen given.seen r.pass.knows.seen parts.items from begun
        (later d b.first (turns_at b.first ts) s t given.seen own.knows.seen r.pass.knows.seen parts.items took.others_seen ended w)))))
        worked;
  }
    where
      one : length b.aps.items ≡ 1
      one = ap length aps

      has_it : is_in b.first b.pass.knows.has ≡ true
      has_it = is.has b.first (omega arith) (omega (arith, one))

      begun : held_at b.first given.seen ≡ held_at b.first b.pass.knows.seen
      begun = ap (held_at b.first) gave.alike.0 ∙ gave.own b.first has_it

      ended : held_at b.first r.pass.knows.seen ≡ held_at b.first own.knows.seen
      ended = took.others b.first (ap (is_in b.first) (less.has ∙ gave.given_has) ∙ here_in b.first)

      from : Follows b.pass.knows.seen given.seen
      from = subst (Follows b.pass.knows.seen) (sym gave.alike.0) gave.seen

      numbered : AreNumberedFrom b.first (t ∷ [])
      numbered zero x at =
          let same : t ≡ x = cc in
          omega (arith, ap (λ (y : ApState). y.number) same, number)
      numbered (suc k) x at = absurd (cc)

-- one whose halves were run
module _ (d : Domain) (ts : List Turn) (table : TableId) (b front back : Batch) (r s end : Ran) (is : IsBatch d table b) (h : IsHalved b front back) (ran : HasRun d ts front r) (also : HasRun d ts back s) (took : TookIn r.pass.knows s.pass.knows end.pass.knows) where
  -- where an access point is known from
  which : (k : ℕ) → is_in k b.pass.knows.has ≡ true → ((k < back.first) × (is_in k front.pass.knows.has ≡ true)) ⊎ ((back.first ≤ k) × (is_in k back.pass.knows.has ≡ true))
  which k e = elim (cases_lt k back.first) [
    | inl low ↦ inl (low, ap (is_in k) h.gave.has ∙ kept_in k back.first b.pass.knows.has low e)
    | inr high ↦ inr (high, ap (is_in k) h.gave.given_has ∙ given_in k back.first b.pass.knows.has high e)
  ]

  -- its rows at the beginning, and at the end
  begun : (k : ℕ) → is_in k b.pass.knows.has ≡ true → (held_at k front.pass.knows.seen ≡ held_at k b.pass.knows.seen) × (held_at k back.pass.knows.seen ≡ held_at k b.pass.knows.seen)
  begun k e = (h.gave.own k e, ap (held_at k) h.gave.alike.0 ∙ h.gave.own k e)

  in_front : (k : ℕ) → front.first ≤ k → k < front.first + length front.aps.items → (held_at k front.pass.knows.seen ≡ held_at k b.pass.knows.seen) × (held_at k end.pass.knows.seen ≡ held_at k r.pass.knows.seen)
  in_front k low high =
      let two = two_parts d table b front back is h in
      ((begun k (is.has k (omega (arith, low, h.first)) (omega (arith, high, h.first, two)))).0, took.own k (ran.has k ((front_batch d table b front back is h).has k low high)))

  in_back : (k : ℕ) → back.first ≤ k → k < back.first + length back.aps.items → (held_at k back.pass.knows.seen ≡ held_at k b.pass.knows.seen) × (held_at k end.pass.knows.seen ≡ held_at k s.pass.knows.seen)
  in_back k low high =
      let two = two_parts d table b front back is h in
      ((begun k (is.has k (omega (arith, low, h.next)) (omega (arith, high, h.next, two)))).1, took.others k (also.has k ((back_batch d table b front back is h).has k low high)))

  numbered_both : (l : List ApState) → l ≡ r.aps.items ++ s.aps.items → AreNumberedFrom b.first l
  numbered_both l eq = subst (AreNumberedFrom b.first) (sym eq) (λ k x at. elim (cases_lt k (length r.aps.items)) [
    | inl low ↦ omega (arith, ran.numbered k x (sym (get_before r.aps.items s.aps.items k low) ∙ at), h.first)
    | inr high ↦
        let rest : k ≡ length r.aps.items + (k - length r.aps.items) = omega (arith, high) in
        omega (arith, also.numbered (k - length r.aps.items) x (sym (get_behind r.aps.items s.aps.items (k - length r.aps.items) k rest) ∙ at), h.next, ran.count, rest)
  ])

  worked_both : (f m all : List Part) → all ≡ f ++ m → WorkedFrom d front.first ts front.pass.knows.seen r.pass.knows.seen front.aps.items r.aps.items f → WorkedFrom d back.first ts back.pass.knows.seen s.pass.knows.seen back.aps.items s.aps.items m
      → WorkedFrom d front.first ts b.pass.knows.seen end.pass.knows.seen (front.aps.items ++ back.aps.items) (r.aps.items ++ s.aps.items) all
  worked_both f m all eq w v =
      both_worked d front.first back.first ts b.pass.knows.seen end.pass.knows.seen front.aps.items back.aps.items r.aps.items s.aps.items f m all (omega (arith, h.first, h.next))
      (wider d front.first ts b.pass.knows.seen front.pass.knows.seen r.pass.knows.seen end.pass.knows.seen front.aps.items r.aps.items f h.gave.seen took.seen in_front w)
      (wider d back.first ts b.pass.knows.seen back.pass.knows.seen s.pass.knows.seen end.pass.knows.seen back.aps.items s.aps.items m (subst (Follows b.pass.knows.seen) (sym h.gave.alike.0) h.gave.seen) took.others_seen in_back v)
      eq

  pub halves_run : end.aps.items ≡ r.aps.items ++ s.aps.items → end.pass.table ≡ r.pass.table → IfOk end.parts (λ all. IsOkAnd r.parts (λ f. IsOkAnd s.parts (λ m. all.items ≡ f.items ++ m.items))) → HasRun d ts b end
  halves_run aps table_is parts = record {
    table = table_is ∙ ran.table ∙ h.table.0;
    seen = follows_on b.pass.knows.seen front.pass.knows.seen end.pass.knows.seen h.gave.seen (follows_on front.pass.knows.seen r.pass.knows.seen end.pass.knows.seen ran.seen took.seen);
    has = λ k e. ap (is_in k) took.has ∙ (elim (which k e) [
      | inl low ↦ in_left k r.pass.knows.has s.pass.knows.has (ran.has k low.1)
      | inr high ↦ in_right k r.pass.knows.has s.pass.knows.has (also.has k high.1)
    ]);
    others = λ k out e. (let two = two_parts d table b front back is h in
        elim (which k e) [
          | inl low ↦ took.own k (ran.has k low.1) ∙ ran.others k (λ from to. out (omega (arith, from, h.first)) (omega (arith, to, h.first, two))) low.1 ∙ (begun k e).0
          | inr high ↦ took.others k (also.has k high.1) ∙ also.others k (λ from to. out (omega (arith, from, h.next)) (omega (arith, to, h.next, two))) high.1 ∙ (begun k e).1
        ]);
    numbered = numbered_both end.aps.items aps;
    count = omega (arith, ap length aps, length-append r.aps.items s.aps.items, ran.count, also.count, two_parts d table b front back is h);
    worked = if_ok end.parts _ _
        (λ all e.
        let f = and_if r.parts _ _ e ran.worked in
        let m = and_if s.parts _ _ f.1 also.worked in
        subst (λ (n : ℕ). WorkedFrom d n ts b.pass.knows.seen end.pass.knows.seen b.aps.items end.aps.items all.items) h.first
        (subst (λ (l : List ApState). WorkedFrom d front.first ts b.pass.knows.seen end.pass.knows.seen l end.aps.items all.items) (sym h.aps)
        (subst (λ (l : List ApState). WorkedFrom d front.first ts b.pass.knows.seen end.pass.knows.seen (front.aps.items ++ back.aps.items) l all.items) (sym aps)
        (worked_both f.0.items m.0.items all.items m.1 f.2 m.2))))
        parts;
  }

-- ---- all access points

module _ (d : Domain) (ts : List Turn) (b : Batch) (r : Ran) (first : b.first ≡ 0) (ran : HasRun d ts b r) where
  pub all_back : HandedBack b.aps.items r.aps.items b.pass r.pass
  all_back = record {
    table = ran.table;
    seen = ran.seen;
    has = ran.has;
    others = λ k high e. ran.others k (λ from to. omega (arith, to, high, first)) e;
    numbered = λ k s at. omega (arith, ran.numbered k s at, first);
    count = ran.count;
  }

  pub all_ran : IfOk r.parts (λ parts. AllWorked d (length b.aps.items) ts b.pass.knows.seen r.pass.knows.seen b.aps.items r.aps.items parts.items)
  unfolding AllWorked
  all_ran =
      if_ok r.parts _ _
      (λ parts w. all_worked d 0 (length b.aps.items) ts b.pass.knows.seen r.pass.knows.seen [] [] [] b.aps.items r.aps.items parts.items parts.items (omega arith) (refl, refl, refl)
      (subst (λ (n : ℕ). WorkedFrom d n ts b.pass.knows.seen r.pass.knows.seen b.aps.items r.aps.items parts.items) first w) refl)
      ran.worked
