-- The events of a round by the access points at which they are.
use Rattle.std.proofs.Common.{◌≡◌, ℕ, zero, suc, ◌<◌, ◌≤◌, Bool, true, false, cond, List, [], ◌∷◌, ◌++◌, refl, sym, ap, ◌∙◌, arith, ◌⊎◌, inl, inr}
use Rattle.std.specs.Prelude.{nat_le}
use Rattle.std.specs.List.{AllByRecursion}
use Rattle.std.proofs.lemmas.Bool.{le-leb}
use Rattle.std.proofs.lemmas.Bool.Decides.{leb_tells}
use Rattle.domain_base.specs.declared.names.Node.{Node}
use Rattle.domain_base.specs.declared.names.Node.TheVariants.{Ap}
use Rattle.run_journal.specs.declared.domain.Event.{Event}
use Rattle.run_journal.specs.Acts.{same}
use Rattle.domain_rules.specs.Rounds.{is_not_behind}
use Rattle.domain_world.specs.Ordering.{node_of, put_in, by_nodes}
use Rattle.domain_rules.proofs.Parts.{same-refl, same-other, same-true}
use Rattle.domain_world.specs.Waiting.{events_at, events_below, AreAtAps}

-- ---- they are in order

abbrev IsAt : ℕ → Event → Type 0
IsAt k e = node_of e ≡ Ap k

abbrev IsBelow : ℕ → Event → Type 0
IsBelow m e = (k : ℕ) × (k < m) × (node_of e ≡ Ap k)

lt-leb : (k m : ℕ) → m < k → nat_le k m ≡ false
lt-leb k m low = elim (leb_tells k m) [ inl w ↦ absurd (omega (arith, w.1)) | inr w ↦ w.0 ]

-- one comes before those of an access point that is not before its own
put_by : (b : Bool) (e y : Event) (ys : List Event) → b ≡ true → cond b (e ∷ y ∷ ys) (y ∷ put_in e ys) ≡ e ∷ y ∷ ys
put_by true e y ys is = refl
put_by false e y ys is = absurd (cc is)

skip_by : (b : Bool) (e y : Event) (ys : List Event) → b ≡ false → cond b (e ∷ y ∷ ys) (y ∷ put_in e ys) ≡ y ∷ put_in e ys
skip_by false e y ys is = refl
skip_by true e y ys is = absurd (cc is)

not_behind : (e y : Event) (k m : ℕ) → node_of e ≡ Ap k → node_of y ≡ Ap m → k ≤ m → is_not_behind (node_of e) (node_of y) ≡ true
not_behind e y k m at there low =
    ap (λ (n : Node). is_not_behind n (node_of y)) at ∙ ap (λ (n : Node). is_not_behind (Ap k) n) there ∙ le-leb k m low

behind : (e y : Event) (k m : ℕ) → node_of e ≡ Ap k → node_of y ≡ Ap m → m < k → is_not_behind (node_of e) (node_of y) ≡ false
behind e y k m at there low =
    ap (λ (n : Node). is_not_behind n (node_of y)) at ∙ ap (λ (n : Node). is_not_behind (Ap k) n) there ∙ lt-leb k m low

put_first : (e : Event) (k m : ℕ) (ys : List Event) → node_of e ≡ Ap k → k ≤ m → AllByRecursion (IsAt m) ys → put_in e ys ≡ e ∷ ys
put_first e k m [] at low all = refl
put_first e k m (y ∷ ys) at low all = put_by (is_not_behind (node_of e) (node_of y)) e y ys (not_behind e y k m at all.0 low)

push_by : (b : Bool) (e x : Event) (xs ys zs : List Event) → put_in e zs ≡ put_in e xs ++ ys → zs ≡ xs ++ ys → cond b (e ∷ x ∷ zs) (x ∷ put_in e zs) ≡ cond b (e ∷ x ∷ xs) (x ∷ put_in e xs) ++ ys
push_by true e x xs ys zs is all = ap (λ (l : List Event). e ∷ x ∷ l) all
push_by false e x xs ys zs is all = ap (λ (l : List Event). x ∷ l) is

put_in_front : (e : Event) (k m : ℕ) (xs ys : List Event) → node_of e ≡ Ap k → k ≤ m → AllByRecursion (IsAt m) ys → put_in e (xs ++ ys) ≡ put_in e xs ++ ys
put_in_front e k m [] ys at low all = put_first e k m ys at low all
put_in_front e k m (x ∷ xs) ys at low all =
    push_by (is_not_behind (node_of e) (node_of x)) e x xs ys (xs ++ ys) (put_in_front e k m xs ys at low all) refl

put_behind : (e : Event) (k : ℕ) (xs ys : List Event) → node_of e ≡ Ap k → AllByRecursion (IsBelow k) xs → put_in e (xs ++ ys) ≡ xs ++ put_in e ys
put_behind e k [] ys at all = refl
put_behind e k (x ∷ xs) ys at all =
    skip_by (is_not_behind (node_of e) (node_of x)) e x (xs ++ ys) (behind e x k all.0.0 at all.0.2 all.0.1)
    ∙ ap (λ (l : List Event). x ∷ l) (put_behind e k xs ys at all.1)

-- those at an access point are there, those below are at one of them
kept_at : (b : Bool) (k : ℕ) (e : Event) (xs : List Event) → (b ≡ true → IsAt k e) → AllByRecursion (IsAt k) xs → AllByRecursion (IsAt k) (cond b (e ∷ xs) xs)
kept_at true k e xs is all = (is refl, all)
kept_at false k e xs is all = all

same_ap : (k : ℕ) (n : Node) → same (Ap k) n ≡ true → n ≡ Ap k
same_ap k n is = sym (same-true (Ap k) n is)

are_at : (k : ℕ) (es : List Event) → AllByRecursion (IsAt k) (events_at k es)
are_at k [] = tt
are_at k (e ∷ es) = kept_at (same (Ap k) (node_of e)) k e (events_at k es) (same_ap k (node_of e)) (are_at k es)

all_both : (P : Event → Type 0) (xs ys : List Event) → AllByRecursion P xs → AllByRecursion P ys → AllByRecursion P (xs ++ ys)
all_both P [] ys all more = more
all_both P (x ∷ xs) ys all more = (all.0, all_both P xs ys all.1 more)

all_more : (P Q : Event → Type 0) (xs : List Event) → ((e : Event) → P e → Q e) → AllByRecursion P xs → AllByRecursion Q xs
all_more P Q [] from all = tt
all_more P Q (x ∷ xs) from all = (from x all.0, all_more P Q xs from all.1)

are_below : (m : ℕ) (es : List Event) → AllByRecursion (IsBelow m) (events_below m es)
are_below zero es = tt
are_below (suc m) es =
    all_both (IsBelow (suc m)) (events_below m es) (events_at m es)
    (all_more (IsBelow m) (IsBelow (suc m)) (events_below m es) (λ e is. (is.0, omega (arith, is.1), is.2)) (are_below m es))
    (all_more (IsAt m) (IsBelow (suc m)) (events_at m es) (λ e is. (m, omega arith, is)) (are_at m es))

-- an event at another access point, or at none of the first
other_aps : (k m : ℕ) → (k ≡ m → ⊥) → same (Ap m) (Ap k) ≡ false
other_aps k m other = same-other (Ap m) (Ap k) (λ (is : Ap m ≡ Ap k). other (cc is))

at_elsewhere : (e : Event) (k m : ℕ) (es : List Event) → node_of e ≡ Ap k → (k ≡ m → ⊥) → events_at m (e ∷ es) ≡ events_at m es
at_elsewhere e k m es at other =
    ap (λ (n : Node). cond (same (Ap m) n) (e ∷ events_at m es) (events_at m es)) at
    ∙ ap (λ b. cond b (e ∷ events_at m es) (events_at m es)) (other_aps k m other)

at_itself : (e : Event) (k : ℕ) (es : List Event) → node_of e ≡ Ap k → events_at k (e ∷ es) ≡ e ∷ events_at k es
at_itself e k es at =
    ap (λ (n : Node). cond (same (Ap k) n) (e ∷ events_at k es) (events_at k es)) at
    ∙ ap (λ b. cond b (e ∷ events_at k es) (events_at k es)) (same-refl (Ap k))

below_elsewhere : (e : Event) (k m : ℕ) (es : List Event) → node_of e ≡ Ap k → m ≤ k → events_below m (e ∷ es) ≡ events_below m es
below_elsewhere e k zero es at high = refl
below_elsewhere e k (suc m) es at high =
    ap (λ (l : List Event). l ++ events_at m (e ∷ es)) (below_elsewhere e k m es at (omega arith))
    ∙ ap (λ (l : List Event). events_below m es ++ l) (at_elsewhere e k m es at (λ is. omega arith))

le-split : (k m : ℕ) → k ≤ m → (k < m) ⊎ (k ≡ m)
le-split zero zero low = inr refl
le-split zero (suc m) low = inl (omega arith)
le-split (suc k) zero low = absurd (omega arith)
le-split (suc k) (suc m) low = elim (le-split k m (omega arith)) [ inl less ↦ inl (omega (arith, less)) | inr is ↦ inr (ap suc is) ]

put_last : (e : Event) (k m : ℕ) (es : List Event) → node_of e ≡ Ap k → k ≡ m → put_in e (events_below m es ++ events_at m es) ≡ events_below (suc m) (e ∷ es)
put_last e k m es at is =
    let here : node_of e ≡ Ap m = at ∙ ap Ap is in
    put_behind e m (events_below m es) (events_at m es) here (are_below m es)
    ∙ ap (λ (l : List Event). events_below m es ++ l) (put_first e m m (events_at m es) here (omega arith) (are_at m es))
    ∙ ap (λ (l : List Event). events_below m es ++ l) (sym (at_itself e m es here))
    ∙ ap (λ (l : List Event). l ++ events_at m (e ∷ es)) (sym (below_elsewhere e m m es here (omega arith)))

none_below : (n : ℕ) → events_below n [] ≡ []
none_below zero = refl
none_below (suc n) = ap (λ (l : List Event). l ++ []) (none_below n)

put_below : (e : Event) (k m : ℕ) (es : List Event) → node_of e ≡ Ap k → k < m → put_in e (events_below m es) ≡ events_below m (e ∷ es)
put_below e k zero es at low = absurd (omega arith)
put_below e k (suc m) es at low = elim (le-split k m (omega arith)) [
  | inl less ↦ put_in_front e k m (events_below m es) (events_at m es) at (omega (arith, less)) (are_at m es)
      ∙ ap (λ (l : List Event). l ++ events_at m es) (put_below e k m es at less)
      ∙ ap (λ (l : List Event). events_below m (e ∷ es) ++ l) (sym (at_elsewhere e k m es at (λ is. omega (arith, less))))
  | inr is ↦ put_last e k m es at is
]

pub in_order : (n : ℕ) (es : List Event) → AreAtAps n es → events_below n es ≡ by_nodes es
in_order n [] all = none_below n
in_order n (e ∷ es) all = sym (put_below e all.0.0 n es all.0.2 all.0.1) ∙ ap (put_in e) (in_order n es all.1)
