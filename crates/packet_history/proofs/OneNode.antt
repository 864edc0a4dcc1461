-- The parts of safety are told by the entries of one node.
use Rattle.std.proofs.Common.{◌≡◌, ◌↔◌, Bool, true, false, cond, List, [], ◌∷◌, Option, Some, refl, sym, ap, ◌∙◌, subst, inl, inr}
use Rattle.std.proofs.lemmas.Bool.{eqb-true, eq-eqb}
use Rattle.domain_base.specs.declared.names.Node.{Node}
use Rattle.domain_base.specs.declared.names.Node.TheVariants.{Ap, Sta}
use Rattle.key_hierarchy.specs.declared.inputs.Inputs.{Inputs}
use Rattle.run_journal.specs.declared.acts.Act.{Act}
use Rattle.run_journal.specs.declared.acts.Act.TheVariants.{Finished}
use Rattle.run_journal.specs.declared.acts.Entry.{Entry}
use Rattle.run_journal.specs.Acts.{same}
use Rattle.run_journal.specs.Premises.{In}
use Rattle.run_journal.specs.Safe.{Use, up_from, InstallsNew, UsesNew, Once, JoinedAt, SourcedAt, DerivedBefore, UsedBefore}
use Rattle.packet_history.specs.Own.{entries_at, InstallsNewIn, UsesNewIn, OnceIn, DerivesBefore, JoinedIn, UsesBefore, SourcedIn}
use Rattle.packet_history.proofs.Own.{some_in, in_some}

same_true : (p q : Node) → same p q ≡ true → p ≡ q
same_true (Ap k) (Ap m) e = ap Ap (eqb-true k m e)
same_true (Sta k) (Sta m) e = ap Sta (eqb-true k m e)
same_true (Ap k) (Sta m) e = cc
same_true (Sta k) (Ap m) e = cc

same_itself : (p : Node) → same p p ≡ true
same_itself (Ap k) = eq-eqb k k refl
same_itself (Sta k) = eq-eqb k k refl

by_test : (b : Bool) {C : Type 0} → (b ≡ true → C) → (b ≡ false → C) → C
by_test true here there = here refl
by_test false here there = there refl

taken : (n : Node) (e : Entry) (past : List Entry) → same n e.node ≡ true → entries_at n (e ∷ past) ≡ e ∷ entries_at n past
taken n e past is = ap (λ (b : Bool). cond b (e ∷ entries_at n past) (entries_at n past)) is

left_out : (n : Node) (e : Entry) (past : List Entry) → same n e.node ≡ false → entries_at n (e ∷ past) ≡ entries_at n past
left_out n e past is = ap (λ (b : Bool). cond b (e ∷ entries_at n past) (entries_at n past)) is

-- the entries of a node are those that are at it
in_at : (n : Node) (past : List Entry) (m : Entry) → In m (entries_at n past) → In m past × (m.node ≡ n)
in_at n [] m there = absurd there
in_at n (e ∷ past) m there = by_test (same n e.node)
    (λ mine. (let w : In m (e ∷ entries_at n past) = subst (λ (l : List Entry). In m l) (taken n e past mine) there in elim w [
      | inl here ↦ (inl here, ap (λ (x : Entry). x.node) here ∙ sym (same_true n e.node mine))
      | inr more ↦ (let v = in_at n past m more in (inr v.0, v.1))
    ]))
    (λ other. (let v = in_at n past m (subst (λ (l : List Entry). In m l) (left_out n e past other) there) in (inr v.0, v.1)))

at_in : (n : Node) (past : List Entry) (m : Entry) → In m past → m.node ≡ n → In m (entries_at n past)
at_in n [] m there is = there
at_in n (e ∷ past) m (inl here) is =
    let mine : same n e.node ≡ true = ap (same n) (ap (λ (x : Entry). x.node) (sym here) ∙ is) ∙ same_itself n in
    subst (λ (l : List Entry). In m l) (sym (taken n e past mine)) (inl here)
at_in n (e ∷ past) m (inr there) is = by_test (same n e.node)
    (λ mine. subst (λ (l : List Entry). In m l) (sym (taken n e past mine)) (inr (at_in n past m there is)))
    (λ other. subst (λ (l : List Entry). In m l) (sym (left_out n e past other)) (at_in n past m there is))

-- ---- one node

pub installs : (e : Entry) (past : List Entry) → InstallsNew e past ↔ InstallsNewIn e.act (entries_at e.node past)
installs e past = (
  λ new m key there is too. (let w = in_at e.node past m there in new m key w.0 w.1 is too),
  λ new m key there at is too. new m key (at_in e.node past m there at) is too,
)

pub uses : (f : Act → Option Use) (e : Entry) (past : List Entry) → UsesNew f e past ↔ UsesNewIn f e.act (entries_at e.node past)
uses f e past = (
  λ new m u v there is too key number. (let w = in_at e.node past m there in new m u v w.0 w.1 is too key number),
  λ new m u v there at is too key number. new m u v (at_in e.node past m there at) is too key number,
)

pub once : (f : Act → Option Use) (n : Node) (j : List Entry) → Once f j → OnceIn f (entries_at n j)
once f n [] all = tt
once f n (e ∷ past) all = by_test (same n e.node)
    (λ mine.
    (let there : e.node ≡ n = sym (same_true n e.node mine) in
    let new : UsesNewIn f e.act (entries_at n past) = subst (λ (x : Node). UsesNewIn f e.act (entries_at x past)) there ((uses f e past).0 all.0) in
    subst (λ (l : List Entry). OnceIn f l) (sym (taken n e past mine)) (new, once f n past all.1)))
    (λ other. subst (λ (l : List Entry). OnceIn f l) (sym (left_out n e past other)) (once f n past all.1))

-- ---- another node

pub joined : (e : Entry) (p : Node) (i : Inputs) (past : List Entry) → e.act ≡ Finished p i → JoinedAt e past ↔ JoinedIn e (entries_at p past)
joined e p i past is = (
  λ at q k too.
      (let w : DerivedBefore q k e past = at q k too in
      let peer : q ≡ p = (let both : Finished q k ≡ Finished p i = sym too ∙ is in cc both) in
      some_in (DerivesBefore k e) (entries_at p past) w.entry (at_in p past w.entry w.there (w.at ∙ peer)) (w.before, w.is)),
  λ own q k too.
      (let w = in_some (DerivesBefore k e) (entries_at p past) (own q k too) in
      let v = in_at p past w.0 w.1.0 in
      let peer : q ≡ p = (let both : Finished q k ≡ Finished p i = sym too ∙ is in cc both) in
      record { entry = w.0; there = v.0; before = w.1.1.0; at = v.1 ∙ sym peer; is = w.1.1.1 }),
)

pub sourced : (e : Entry) (p : Node) (past : List Entry) → up_from e.act ≡ Some p → SourcedAt e past ↔ SourcedIn e (entries_at p past)
sourced e p past from = (
  λ at u up.
      (let w : UsedBefore p u e past = at p u up from in
      some_in (UsesBefore u e) (entries_at p past) w.entry (at_in p past w.entry w.there w.at) (w.before, w.is)),
  λ own q u up too.
      (let w = in_some (UsesBefore u e) (entries_at p past) (own u up) in
      let v = in_at p past w.0 w.1.0 in
      let peer : q ≡ p = (let both : Some q ≡ Some p = sym too ∙ from in cc both) in
      record { entry = w.0; there = v.0; before = w.1.1.0; at = v.1 ∙ sym peer; is = w.1.1.1 }),
)
