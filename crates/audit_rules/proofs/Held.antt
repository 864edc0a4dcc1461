-- Whether a look is answered rightly is told when its round is over: entries of later rounds change nothing.
use Rattle.std.proofs.Common.{◌≡◌, ℕ, suc, ◌≤◌, ◌<◌, Bool, true, false, cond, List, [], ◌∷◌, Option, Some, None, refl, sym, subst, ◌∙◌, arith, inl, inr}
use Rattle.std.proofs.lemmas.Bool.{le-ltb}
use Rattle.domain_base.specs.declared.names.Node.{Node}
use Rattle.key_hierarchy.specs.declared.answers.PullAnswer.{PullAnswer}
use Rattle.key_hierarchy.specs.declared.answers.PullAnswer.TheVariants.{Found, NoHolder, Absent}
use Rattle.run_journal.specs.declared.domain.Domain.{Domain}
use Rattle.run_journal.specs.declared.acts.Entry.{Entry}
use Rattle.run_journal.specs.Acts.{same}
use Rattle.run_journal.specs.Premises.{In}
use Rattle.domain_rules.specs.Due.{onto}
use Rattle.domain_rules.specs.Network.{holder_of}
use Rattle.domain_rules.specs.Present.{present, earlier}
use Rattle.domain_rules.specs.HeldRight.{Looking, looking, stands, AnswersAt, AnsweredElsewhere, AnsweredBy, GivesRightKey, HeldAt, AllHeld}
use Rattle.domain_rules.proofs.PresentNetwork.{earlier_entry}

passed_over : (r : Node) (name : List ℕ) (p : Node) (before since : ℕ) (x : Entry) (j : List Entry) (b : Bool) → same r x.node ≡ b → before ≤ x.round → since ≤ x.round
    → stands r name p before since (x ∷ j) ≡ stands r name p before since j
passed_over r name p before since x j true is early late_ = rw (is, le-ltb x.round before early, le-ltb x.round since late_) refl
passed_over r name p before since x j false is early late_ = rw is refl

elsewhere : (r : Node) (l : Looking) (answer : PullAnswer) (x : Entry) (j : List Entry) → suc l.round ≤ x.round → AnsweredElsewhere r l answer j → AnsweredElsewhere r l answer (x ∷ j)
elsewhere r l (Found k) x j late_ is = passed_over r l.name l.sta (suc l.round) l.round x j (same r x.node) refl late_ (omega (arith, late_)) ∙ is
elsewhere r l Absent x j late_ is = passed_over r l.name l.sta l.round (suc l.round) x j (same r x.node) refl (omega (arith, late_)) late_ ∙ is
elsewhere r l NoHolder x j late_ is = is

elsewhere_back : (r : Node) (l : Looking) (answer : PullAnswer) (x : Entry) (j : List Entry) → suc l.round ≤ x.round → AnsweredElsewhere r l answer (x ∷ j) → AnsweredElsewhere r l answer j
elsewhere_back r l (Found k) x j late_ is = sym (passed_over r l.name l.sta (suc l.round) l.round x j (same r x.node) refl late_ (omega (arith, late_))) ∙ is
elsewhere_back r l Absent x j late_ is = sym (passed_over r l.name l.sta l.round (suc l.round) x j (same r x.node) refl (omega (arith, late_)) late_) ∙ is
elsewhere_back r l NoHolder x j late_ is = is

by_second : (b : Bool) (A B C : Type 0) → (B → C) → cond b A B → cond b A C
by_second true A B C f x = x
by_second false A B C f x = f x

answered : (o : Option Node) (l : Looking) (answer : PullAnswer) (past : List Entry) (x : Entry) (j : List Entry) → suc l.round ≤ x.round → AnsweredBy o l answer past j → AnsweredBy o l answer past (x ∷ j)
answered None l answer past x j late_ is = is
answered (Some r) l answer past x j late_ is = by_second (same r l.node) (AnswersAt r l answer past) (AnsweredElsewhere r l answer j) (AnsweredElsewhere r l answer (x ∷ j)) (elsewhere r l answer x j late_) is

answered_back : (o : Option Node) (l : Looking) (answer : PullAnswer) (past : List Entry) (x : Entry) (j : List Entry) → suc l.round ≤ x.round → AnsweredBy o l answer past (x ∷ j) → AnsweredBy o l answer past j
answered_back None l answer past x j late_ is = is
answered_back (Some r) l answer past x j late_ is = by_second (same r l.node) (AnswersAt r l answer past) (AnsweredElsewhere r l answer (x ∷ j)) (AnsweredElsewhere r l answer j) (elsewhere_back r l answer x j late_) is

pub held_on : (d : Domain) (x : Entry) (j : List Entry) (e : Entry) (past : List Entry) → suc e.round ≤ x.round → HeldAt d j e past → HeldAt d (x ∷ j) e past
held_on d x j e past late_ is id name p answer at =
    let w = is id name p answer at in
    let same_ : earlier e.round (x ∷ j) ≡ earlier e.round j = earlier_entry e.round x j (omega (arith, late_)) in (
      answered (holder_of d id) (looking e name p) answer past x j late_ w.0,
      subst (λ (l : List Entry). GivesRightKey (present d l) id (looking e name p) answer) (sym same_) w.1,
    )

pub held_back : (d : Domain) (x : Entry) (j : List Entry) (e : Entry) (past : List Entry) → suc e.round ≤ x.round → HeldAt d (x ∷ j) e past → HeldAt d j e past
held_back d x j e past late_ is id name p answer at =
    let w = is id name p answer at in
    let same_ : earlier e.round (x ∷ j) ≡ earlier e.round j = earlier_entry e.round x j (omega (arith, late_)) in (
      answered_back (holder_of d id) (looking e name p) answer past x j late_ w.0,
      subst (λ (l : List Entry). GivesRightKey (present d l) id (looking e name p) answer) same_ w.1,
    )

all_next : (d : Domain) (x : Entry) (j past : List Entry) → ((m : Entry) → In m past → suc m.round ≤ x.round) → AllHeld d j past → AllHeld d (x ∷ j) past
unfolding AllHeld
all_next d x j [] late_ all = tt
all_next d x j (e ∷ past) late_ all = (held_on d x j e past (late_ e (inl refl)) all.0, all_next d x j past (λ m there. late_ m (inr there)) all.1)

-- of those that were there nothing changes by entries of a later round
pub all_on : (d : Domain) (round : ℕ) (told j past : List Entry) → ((m : Entry) → In m told → m.round ≡ round) → ((m : Entry) → In m past → m.round < round) → AllHeld d j past → AllHeld d (onto told j) past
all_on d round [] j past at before all = all
all_on d round (x ∷ told) j past at before all =
    let here_ : x.round ≡ round = at x (inl refl) in
    all_on d round told (x ∷ j) past (λ m there. at m (inr there)) before
    (all_next d x j past (λ m there. (let small : m.round < round = before m there in omega (arith, small, here_))) all)
