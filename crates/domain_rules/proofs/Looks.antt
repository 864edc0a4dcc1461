-- Where the answer to a look is what the holder had at some moment of the round, it is one that the round leaves free.
use Rattle.std.proofs.Common.{◌≡◌, ℕ, suc, ◌≤◌, Bool, true, false, cond, List, [], ◌∷◌, ◌++◌, Option, Some, None, refl, sym, ap, ◌∙◌, arith, inl, inr}
use Rattle.std.specs.Prelude.{not, ◌&&◌, ◌||◌, nat_lt}
use Rattle.std.proofs.lemmas.Bool.{lt-ltb, le-ltb}
use Rattle.domain_base.specs.declared.names.Node.{Node}
use Rattle.key_hierarchy.specs.declared.answers.PullAnswer.{PullAnswer}
use Rattle.key_hierarchy.specs.declared.answers.PullAnswer.TheVariants.{Found, NoHolder, Absent}
use Rattle.run_journal.specs.declared.domain.Domain.{Domain}
use Rattle.run_journal.specs.declared.acts.Entry.{Entry}
use Rattle.run_journal.specs.Acts.{same}
use Rattle.run_journal.specs.Holders.{is_ended}
use Rattle.domain_rules.specs.Network.{holder_of}
use Rattle.domain_rules.specs.HeldRight.{puts_row, stands, stands_here, Looking, looking, AnswersAt, AnsweredElsewhere, AnsweredBy, NoneLater, NoneEarlier, SomeMoment, AnsweredBySome, AllInTime, AnsweredInTime, AllHeld, HeldRight}
use Rattle.domain_rules.proofs.Parts.{same-true}

-- ---- by one act more

-- there is a row as before: the act is of that holder, in time for what was put and for what was ended, puts and ends
still_true : (b in_time early puts ends s t : Bool) → (b ≡ true → in_time ≡ true) → (s ≡ true → t ≡ true) → ((b && puts) || (not (b && ends) && s)) ≡ true → ((b && in_time && puts) || (not (b && early && ends) && t)) ≡ true
still_true false in_time early puts ends s t low more is = more is
still_true true true early true ends s t low more is = refl
still_true true false early puts ends s t low more is = absurd (cc (low refl))
still_true true true true false false s t low more is = more is
still_true true true false false false s t low more is = more is
still_true true true early false true s t low more is = absurd (cc is)

kept_true : (b in_time early puts ends t : Bool) → (b ≡ true → early ≡ false) → t ≡ true → ((b && in_time && puts) || (not (b && early && ends) && t)) ≡ true
kept_true false in_time early puts ends t high is = is
kept_true true in_time true puts ends t high is = absurd (cc (high refl))
kept_true true true false true ends t high is = refl
kept_true true true false false ends t high is = is
kept_true true false false puts ends t high is = is

still_false : (b early in_time puts ends s t : Bool) → (b ≡ true → in_time ≡ true) → (s ≡ false → t ≡ false) → ((b && puts) || (not (b && ends) && s)) ≡ false → ((b && early && puts) || (not (b && in_time && ends) && t)) ≡ false
still_false false early in_time puts ends s t low more is = more is
still_false true early in_time true ends s t low more is = absurd (cc is)
still_false true early false false ends s t low more is = absurd (cc (low refl))
still_false true true true false true s t low more is = refl
still_false true false true false true s t low more is = refl
still_false true true true false false s t low more is = more is
still_false true false true false false s t low more is = more is

kept_false : (b early in_time puts ends t : Bool) → (b ≡ true → early ≡ false) → t ≡ false → ((b && early && puts) || (not (b && in_time && ends) && t)) ≡ false
kept_false false early in_time puts ends t high is = is
kept_false true true in_time puts ends t high is = absurd (cc (high refl))
kept_false true false true puts true t high is = refl
kept_false true false true puts false t high is = is
kept_false true false false puts ends t high is = is

-- ---- by all acts

stood : (r : Node) (name : List ℕ) (p : Node) (k : ℕ) (at : List Entry) → NoneLater r k at → stands_here r name p at ≡ true → stands r name p (suc k) k at ≡ true
stood r name p k [] before is = absurd (cc is)
stood r name p k (e ∷ past) before is =
    still_true (same r e.node) (nat_lt e.round (suc k)) (nat_lt e.round k) (puts_row name p e.act) (is_ended name e.act) (stands_here r name p past) (stands r name p (suc k) k past)
    (λ own. lt-ltb e.round (suc k) (let low : e.round ≤ k = before e (inl refl) (sym (same-true r e.node own)) in omega (arith, low)))
    (stood r name p k past (λ m there. before m (inr there))) is

stands_on : (r : Node) (name : List ℕ) (p : Node) (k : ℕ) (since at : List Entry) → NoneEarlier r k since → stands r name p (suc k) k at ≡ true → stands r name p (suc k) k (since ++ at) ≡ true
stands_on r name p k [] at behind is = is
stands_on r name p k (e ∷ since) at behind is =
    kept_true (same r e.node) (nat_lt e.round (suc k)) (nat_lt e.round k) (puts_row name p e.act) (is_ended name e.act) (stands r name p (suc k) k (since ++ at))
    (λ own. le-ltb e.round k (behind e (inl refl) (sym (same-true r e.node own))))
    (stands_on r name p k since at (λ m there. behind m (inr there)) is)

stood_not : (r : Node) (name : List ℕ) (p : Node) (k : ℕ) (at : List Entry) → NoneLater r k at → stands_here r name p at ≡ false → stands r name p k (suc k) at ≡ false
stood_not r name p k [] before is = refl
stood_not r name p k (e ∷ past) before is =
    still_false (same r e.node) (nat_lt e.round k) (nat_lt e.round (suc k)) (puts_row name p e.act) (is_ended name e.act) (stands_here r name p past) (stands r name p k (suc k) past)
    (λ own. lt-ltb e.round (suc k) (let low : e.round ≤ k = before e (inl refl) (sym (same-true r e.node own)) in omega (arith, low)))
    (stood_not r name p k past (λ m there. before m (inr there))) is

stands_not : (r : Node) (name : List ℕ) (p : Node) (k : ℕ) (since at : List Entry) → NoneEarlier r k since → stands r name p k (suc k) at ≡ false → stands r name p k (suc k) (since ++ at) ≡ false
stands_not r name p k [] at behind is = is
stands_not r name p k (e ∷ since) at behind is =
    kept_false (same r e.node) (nat_lt e.round k) (nat_lt e.round (suc k)) (puts_row name p e.act) (is_ended name e.act) (stands r name p k (suc k) (since ++ at))
    (λ own. le-ltb e.round k (behind e (inl refl) (sym (same-true r e.node own))))
    (stands_not r name p k since at (λ m there. behind m (inr there)) is)

-- ---- the answers

elsewhere : (r : Node) (l : Looking) (answer : PullAnswer) (j : List Entry) → SomeMoment r l answer j → AnsweredElsewhere r l answer j
elsewhere r l (Found k) j w =
    ap (stands r l.name l.sta (suc l.round) l.round) w.cut ∙ stands_on r l.name l.sta l.round w.since w.at w.behind (stood r l.name l.sta l.round w.at w.before w.answers)
elsewhere r l Absent j w =
    ap (stands r l.name l.sta l.round (suc l.round)) w.cut ∙ stands_not r l.name l.sta l.round w.since w.at w.behind (stood_not r l.name l.sta l.round w.at w.before w.answers)
elsewhere r l NoHolder j w = w.answers

by_either : (own : Bool) (A B C : Type 0) → (B → C) → cond own A B → cond own A C
by_either true A B C f x = x
by_either false A B C f x = f x

answered : (o : Option Node) (l : Looking) (answer : PullAnswer) (past j : List Entry) → AnsweredBySome o l answer past j → AnsweredBy o l answer past j
answered None l answer past j is = is
answered (Some r) l answer past j is = by_either (same r l.node) (AnswersAt r l answer past) (SomeMoment r l answer j) (AnsweredElsewhere r l answer j) (elsewhere r l answer j) is

held_by : (d : Domain) (j end : List Entry) → AllInTime d j end → AllHeld d j end
unfolding AllInTime AllHeld
held_by d j [] right = tt
held_by d j (e ∷ past) right = (
  λ id name p answer is. (let w = right.0 id name p answer is in (answered (holder_of d id) (looking e name p) answer past j w.0, w.1)),
  held_by d j past right.1,
)

pub held_right : (d : Domain) (j : List Entry) → AnsweredInTime d j → HeldRight d j
held_right d j right = held_by d j j right
