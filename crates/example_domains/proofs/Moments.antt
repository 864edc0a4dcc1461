-- Key holders answer rightly in a journal that grows, where each look is answered by what the holder has just then.
use Rattle.std.proofs.Common.{◌≡◌, ℕ, ◌≤◌, Bool, true, false, cond, List, [], ◌∷◌, Option, Some, None, refl, sym, ap, subst, arith, inl, inr}
use Rattle.std.specs.Prelude.{not, ◌&&◌, ◌||◌}
use Rattle.domain_base.specs.declared.names.Node.{Node}
use Rattle.domain_rules.proofs.Parts.{same-refl}
use Rattle.domain_rules.specs.Explained.{number_of, push}
use Rattle.domain_rules.specs.HeldRight.{puts_row, stands_here, Looking, looking, AnswersAt, SomeMoment, AnsweredBySome, InTimeAt, AllInTime, AnsweredInTime, GivesRightKey}
use Rattle.domain_rules.specs.Network.{holder_of}
use Rattle.domain_rules.specs.Present.{present, earlier}
use Rattle.domain_rules.proofs.PresentNetwork.{earlier_entry}
use Rattle.key_hierarchy.specs.declared.answers.PullAnswer.{PullAnswer}
use Rattle.run_journal.specs.Acts.{same}
use Rattle.run_journal.specs.Holders.{is_ended, answer_of, answers}
use Rattle.run_journal.specs.Premises.{In}
use Rattle.run_journal.specs.Questions.{history, listed}
use Rattle.run_journal.specs.declared.acts.Act.TheVariants.{Looked}
use Rattle.run_journal.specs.declared.acts.Act.{Act}
use Rattle.run_journal.specs.declared.acts.Entry.{Entry}
use Rattle.run_journal.specs.declared.domain.Domain.{Domain}

-- ---- what a holder has, by the history of its access point

abbrev pub stands_in : List ℕ → Node → List Act → Bool
stands_in name p [] = false
stands_in name p (e ∷ h) = puts_row name p e || (not (is_ended name e) && stands_in name p h)

stands_entry : (name : List ℕ) (p : Node) (e : Act) (h : List Act) (s : Bool) → s ≡ stands_in name p h → (b : Bool) → ((b && puts_row name p e) || (not (b && is_ended name e) && s)) ≡ stands_in name p (cond b (e ∷ h) h)
stands_entry name p e h s is true = ap (λ (x : Bool). puts_row name p e || (not (is_ended name e) && x)) is
stands_entry name p e h s is false = is

pub stands_by : (r : Node) (name : List ℕ) (p : Node) (j : List Entry) → stands_here r name p j ≡ stands_in name p (history r j)
stands_by r name p [] = refl
stands_by r name p (e ∷ past) = stands_entry name p e.act (history r past) (stands_here r name p past) (stands_by r name p past) (same r e.node)

-- ---- one more entry

-- no entry is of a later round
abbrev pub IsLow : ℕ → List Entry → Type 0
IsLow round j = (m : Entry) → In m j → m.round ≤ round

-- the look, if the entry is one, is answered rightly
abbrev pub IsRight : Domain → Entry → List Entry → Type 0
IsRight d e past = InTimeAt d (e ∷ past) e past

by_either : (own : Bool) (A B C : Type 0) → (B → C) → cond own A B → cond own A C
by_either true A B C f x = x
by_either false A B C f x = f x

pub moment_stays : (r : Node) (l : Looking) (answer : PullAnswer) (j : List Entry) (e : Entry) → l.round ≤ e.round → SomeMoment r l answer j → SomeMoment r l answer (e ∷ j)
moment_stays r l answer j e low w = record {
  since = e ∷ w.since;
  at = w.at;
  cut = ap (λ (x : List Entry). e ∷ x) w.cut;
  before = w.before;
  behind = λ m there own. elim there [ inl here ↦ subst (λ (x : Entry). l.round ≤ x.round) (sym here) low | inr later ↦ w.behind m later own ];
  answers = w.answers;
}

pub answer_stays : (o : Option Node) (l : Looking) (answer : PullAnswer) (past j : List Entry) (e : Entry) → l.round ≤ e.round → AnsweredBySome o l answer past j → AnsweredBySome o l answer past (e ∷ j)
answer_stays None l answer past j e low is = is
answer_stays (Some r) l answer past j e low is =
    by_either (same r l.node) (AnswersAt r l answer past) (SomeMoment r l answer j) (SomeMoment r l answer (e ∷ j)) (moment_stays r l answer j e low) is

key_stays : (d : Domain) (id : List ℕ) (l : Looking) (answer : PullAnswer) (x e : Entry) (j : List Entry) → x.round ≤ e.round → GivesRightKey (present d (earlier x.round j)) id l answer → GivesRightKey (present d (earlier x.round (e ∷ j))) id l answer
key_stays d id l answer x e j low right = subst (λ (i : List Entry). GivesRightKey (present d i) id l answer) (sym (earlier_entry x.round e j low)) right

-- what was right before the entry stays so
pub all_stay : (d : Domain) (j end : List Entry) (e : Entry) → IsLow e.round end → AllInTime d j end → AllInTime d (e ∷ j) end
unfolding AllInTime
all_stay d j [] e low all = tt
all_stay d j (x ∷ end) e low all = (
  λ id name p answer looks. (let w = all.0 id name p answer looks in (answer_stays (holder_of d id) (looking x name p) answer end j e (low x (inl refl)) w.0, key_stays d id (looking x name p) answer x e j (low x (inl refl)) w.1)),
  all_stay d j end e (λ m there. low m (inr there)) all.1,
)

pub right_entry : (d : Domain) (past : List Entry) (e : Entry) → AnsweredInTime d past → IsLow e.round past → IsRight d e past → AnsweredInTime d (e ∷ past)
unfolding AllInTime
right_entry d past e right low is = (is, all_stay d past past e low right)

pub right_none : (d : Domain) → AnsweredInTime d []
unfolding AllInTime
right_none d = tt

-- ---- a group of acts

abbrev pub entry_of : ℕ → Node → Act → List Entry → Entry
entry_of round n e past = record { round = round; node = n; number = number_of e past; act = e }

abbrev pub LooksRight : Domain → ℕ → Node → List Act → List Entry → Type 0
LooksRight d round n [] past = Unit {0}
LooksRight d round n (e ∷ g) past = IsRight d (entry_of round n e past) past × LooksRight d round n g (entry_of round n e past ∷ past)

pub no_look : (d : Domain) (e : Entry) (past : List Entry) → answer_of e.act ≡ None → IsRight d e past
no_look d e past none = λ id name p answer looks. absurd (cc (none, ap answer_of looks))

pub none_by : (o : Option PullAnswer) (xs : List PullAnswer) → listed o xs ≡ [] → (o ≡ None) × (xs ≡ [])
none_by None xs is = (refl, is)
none_by (Some x) xs is = absurd (cc is)

-- without a look
pub quiet : (d : Domain) (round : ℕ) (n : Node) (g : List Act) (past : List Entry) → answers g ≡ [] → LooksRight d round n g past
quiet d round n [] past none = tt
quiet d round n (e ∷ g) past none =
    let w = none_by (answer_of e) (answers g) none in (no_look d (entry_of round n e past) past w.0, quiet d round n g (entry_of round n e past ∷ past) w.1)

low_entry : (round : ℕ) (past : List Entry) (e : Entry) → e.round ≤ round → IsLow round past → IsLow round (e ∷ past)
low_entry round past e is low = λ m there. elim there [ inl here ↦ subst (λ (x : Entry). x.round ≤ round) (sym here) is | inr later ↦ low m later ]

pub low_push : (round : ℕ) (n : Node) (g : List Act) (past : List Entry) → IsLow round past → IsLow round (push round n g past)
low_push round n [] past low = low
low_push round n (e ∷ g) past low = low_push round n g (entry_of round n e past ∷ past) (low_entry round past (entry_of round n e past) (omega arith) low)

pub right_push : (d : Domain) (round : ℕ) (n : Node) (g : List Act) (past : List Entry) → AnsweredInTime d past → IsLow round past → LooksRight d round n g past → AnsweredInTime d (push round n g past)
right_push d round n [] past right low is = right
right_push d round n (e ∷ g) past right low is =
    right_push d round n g (entry_of round n e past ∷ past) (right_entry d past (entry_of round n e past) right low is.0) (low_entry round past (entry_of round n e past) (omega arith) low) is.1

-- ---- a look that is answered

-- by another holder, as it has the row or not
pub elsewhere : (d : Domain) (e : Entry) (past : List Entry) (r : Node) (id name : List ℕ) (p : Node) (answer : PullAnswer) → e.act ≡ Looked id name p answer → holder_of d id ≡ Some r → same r e.node ≡ false
    → IsLow e.round past → AnswersAt r (looking e name p) answer past → GivesRightKey (present d (earlier e.round (e ∷ past))) id (looking e name p) answer → IsRight d e past
elsewhere d e past r id name p answer is holds other low answers_now right = λ x y q z looks.
    (let same_id : id ≡ x = cc (is, looks) in
    let same_name : name ≡ y = cc (is, looks) in
    let same_node : p ≡ q = cc (is, looks) in
    let same_answer : answer ≡ z = cc (is, looks) in
    let moment : SomeMoment r (looking e name p) answer (e ∷ past) =
    record {
      since = e ∷ [];
      at = past;
      cut = refl;
      before = λ m there own. low m there;
      behind = λ m there own. elim there [ inl here ↦ subst (λ (v : Entry). e.round ≤ v.round) (sym here) (omega arith) | inr none ↦ absurd none ];
      answers = answers_now;
    } in
    let by : AnsweredBySome (Some r) (looking e name p) answer past (e ∷ past) = subst (λ (b : Bool). cond b (AnswersAt r (looking e name p) answer past) (SomeMoment r (looking e name p) answer (e ∷ past))) (sym other) moment in
    let both : AnsweredBySome (holder_of d id) (looking e name p) answer past (e ∷ past) × GivesRightKey (present d (earlier e.round (e ∷ past))) id (looking e name p) answer =
    (subst (λ (o : Option Node). AnsweredBySome o (looking e name p) answer past (e ∷ past)) (sym holds) by, right) in
    subst (λ (v : PullAnswer). AnsweredBySome (holder_of d x) (looking e y q) v past (e ∷ past) × GivesRightKey (present d (earlier e.round (e ∷ past))) x (looking e y q) v) same_answer
    (subst (λ (v : Node). AnsweredBySome (holder_of d x) (looking e y v) answer past (e ∷ past) × GivesRightKey (present d (earlier e.round (e ∷ past))) x (looking e y v) answer) same_node
    (subst (λ (v : List ℕ). AnsweredBySome (holder_of d x) (looking e v p) answer past (e ∷ past) × GivesRightKey (present d (earlier e.round (e ∷ past))) x (looking e v p) answer) same_name
    (subst (λ (v : List ℕ). AnsweredBySome (holder_of d v) (looking e name p) answer past (e ∷ past) × GivesRightKey (present d (earlier e.round (e ∷ past))) v (looking e name p) answer) same_id both))))

-- by the own holder
pub at_home : (d : Domain) (e : Entry) (past : List Entry) (id name : List ℕ) (p : Node) (answer : PullAnswer) → e.act ≡ Looked id name p answer → holder_of d id ≡ Some e.node
    → AnswersAt e.node (looking e name p) answer past → GivesRightKey (present d (earlier e.round (e ∷ past))) id (looking e name p) answer → IsRight d e past
at_home d e past id name p answer is holds answers_now right = λ x y q z looks.
    (let same_id : id ≡ x = cc (is, looks) in
    let same_name : name ≡ y = cc (is, looks) in
    let same_node : p ≡ q = cc (is, looks) in
    let same_answer : answer ≡ z = cc (is, looks) in
    let by : AnsweredBySome (Some e.node) (looking e name p) answer past (e ∷ past) = subst (λ (b : Bool). cond b (AnswersAt e.node (looking e name p) answer past) (SomeMoment e.node (looking e name p) answer (e ∷ past))) (sym (same-refl e.node)) answers_now in
    let both : AnsweredBySome (holder_of d id) (looking e name p) answer past (e ∷ past) × GivesRightKey (present d (earlier e.round (e ∷ past))) id (looking e name p) answer =
    (subst (λ (o : Option Node). AnsweredBySome o (looking e name p) answer past (e ∷ past)) (sym holds) by, right) in
    subst (λ (v : PullAnswer). AnsweredBySome (holder_of d x) (looking e y q) v past (e ∷ past) × GivesRightKey (present d (earlier e.round (e ∷ past))) x (looking e y q) v) same_answer
    (subst (λ (v : Node). AnsweredBySome (holder_of d x) (looking e y v) answer past (e ∷ past) × GivesRightKey (present d (earlier e.round (e ∷ past))) x (looking e y v) answer) same_node
    (subst (λ (v : List ℕ). AnsweredBySome (holder_of d x) (looking e v p) answer past (e ∷ past) × GivesRightKey (present d (earlier e.round (e ∷ past))) x (looking e v p) answer) same_name
    (subst (λ (v : List ℕ). AnsweredBySome (holder_of d v) (looking e name p) answer past (e ∷ past) × GivesRightKey (present d (earlier e.round (e ∷ past))) v (looking e name p) answer) same_id both))))
