-- Looks of a round that are answered by what key holders had at some moment of it.
use Rattle.std.proofs.Common.{◌≡◌, ℕ, ◌<◌, ◌≤◌, Bool, true, false, cond, List, [], ◌∷◌, ◌++◌, length, map, Option, Some, None, refl, sym, ap, ◌∙◌, subst, arith, inl, inr}
use Rattle.std.specs.Prelude.{bytes_eq, position, option_map}
use Rattle.std.specs.List.{AllByRecursion, list_any}
use Rattle.std.proofs.lemmas.Bool.{lt-ltb}
use Rattle.std.proofs.lemmas.Bool.Decides.{eqb_tells}
use Rattle.std.proofs.lemmas.List.{append_assoc}
use Rattle.std.proofs.lemmas.Option.{slice_get_within}
use Rattle.domain_base.specs.declared.names.Node.{Node}
use Rattle.domain_base.specs.declared.names.Node.TheVariants.{Ap, Sta}
use Rattle.key_hierarchy.specs.declared.answers.PullAnswer.{PullAnswer}
use Rattle.key_hierarchy.specs.declared.answers.PullAnswer.TheVariants.{NoHolder}
use Rattle.key_holders.specs.declared.rows.HeldRow.{HeldRow}
use Rattle.key_holders.specs.Rows.{is_in}
use Rattle.key_holders.specs.Listed.{below}
use Rattle.key_holders.specs.Pulls.{is_match, Answers}
use Rattle.key_holders.proofs.Listing.{below_in}
use Rattle.key_holders.proofs.Searches.{at_position}
use Rattle.run_journal.specs.declared.domain.Domain.{Domain}
use Rattle.run_journal.specs.declared.domain.ListedAp.{ListedAp}
use Rattle.run_journal.specs.declared.acts.Act.{Act}
use Rattle.run_journal.specs.declared.acts.Act.TheVariants.{Looked}
use Rattle.run_journal.specs.declared.acts.Entry.{Entry}
use Rattle.run_journal.specs.Acts.{same}
use Rattle.run_journal.specs.Questions.{history}
use Rattle.domain_rules.specs.Network.{IsNamed, mac, holder_of}
use Rattle.domain_rules.specs.HeldRight.{stands_here, Looking, looking, AnswersAt, SomeMoment, AnsweredBySome, GivesRightKey, NoneLater, NoneEarlier, InTimeAt, AllInTime, AnsweredInTime}
use Rattle.domain_rules.specs.Present.{present, earlier}
use Rattle.domain_rules.specs.Explained.{number_of, push}
use Rattle.domain_rules.proofs.PresentNetwork.{earlier_entry}
use Rattle.domain_rules.proofs.Parts.{same-true}
use Rattle.held_rows.specs.Knows.{IsOwn, KnowsRows, moves_rows, LeaveRows}
use Rattle.held_rows.specs.Looks.{IsNoLook, NoLooks, IsLookOf, AreLooked}
use Rattle.held_rows.proofs.Leaving.{one_left}
use Rattle.held_rows.proofs.Pulling.{stood, answers_by_holder, answers_as_stood, answers_no_holder}

-- no entry is of a later round, and none of an earlier one
abbrev pub UpTo : ℕ → List Entry → Type 0
UpTo round j = AllByRecursion (λ (e : Entry). e.round ≤ round) j

abbrev pub From : ℕ → List Entry → Type 0
From round j = AllByRecursion (λ (e : Entry). round ≤ e.round) j

none_later : (r : Node) (round : ℕ) (past : List Entry) → UpTo round past → NoneLater r round past
none_later r round [] low m there at = absurd there
none_later r round (x ∷ past) low m (inl here) at = subst (λ (y : Entry). y.round ≤ round) (sym here) low.0
none_later r round (x ∷ past) low m (inr there) at = none_later r round past low.1 m there at

none_earlier : (r : Node) (round : ℕ) (since : List Entry) → From round since → NoneEarlier r round since
none_earlier r round [] high m there at = absurd there
none_earlier r round (x ∷ since) high m (inl here) at = subst (λ (y : Entry). round ≤ y.round) (sym here) high.0
none_earlier r round (x ∷ since) high m (inr there) at = none_earlier r round since high.1 m there at

-- ---- the journal goes on

none_more : (r : Node) (round : ℕ) (more since : List Entry) → NoneEarlier r round more → NoneEarlier r round since → NoneEarlier r round (more ++ since)
none_more r round [] since a b m there at = b m there at
none_more r round (x ∷ more) since a b m (inl here) at = a m (inl here) at
none_more r round (x ∷ more) since a b m (inr there) at = none_more r round more since (λ y e. a y (inr e)) b m there at

some_on : (r : Node) (l : Looking) (answer : PullAnswer) (more j : List Entry) → NoneEarlier r l.round more → SomeMoment r l answer j → SomeMoment r l answer (more ++ j)
some_on r l answer more j behind w = record {
  since = more ++ w.since;
  at = w.at;
  cut = ap (λ (x : List Entry). more ++ x) w.cut ∙ sym (append_assoc more w.since w.at);
  before = w.before;
  behind = none_more r l.round more w.since behind w.behind;
  answers = w.answers;
}

by_second : (b : Bool) (A B C : Type 0) → (B → C) → cond b A B → cond b A C
by_second true A B C f x = x
by_second false A B C f x = f x

answered_on : (o : Option Node) (l : Looking) (answer : PullAnswer) (past more j : List Entry) → From l.round more → AnsweredBySome o l answer past j → AnsweredBySome o l answer past (more ++ j)
answered_on None l answer past more j high is = is
answered_on (Some r) l answer past more j high is =
    by_second (same r l.node) (AnswersAt r l answer past) (SomeMoment r l answer j) (SomeMoment r l answer (more ++ j)) (some_on r l answer more j (none_earlier r l.round more high)) is

from_less : (round earlier : ℕ) (more : List Entry) → earlier ≤ round → From round more → From earlier more
from_less round earlier [] low high = tt
from_less round earlier (x ∷ more) low high = (omega (arith, low, high.0), from_less round earlier more low high.1)

-- what is behind a round is not before it
earlier_on : (round : ℕ) (more j : List Entry) → From round more → earlier round (more ++ j) ≡ earlier round j
earlier_on round [] j high = refl
earlier_on round (x ∷ more) j high = earlier_entry round x (more ++ j) high.0 ∙ earlier_on round more j high.1

right_key_on : (d : Domain) (round : ℕ) (id : List ℕ) (l : Looking) (answer : PullAnswer) (more whole : List Entry) → From round more → GivesRightKey (present d (earlier round whole)) id l answer → GivesRightKey (present d (earlier round (more ++ whole))) id l answer
right_key_on d round id l answer more whole high right =
    subst (λ (j : List Entry). GivesRightKey (present d j) id l answer) (sym (earlier_on round more whole high)) right

pub right_on : (d : Domain) (round : ℕ) (more whole j : List Entry) → From round more → UpTo round j → AllInTime d whole j → AllInTime d (more ++ whole) j
unfolding AllInTime
right_on d round more whole [] high low all = tt
right_on d round more whole (e ∷ past) high low all = (
  λ id name p answer is.
      (let w = all.0 id name p answer is in
      let later = from_less round e.round more low.0 high in
      (answered_on (holder_of d id) (looking e name p) answer past more whole later w.0, right_key_on d e.round id (looking e name p) answer more whole later w.1)),
  right_on d round more whole past high low.1 all.1,
)

-- it went on by entries of that round or later ones
pub record Grown (round : ℕ) (j k : List Entry) : Type 0 where
  pub more : List Entry
  pub is : k ≡ more ++ j
  pub behind : From round more

pub same_grown : (round : ℕ) (j : List Entry) → Grown round j j
same_grown round j = record { more = []; is = refl; behind = tt }

all_append : (round : ℕ) (f g : List Entry) → From round f → From round g → From round (f ++ g)
all_append round [] g a b = b
all_append round (x ∷ f) g a b = (a.0, all_append round f g a.1 b)

pub grown_on : (round : ℕ) (i j k : List Entry) → Grown round i j → Grown round j k → Grown round i k
grown_on round i j k a b = record {
  more = b.more ++ a.more;
  is = b.is ∙ ap (λ (l : List Entry). b.more ++ l) a.is ∙ sym (append_assoc b.more a.more i);
  behind = all_append round b.more a.more b.behind a.behind;
}

pub grown_push : (round : ℕ) (n : Node) (g : List Act) (j : List Entry) → Grown round j (push round n g j)
grown_push round n [] j = same_grown round j
grown_push round n (act ∷ g) j =
    let e : Entry = record { round = round; node = n; number = number_of act j; act = act } in
    grown_on round j (e ∷ j) (push round n g (e ∷ j)) (record { more = e ∷ []; is = refl; behind = (omega arith, tt) }) (grown_push round n g (e ∷ j))

pub right_grown : (d : Domain) (round : ℕ) (j k : List Entry) → Grown round j k → UpTo round j → AllInTime d j j → AllInTime d k j
right_grown d round j k more low all = subst (λ (w : List Entry). AllInTime d w j) (sym more.is) (right_on d round more.more j j more.behind low all)

-- all entries are of earlier rounds
abbrev pub Below : ℕ → List Entry → Type 0
Below round j = AllByRecursion (λ (e : Entry). e.round < round) j

pub below_up : (round : ℕ) (j : List Entry) → Below round j → UpTo round j
below_up round [] below = tt
below_up round (e ∷ j) below = (omega (arith, below.0), below_up round j below.1)

earlier_all : (round : ℕ) (j : List Entry) → Below round j → earlier round j ≡ j
earlier_all round [] below = refl
earlier_all round (e ∷ j) below =
    ap (λ (b : Bool). cond b (e ∷ earlier round j) (earlier round j)) (lt-ltb e.round round below.0) ∙ ap (λ (l : List Entry). e ∷ l) (earlier_all round j below.1)

-- the network of a round is that of the journal before it
pub now_grown : (c : Domain) (round : ℕ) (j whole : List Entry) → Grown round j whole → Below round j → present c (earlier round whole) ≡ present c j
now_grown c round j whole more below =
    ap (λ (w : List Entry). present c (earlier round w)) more.is ∙ ap (present c) (earlier_on round more.more j more.behind ∙ earlier_all round j below)

-- ---- a moment of a round

-- at a moment of the round access point r had these rows, by which a row of that name and station stands there or none does
pub record Moment (d : Domain) (r : ℕ) (xs : List HeldRow) (name : List ℕ) (k round : ℕ) (j : List Entry) : Type 0 where
  pub since : List Entry
  pub at : List Entry
  pub cut : j ≡ since ++ at
  pub before : UpTo round at
  pub behind : From round since
  pub stands : stands_here (Ap r) name (Sta k) at ≡ list_any (is_match name (mac d (Sta k))) xs
  pub own : AllByRecursion (IsOwn d (Ap r)) xs

abbrev look_at : ℕ → ℕ → List ℕ → ℕ → Looking
look_at a round name k = record { node = Ap a; round = round; name = name; sta = Sta k }

-- its rows are those of its history
pub moment_now : (d : Domain) (r : ℕ) (xs : List HeldRow) (name : List ℕ) (k round : ℕ) (j : List Entry) → k < length d.stas → UpTo round j → KnowsRows d (Ap r) xs (history (Ap r) j) → Moment d r xs name k round j
moment_now d r xs name k round j low rounds know = record {
  since = [];
  at = j;
  cut = refl;
  before = rounds;
  behind = tt;
  stands = stood d (Ap r) xs j (look_at r round name k) k low refl know;
  own = know.own;
}

pub moment_grown : (d : Domain) (r : ℕ) (xs : List HeldRow) (name : List ℕ) (k round : ℕ) (i j : List Entry) → Grown round i j → Moment d r xs name k round i → Moment d r xs name k round j
moment_grown d r xs name k round i j more m = record {
  since = more.more ++ m.since;
  at = m.at;
  cut = more.is ∙ ap (λ (l : List Entry). more.more ++ l) m.cut ∙ sym (append_assoc more.more m.since m.at);
  before = m.before;
  behind = all_append round more.more m.since more.behind m.behind;
  stands = m.stands;
  own = m.own;
}

-- with other rows among which one matches or none does all the same
pub moment_as : (d : Domain) (r : ℕ) (xs zs : List HeldRow) (name : List ℕ) (k round : ℕ) (j : List Entry) → list_any (is_match name (mac d (Sta k))) zs ≡ list_any (is_match name (mac d (Sta k))) xs → AllByRecursion (IsOwn d (Ap r)) zs
    → Moment d r xs name k round j → Moment d r zs name k round j
moment_as d r xs zs name k round j same_ own m = record { since = m.since; at = m.at; cut = m.cut; before = m.before; behind = m.behind; stands = m.stands ∙ sym same_; own = own }

-- ---- looks of an access point in the round

-- at a moment of the round each access point had these rows
abbrev pub AllMoments : Domain → (ℕ → List HeldRow) → ℕ → List Entry → Type 0
AllMoments d rows round j = (r : ℕ) → r < length d.aps → (name : List ℕ) (k : ℕ) → k < length d.stas → Moment d r (rows r) name k round j

-- its own key holder answered by the rows that it had before, and any by those of the moment
abbrev pub AnswersBoth : Domain → ℕ → (ℕ → List HeldRow) → (ℕ → List HeldRow) → List ℕ → List ℕ → ℕ → PullAnswer → Type 0
AnswersBoth d a own rows id name k answer =
    Answers (map (λ (x : ListedAp). x.r0kh_id) d.aps) (a ∷ []) own id name (mac d (Ap a)) (mac d (Sta k)) answer
    × Answers (map (λ (x : ListedAp). x.r0kh_id) d.aps) (below (length d.aps)) rows id name (mac d (Ap a)) (mac d (Sta k)) answer

by_test : (b : Bool) (A B : Type 0) → (b ≡ true → A) → (b ≡ false → B) → cond b A B
by_test true A B f g = f refl
by_test false A B f g = g refl

own_place : (r a : ℕ) → Ap r ≡ Ap a → is_in r (a ∷ []) ≡ true
own_place r a is = elim (eqb_tells a r) [ inl same ↦ rw same.0 refl | inr other ↦ absurd (other.1 (sym (cc is))) ]

module _ (d : Domain) (a round : ℕ) (own rows : ℕ → List HeldRow) (whole past : List Entry) (id name : List ℕ) (k : ℕ) (answer : PullAnswer) where
  abbrev asked : Looking
  asked = look_at a round name k

  by_place : (o : Option ℕ) → position (λ (x : ListedAp). bytes_eq x.r0kh_id id) d.aps ≡ o → IsNamed d → k < length d.stas → AllMoments d rows round whole → KnowsRows d (Ap a) (own a) (history (Ap a) past)
      → AnswersBoth d a own rows id name k answer → AnsweredBySome (option_map (λ i. Ap i) o) asked answer past whole × GivesRightKey d id asked answer
  by_place None is names low moments know w =
      let none : answer ≡ NoHolder = answers_no_holder d (below (length d.aps)) rows asked id answer (ap (option_map (λ i. Ap i)) is) w.1 in
      (none, subst (GivesRightKey d id asked) (sym none) tt)
  by_place (Some r) is names low moments know w =
      let found = at_position (λ (x : ListedAp). bytes_eq x.r0kh_id id) d.aps r (sym is) in
      let listed = slice_get_within d.aps r found.0 found.1 in
      let holds = ap (option_map (λ i. Ap i)) is in
      let m = moments r listed name k low in
      let told = answers_as_stood d (below (length d.aps)) rows m.at asked k r id answer names low refl holds (below_in r (length d.aps) listed) m.stands m.own w.1 in (
        by_test (same (Ap r) (Ap a)) (AnswersAt (Ap r) asked answer past) (SomeMoment (Ap r) asked answer whole)
            (λ here. (let at : Ap r ≡ Ap a = same-true (Ap r) (Ap a) here in
            (answers_by_holder d (a ∷ []) own past asked k r id answer names low refl holds (own_place r a at) (subst (λ (i : ℕ). KnowsRows d (Ap i) (own i) (history (Ap i) past)) (sym (cc at)) know) w.0).0))
            (λ there. record {
              since = m.since;
              at = m.at;
              cut = m.cut;
              before = none_later (Ap r) round m.at m.before;
              behind = none_earlier (Ap r) round m.since m.behind;
              answers = told.0;
            }),
        told.1,
      )

abbrev put_on : ℕ → Node → Act → List Entry → Entry
put_on round n act past = record { round = round; node = n; number = number_of act past; act = act }

pub right_unasked : (d : Domain) (round : ℕ) (n : Node) (g : List Act) (whole j : List Entry) → NoLooks g → AllInTime d whole j → AllInTime d whole (push round n g j)
unfolding AllInTime
right_unasked d round n [] whole j none all = all
right_unasked d round n (act ∷ g) whole j none all =
    right_unasked d round n g whole (put_on round n act j ∷ j) none.1 (λ id name p answer is. absurd (subst IsNoLook is none.0), all)

-- by whatever header whose network in that round is d
module _ (c d : Domain) (a round : ℕ) (own rows : ℕ → List HeldRow) (whole : List Entry) where
  stay : (b : Bool) (n : Node) (xs : List HeldRow) (act : Act) (h : List Act) → moves_rows act ≡ false → KnowsRows d n xs h → KnowsRows d n xs (cond b (act ∷ h) h)
  stay true n xs act h leaves at = one_left d n xs act h leaves at
  stay false n xs act h leaves at = at

  one_asked : (act : Act) (past : List Entry) → IsNamed d → present c (earlier round whole) ≡ d → AllMoments d rows round whole → KnowsRows d (Ap a) (own a) (history (Ap a) past) → IsLookOf (AnswersBoth d a own rows) d act → InTimeAt c whole (put_on round (Ap a) act past) past
  one_asked act past names still moments know look id name p answer is =
      let w : IsLookOf (AnswersBoth d a own rows) d (Looked id name p answer) = subst (IsLookOf (AnswersBoth d a own rows) d) is look in
      let told = by_place d a round own rows whole past id name w.0 answer (position (λ (x : ListedAp). bytes_eq x.r0kh_id id) d.aps) refl names w.1 moments know w.3 in
      subst (λ (x : Domain). AnsweredBySome (holder_of x id) (looking (put_on round (Ap a) act past) name p) answer past whole × GivesRightKey x id (looking (put_on round (Ap a) act past) name p) answer) (sym still)
      (subst (λ (q : Node). AnsweredBySome (holder_of d id) (looking (put_on round (Ap a) act past) name q) answer past whole × GivesRightKey d id (looking (put_on round (Ap a) act past) name q) answer) (sym w.2) told)

  asked_on : (g : List Act) (past : List Entry) → IsNamed d → present c (earlier round whole) ≡ d → AllMoments d rows round whole → KnowsRows d (Ap a) (own a) (history (Ap a) past) → LeaveRows g → AllByRecursion (IsLookOf (AnswersBoth d a own rows) d) g → AllInTime c whole past
      → AllInTime c whole (push round (Ap a) g past)
  unfolding AllInTime
  asked_on [] past names still moments know leave looks all = all
  asked_on (act ∷ g) past names still moments know leave looks all =
      asked_on g (put_on round (Ap a) act past ∷ past) names still moments (stay (same (Ap a) (Ap a)) (Ap a) (own a) act (history (Ap a) past) leave.0 know) leave.1 looks.1 (one_asked act past names still moments know looks.0, all)

  -- what it asked is answered rightly in the whole journal of the round
  pub right_asked : (g : List Act) (past : List Entry) → IsNamed d → present c (earlier round whole) ≡ d → AllMoments d rows round whole → KnowsRows d (Ap a) (own a) (history (Ap a) past) → AreLooked (AnswersBoth d a own rows) d g → AllInTime c whole past
      → AllInTime c whole (push round (Ap a) g past)
  right_asked g past names still moments know (inl none) all = right_unasked c round (Ap a) g whole past none all
  right_asked g past names still moments know (inr w) all = asked_on g past names still moments know w.0 w.1 all

-- ---- where none was asked

unasked_in : (e : Domain) (j : List Entry) → AllByRecursion (λ (x : Entry). IsNoLook x.act) j → (whole : List Entry) → AllInTime e whole j
unfolding AllInTime
unasked_in e [] none whole = tt
unasked_in e (x ∷ past) none whole = (λ id name p answer is. absurd (subst IsNoLook is none.0), unasked_in e past none.1 whole)

pub held_unasked : (e : Domain) (j : List Entry) → AllByRecursion (λ (x : Entry). IsNoLook x.act) j → AnsweredInTime e j
held_unasked e j none = unasked_in e j none j

pub unasked_push : (round : ℕ) (n : Node) (g : List Act) (j : List Entry) → NoLooks g → AllByRecursion (λ (x : Entry). IsNoLook x.act) j → AllByRecursion (λ (x : Entry). IsNoLook x.act) (push round n g j)
unasked_push round n [] j none all = all
unasked_push round n (act ∷ g) j none all = unasked_push round n g (put_on round n act j ∷ j) none.1 (none.0, all)
