-- What the workers of a round did, as it stands in the journal.
use Rattle.std.proofs.Common.{◌≡◌, ℕ, ◌<◌, true, List, [], ◌∷◌, ◌++◌, length, map, refl, sym, ap, subst, ◌∙◌, inl, inr, false}
use Rattle.std.specs.List.{AllByRecursion, list_any}
use Rattle.domain_base.specs.declared.names.Node.{Node}
use Rattle.domain_base.specs.declared.names.Node.TheVariants.{Ap, Sta}
use Rattle.key_holders.specs.declared.rows.HeldRow.{HeldRow}
use Rattle.key_hierarchy.specs.declared.answers.PullAnswer.{PullAnswer}
use Rattle.key_hierarchy.specs.declared.answers.PullAnswer.TheVariants.{Found, NoHolder, Absent}
use Rattle.key_holders.specs.Listed.{below}
use Rattle.key_holders.specs.Pulls.{is_match, MayPull, ByHolder}
use Rattle.key_holders.specs.Rows.{is_in}
use Rattle.run_journal.specs.declared.acts.Act.TheVariants.{Looked}
use Rattle.ft_exchange.specs.Asking.{ids_of}
use Rattle.held_rows.specs.Looks.{IsLookOf, AreLooked}
use Rattle.run_journal.specs.declared.domain.Domain.{Domain}
use Rattle.run_journal.specs.declared.acts.Act.{Act}
use Rattle.run_journal.specs.declared.acts.Entry.{Entry}
use Rattle.run_journal.specs.Questions.{history, add}
use Rattle.domain_rules.specs.Network.{IsNamed, mac}
use Rattle.domain_rules.specs.HeldRight.{AllInTime}
use Rattle.domain_rules.specs.Explained.{push, HappensAt}
use Rattle.domain_rules.specs.Present.{present, earlier as rounds_before}
use Rattle.domain_rules.proofs.Journals.{history-push}
use Rattle.domain_rules.proofs.Unchanged.{changes}
use Rattle.run_journal.specs.declared.domain.Event.TheVariants.{Leave}
use Rattle.held_rows.specs.Knows.{KnowsRows, IsOwn}
use Rattle.domain_world.proofs.Moments.{UpTo, Moment, moment_now, moment_grown, moment_as, Grown, same_grown, grown_on, grown_push, AllMoments, AnswersBoth, right_asked}
use Rattle.holder_table.specs.declared.history.HolderEvent.{HolderEvent}
use Rattle.holder_table.specs.Histories.{held_at, Follows, Grows}
use Rattle.holder_table.specs.Relations.{follows_on}
use Rattle.holder_table.proofs.Growth.{follows_grows}
use Rattle.ap_node.specs.State.{State as ApState}
use Rattle.ap_node.specs.Putting.{OneMove}
use Rattle.ap_node.specs.Stands.{StandsWith as ApStands}
use Rattle.domain_world.specs.declared.part.Part.{Part}
use Rattle.domain_world.specs.declared.working.Turn.{Turn}
use Rattle.domain_world.specs.Ordering.{InTurn}
use Rattle.domain_world.specs.Waiting.{joined, AreShort}
use Rattle.domain_world.specs.Working.{LookedAt, Turns, Turned, turn_event, Worked}
use Rattle.domain_world.proofs.Between.{either_first, same_between, move_between, own_between}
use Rattle.domain_world.proofs.Few.{few}
use Rattle.domain_world.proofs.Played.{happens_joined, low_push}

-- ---- journals that go on

pub grown_joined : (round : ℕ) (parts : List Part) (j : List Entry) → Grown round j (joined round parts j)
grown_joined round [] j = same_grown round j
grown_joined round (p ∷ parts) j = grown_on round j (push round p.node p.out.acts j) (joined round parts (push round p.node p.out.acts j)) (grown_push round p.node p.out.acts j) (grown_joined round parts (push round p.node p.out.acts j))

pub joined_append : (round : ℕ) (front mine : List Part) (j : List Entry) → joined round (front ++ mine) j ≡ joined round mine (joined round front j)
joined_append round [] mine j = refl
joined_append round (p ∷ front) mine j = joined_append round front mine (push round p.node p.out.acts j)

-- ---- answers

-- what is told of an answer tells less
all_looked : (P Q : List ℕ → List ℕ → ℕ → PullAnswer → Type 0) (d : Domain) (g : List Act) → ((id name : List ℕ) (sta : ℕ) (answer : PullAnswer) → P id name sta answer → Q id name sta answer)
    → AllByRecursion (IsLookOf P d) g → AllByRecursion (IsLookOf Q d) g
all_looked P Q d [] less all = tt
all_looked P Q d (Looked id name p answer ∷ g) less all = ((all.0.0, all.0.1, all.0.2, less id name all.0.0 answer all.0.3), all_looked P Q d g less all.1)
all_looked P Q d (act ∷ g) less all = (tt, all_looked P Q d g less all.1)

pub looked_by : (P Q : List ℕ → List ℕ → ℕ → PullAnswer → Type 0) (d : Domain) (g : List Act) → ((id name : List ℕ) (sta : ℕ) (answer : PullAnswer) → P id name sta answer → Q id name sta answer)
    → AreLooked P d g → AreLooked Q d g
looked_by P Q d g less (inl none) = inl none
looked_by P Q d g less (inr looks) = inr (looks.0, all_looked P Q d g less looks.1)

-- an answer by the rows of an access point, whoever has it
answers_if : (ids : List (List ℕ)) (id : List ℕ) (Of : ℕ → PullAnswer → Type 0) (has : List ℕ) (answer : PullAnswer) → ByHolder ids id Of answer → ByHolder ids id (λ r x. is_in r has ≡ true → Of r x) answer
answers_if ids id Of has (Found r1) w = (w.0, w.1, λ own. w.2)
answers_if ids id Of has Absent w = (w.0, w.1, λ own. w.2)
answers_if ids id Of has NoHolder w = w

-- ---- one worker

pub same_history : (old : List HolderEvent) → Follows old old
same_history old = ([], refl)

-- the first of its histories may be an earlier one with the same rows, and the last a later one
pub earlier : (d : Domain) (a : ℕ) (es : List Turn) (s t : ApState) (before old new : List HolderEvent) (ps : List Part) → Follows before old → held_at a old ≡ held_at a before → Worked d a es s t old new ps → Worked d a es s t before new ps
unfolding Worked
earlier d a [] s t before old new [] f is w = (w.0, follows_on before old new f w.1, w.2 ∙ is)
earlier d a [] s t before old new (p ∷ ps) f is w = w
earlier d a (e ∷ es) s t before old new [] f is w = w
earlier d a (e ∷ es) s t before old new (p ∷ ps) f is w = (w.0, w.1, w.2, follows_on before old w.1 f w.3, w.4 ∙ is, w.5, w.6, w.7, w.8)

pub later : (d : Domain) (a : ℕ) (es : List Turn) (s t : ApState) (old new behind : List HolderEvent) (ps : List Part) → Follows new behind → held_at a behind ≡ held_at a new → Worked d a es s t old new ps → Worked d a es s t old behind ps
unfolding Worked
later d a [] s t old new behind [] f is w = (w.0, follows_on old new behind w.1 f, is ∙ w.2)
later d a [] s t old new behind (p ∷ ps) f is w = w
later d a (e ∷ es) s t old new behind [] f is w = w
later d a (e ∷ es) s t old new behind (p ∷ ps) f is w = (w.0, w.1, w.2, w.3, w.4, w.5, w.6, w.7, later d a es w.0 t w.2 new behind ps f is w.8)

-- an event more
pub one_more : (d : Domain) (a : ℕ) (es : List Turn) (e : Turn) (s m t : ApState) (old mid new : List HolderEvent) (ps : List Part) (p : Part) → Worked d a es s m old mid ps → t.number ≡ m.number → p.node ≡ Ap a → Turned d a (turn_event e) m t mid new p.out.acts
    → Worked d a (es ++ e ∷ []) s t old new (ps ++ p ∷ [])
unfolding Worked
one_more d a [] e s m t old mid new [] p w number at turned = (t, mid, new, w.1, w.2, number ∙ ap (λ (x : ApState). x.number) w.0, at, subst (λ (x : ApState). Turned d a (turn_event e) x t mid new p.out.acts) w.0 turned, (refl, same_history new, refl))
one_more d a [] e s m t old mid new (q ∷ ps) p w number at turned = absurd w
one_more d a (x ∷ es) e s m t old mid new [] p w number at turned = absurd w
one_more d a (x ∷ es) e s m t old mid new (q ∷ ps) p w number at turned = (w.0, w.1, w.2, w.3, w.4, w.5, w.6, w.7, one_more d a es e w.0 m t w.2 mid new ps p w.8 number at turned)

pub none_worked : (d : Domain) (a : ℕ) (s : ApState) (old new : List HolderEvent) → Follows old new → held_at a new ≡ held_at a old → Worked d a [] s s old new []
unfolding Worked
none_worked d a s old new f is = (refl, f, is)

pub worked_since : (d : Domain) (a : ℕ) (es : List Turn) (s t : ApState) (old new : List HolderEvent) (ps : List Part) → Worked d a es s t old new ps → Follows old new
unfolding Worked
worked_since d a [] s t old new [] w = w.1
worked_since d a [] s t old new (p ∷ ps) w = absurd w
worked_since d a (e ∷ es) s t old new [] w = absurd w
worked_since d a (e ∷ es) s t old new (p ∷ ps) w = follows_on old w.1 new w.3 (follows_on w.1 w.2 new w.7.since (worked_since d a es w.0 t w.2 new ps w.8))

module _ (d : Domain) (a round : ℕ) where
  -- its acts put behind what stands there
  behind : (s m : ApState) (at : Turn) (old from mid : List HolderEvent) (p : Part) (i : List Entry) → held_at a from ≡ held_at a old → p.node ≡ Ap a → Turned d a (turn_event at) s m from mid p.out.acts
      → ApStands d 0 s (held_at a old) (history (Ap a) i) → Turns d a (turn_event at) m from mid p.out.acts (history (Ap a) i) × ApStands d 0 m (held_at a mid) (history (Ap a) (push round p.node p.out.acts i))
  behind s m at old from mid p i is node turned stands =
      let now = turned.turns (history (Ap a) i) (subst (λ (xs : List HeldRow). ApStands d 0 s xs (history (Ap a) i)) (sym is) stands) in
      let there : history (Ap a) (push round p.node p.out.acts i) ≡ add p.out.acts (history (Ap a) i) = ap (λ (n : Node). history (Ap a) (push round n p.out.acts i)) node ∙ history-push round (Ap a) p.out.acts i in
      (now, subst (ApStands d 0 m (held_at a mid)) (sym there) now.stands)

  pub worked_stands : (es : List Turn) (s t : ApState) (old new : List HolderEvent) (ps : List Part) (i : List Entry) → Worked d a es s t old new ps → ApStands d 0 s (held_at a old) (history (Ap a) i)
      → ApStands d 0 t (held_at a new) (history (Ap a) (joined round ps i))
  unfolding Worked
  worked_stands [] s t old new [] i w stands = subst (λ (x : ApState). ApStands d 0 x (held_at a new) (history (Ap a) i)) (sym w.0) (subst (λ (xs : List HeldRow). ApStands d 0 s xs (history (Ap a) i)) (sym w.2) stands)
  worked_stands [] s t old new (p ∷ ps) i w stands = absurd w
  worked_stands (e ∷ es) s t old new [] i w stands = absurd w
  worked_stands (e ∷ es) s t old new (p ∷ ps) i w stands =
      worked_stands es w.0 t w.2 new ps (push round p.node p.out.acts i) w.8 (behind s w.0 e old w.1 w.2 p i w.4 w.6 w.7 stands).1

  -- the steps of the journal
  pub worked_follows : (es : List Turn) (s t : ApState) (old new : List HolderEvent) (ps : List Part) (i : List Entry) → AllByRecursion (λ (e : Turn). HappensAt e.event.now i round (Ap a) (turn_event e)) es → Worked d a es s t old new ps
      → ApStands d 0 s (held_at a old) (history (Ap a) i) → InTurn d round (map (λ (e : Turn). e.event.now) es) i (joined round ps i)
  unfolding Worked
  worked_follows [] s t old new [] i happens w stands = refl
  worked_follows [] s t old new (p ∷ ps) i happens w stands = absurd w
  worked_follows (e ∷ es) s t old new [] i happens w stands = absurd w
  worked_follows (e ∷ es) s t old new (p ∷ ps) i happens w stands =
      let next = behind s w.0 e old w.1 w.2 p i w.4 w.6 w.7 stands in (
        push round p.node p.out.acts i,
        (
          record {
            node = Ap a;
            at_node = turn_event e;
            happens = happens.0;
            acts = p.out.acts;
            group = next.0.adds;
            is = ap (λ (n : Node). push round n p.out.acts i) w.6;
          },
          worked_follows es w.0 t w.2 new ps (push round p.node p.out.acts i) (all_happen es happens.1) w.8 next.1,
        ),
      )
    where
      all_happen : (fs : List Turn) → AllByRecursion (λ (f : Turn). HappensAt f.event.now i round (Ap a) (turn_event f)) fs → AllByRecursion (λ (f : Turn). HappensAt f.event.now (push round p.node p.out.acts i) round (Ap a) (turn_event f)) fs
      all_happen [] all = tt
      all_happen (f ∷ fs) all = (happens_joined f.event.now round (Ap a) (turn_event f) round (p ∷ []) i all.0, all_happen fs all.1)

  -- each event has few acts
  pub worked_short : (es : List Turn) (s t : ApState) (old new : List HolderEvent) (ps : List Part) (i : List Entry) → AllByRecursion (λ (e : Turn). changes (turn_event e) ≡ false) es → Worked d a es s t old new ps → ApStands d 0 s (held_at a old) (history (Ap a) i) → AreShort (length d.stas) ps
  unfolding Worked
  worked_short [] s t old new [] i none w stands = tt
  worked_short [] s t old new (p ∷ ps) i none w stands = absurd w
  worked_short (e ∷ es) s t old new [] i none w stands = absurd w
  worked_short (e ∷ es) s t old new (p ∷ ps) i none w stands =
      let next = behind s w.0 e old w.1 w.2 p i w.4 w.6 w.7 stands in
      ((Leave 0, refl, few d (Leave 0) 0 (Ap a) (history (Ap a) i) (turn_event e) p.out.acts refl none.0 next.0.adds), worked_short es w.0 t w.2 new ps (push round p.node p.out.acts i) none.1 w.8 next.1)

-- ---- the moments of a worker

module _ (d : Domain) (a round : ℕ) (name : List ℕ) (k : ℕ) where
  knows_at : (s : ApState) (xs : List HeldRow) (h : List Act) → s.number ≡ a → ApStands d 0 s xs h → KnowsRows d (Ap a) xs h
  knows_at s xs h number stands = subst (λ i. KnowsRows d (Ap i) xs h) number stands.rows

  -- before the event or behind it
  one_moment : (s m : ApState) (old mid at : List HolderEvent) (p : Part) (i : List Entry) → k < length d.stas → UpTo round i → s.number ≡ a → m.number ≡ a → OneMove (held_at a old) (held_at a mid) → ApStands d 0 s (held_at a old) (history (Ap a) i)
      → ApStands d 0 m (held_at a mid) (history (Ap a) (push round p.node p.out.acts i)) → Follows old at → Follows at mid → Moment d a (held_at a at) name k round (push round p.node p.out.acts i)
  one_moment s m old mid at p i low up first last one before behind f g =
      let next = push round p.node p.out.acts i in
      let now : Moment d a (held_at a mid) name k round next = moment_now d a (held_at a mid) name k round next low (low_push round p.node p.out.acts i up) (knows_at m (held_at a mid) (history (Ap a) next) last behind) in
      let was : Moment d a (held_at a old) name k round next = moment_grown d a (held_at a old) name k round i next (grown_push round p.node p.out.acts i) (moment_now d a (held_at a old) name k round i low up (knows_at s (held_at a old) (history (Ap a) i) first before)) in
      let own = own_between d (Ap a) (held_at a old) (held_at a at) (held_at a mid) one (follows_grows a old at f) (follows_grows a at mid g) was.own now.own in
      elim (move_between name (mac d (Sta k)) (held_at a old) (held_at a at) (held_at a mid) one (follows_grows a old at f) (follows_grows a at mid g)) [
        | inl same_ ↦ moment_as d a (held_at a old) (held_at a at) name k round next same_ own was
        | inr same_ ↦ moment_as d a (held_at a mid) (held_at a at) name k round next same_ own now
      ]

  pub worked_moment : (es : List Turn) (s t : ApState) (old new at : List HolderEvent) (ps : List Part) (i : List Entry) → k < length d.stas → UpTo round i → s.number ≡ a → Worked d a es s t old new ps → ApStands d 0 s (held_at a old) (history (Ap a) i)
      → Follows old at → Follows at new → Moment d a (held_at a at) name k round (joined round ps i)
  unfolding Worked
  worked_moment [] s t old new at [] i low up number w stands f g =
      let same_rows = same_between (held_at a old) (held_at a at) (follows_grows a old at f) (subst (λ (ys : List HeldRow). Grows (held_at a at) ys) w.2 (follows_grows a at new g)) in
      let now = moment_now d a (held_at a old) name k round i low up (knows_at s (held_at a old) (history (Ap a) i) number stands) in
      moment_as d a (held_at a old) (held_at a at) name k round i (ap (list_any (is_match name (mac d (Sta k)))) same_rows) (subst (λ (xs : List HeldRow). AllByRecursion (IsOwn d (Ap a)) xs) (sym same_rows) now.own) now
  worked_moment [] s t old new at (p ∷ ps) i low up number w stands f g = absurd w
  worked_moment (e ∷ es) s t old new at [] i low up number w stands f g = absurd w
  worked_moment (e ∷ es) s t old new at (p ∷ ps) i low up number w stands f g =
      let next = behind d a round s w.0 e old w.1 w.2 p i w.4 w.6 w.7 stands in
      let there = push round p.node p.out.acts i in
      let since = worked_since d a es w.0 t w.2 new ps w.8 in
      elim (either_first at w.2 new g since) [
        | inl on ↦ moment_grown d a (held_at a at) name k round there (joined round ps there) (grown_joined round ps there)
            (one_moment s w.0 old w.2 at p i low up number (w.5 ∙ number) (subst (λ (xs : List HeldRow). OneMove xs (held_at a w.2)) w.4 w.7.one) stands next.1 f on)
        | inr off ↦ worked_moment es w.0 t w.2 new at ps there low (low_push round p.node p.out.acts i up) (w.5 ∙ number) w.8 next.1 off g
      ]

-- ---- what a worker asked

pub looks_both : (d : Domain) (a : ℕ) (old new : List HolderEvent) (g : List Act) → AreLooked (LookedAt d a old new) d g → AreLooked (AnswersBoth d a (λ r. held_at r old) (λ r. held_at r new)) d g
looks_both d a old new g looks = looked_by (LookedAt d a old new) (AnswersBoth d a (λ r. held_at r old) (λ r. held_at r new)) d g
    (λ id name k answer w. (w.0, answers_if (ids_of d) id (λ r x. MayPull (held_at r new) name (mac d (Ap a)) (mac d (Sta k)) x) (below (length d.aps)) answer w.1)) looks

module _ (d : Domain) (a round : ℕ) (first last : List HolderEvent) (whole : List Entry) where
  -- at each moment of the round key holders had the rows of a moment of the journal
  abbrev pub AtAllMoments : Type 0
  AtAllMoments = (at : List HolderEvent) → Follows first at → Follows at last → AllMoments d (λ r. held_at r at) round whole

  pub worked_right : (c : Domain) (es : List Turn) (s t : ApState) (old new : List HolderEvent) (ps : List Part) (i : List Entry) → IsNamed d → present c (rounds_before round whole) ≡ d → AtAllMoments → s.number ≡ a → Worked d a es s t old new ps → ApStands d 0 s (held_at a old) (history (Ap a) i) → Follows first old → Follows new last
      → AllInTime c whole i → AllInTime c whole (joined round ps i)
  unfolding Worked
  worked_right c [] s t old new [] i names still moments number w stands f g all = all
  worked_right c [] s t old new (p ∷ ps) i names still moments number w stands f g all = absurd w
  worked_right c (e ∷ es) s t old new [] i names still moments number w stands f g all = absurd w
  worked_right c (e ∷ es) s t old new (p ∷ ps) i names still moments number w stands f g all =
      let next = behind d a round s w.0 e old w.1 w.2 p i w.4 w.6 w.7 stands in
      let start = follows_on first old w.1 f w.3 in
      let mid = follows_on first w.1 w.2 start w.7.since in
      let rest = follows_on w.2 new last (worked_since d a es w.0 t w.2 new ps w.8) g in
      let know : KnowsRows d (Ap a) (held_at a w.1) (history (Ap a) i) = subst (λ (xs : List HeldRow). KnowsRows d (Ap a) xs (history (Ap a) i)) (sym w.4) (subst (λ n. KnowsRows d (Ap n) (held_at a old) (history (Ap a) i)) number stands.rows) in
      let one = right_asked c d a round (λ r. held_at r w.1) (λ r. held_at r w.2) whole p.out.acts i names still (moments w.2 mid rest) know (looks_both d a w.1 w.2 p.out.acts next.0.looks) all in
      worked_right c es w.0 t w.2 new ps (push round p.node p.out.acts i) names still moments (w.5 ∙ number) w.8 next.1 mid g
      (subst (λ (n : Node). AllInTime c whole (push round n p.out.acts i)) (sym w.6) one)
