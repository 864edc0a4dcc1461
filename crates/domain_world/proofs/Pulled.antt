-- What a step of an access point by a pass does.
use Rattle.std.specs.Prelude.{if◌then◌else◌}
use Rattle.std.proofs.Common.{◌≡◌, ℕ, true, false, true≢false, List, [], ◌∷◌, ◌++◌, sym, ap, subst, ◌∙◌, inl, inr}
use Rattle.std.proofs.lemmas.Bool.Decides.{eqb_tells}
use Rattle.domain_base.specs.declared.names.Mac.{Mac}
use Rattle.domain_base.specs.declared.names.Node.TheVariants.{Ap, Sta}
use Rattle.key_hierarchy.specs.declared.answers.PullAnswer.{PullAnswer}
use Rattle.key_hierarchy.specs.declared.answers.PullAnswer.TheVariants.{Found, NoHolder, Absent}
use Rattle.key_holders.specs.Pulls.{MayPull, ByHolder, Answers}
use Rattle.key_holders.specs.Rows.{is_in}
use Rattle.run_journal.specs.declared.domain.Domain.{Domain}
use Rattle.run_journal.specs.declared.acts.Act.{Act}
use Rattle.run_journal.specs.declared.acts.Outcome.{Outcome}
use Rattle.run_journal.specs.Questions.{add}
use Rattle.domain_rules.specs.Network.{mac}
use Rattle.domain_rules.specs.Here.{here}
use Rattle.domain_rules.specs.Rows.{NodeEvent, Adds}
use Rattle.ft_exchange.specs.Asking.{ids_of}
use Rattle.node_base.specs.Events.{Steps, seen}
use Rattle.held_rows.specs.Looks.{AreLooked}
use Rattle.holder_table.specs.declared.view.View.{View}
use Rattle.holder_table.specs.Histories.{held_at}
use Rattle.holder_table.specs.Knowledge.{PullsAt}
use Rattle.holder_table.specs.Pass.{Holders, Pass}
use Rattle.holder_table.specs.Relations.{Pulls, KnowsNoLess}
use Rattle.ap_node.specs.State.{State as ApState}
use Rattle.ap_node.specs.Looking.{AnsweredBy}
use Rattle.ap_node.specs.Putting.{LeavesOthers}
use Rattle.ap_node.specs.Stands.{StandsWith as ApStands}
use Rattle.domain_world.specs.Working.{LookedAt, Turned}
use Rattle.domain_world.proofs.Workers.{looked_by}

by_less : (ids : List (List ℕ)) (id : List ℕ) (P Q : ℕ → PullAnswer → Type 0) (answer : PullAnswer) → ((r : ℕ) → P r answer → Q r answer) → ByHolder ids id P answer → ByHolder ids id Q answer
by_less ids id P Q (Found r1) less w = (w.0, w.1, less w.0 w.2)
by_less ids id P Q Absent less w = (w.0, w.1, less w.0 w.2)
by_less ids id P Q NoHolder less w = w

pulled_at : (r : ℕ) (name : List ℕ) (r1kh sta : Mac) (v w : View) (answer : PullAnswer) → PullsAt r name r1kh sta v w answer → MayPull (held_at r w.seen) name r1kh sta answer
pulled_at r name r1kh sta v w (Found r1) at = (at.2.0, at.0, at.2.1, at.2.2, at.1)
pulled_at r name r1kh sta v w Absent at = at.0
pulled_at r name r1kh sta v w NoHolder at = absurd at

own_in : (r a : ℕ) (has : List ℕ) → is_in a has ≡ true → is_in r (a ∷ []) ≡ true → is_in r has ≡ true
own_in r a has in_has at = elim (eqb_tells a r) [ inl is ↦ subst (λ i. is_in i has ≡ true) is.1 in_has | inr other ↦ absurd (true≢false (sym at ∙ ap (λ b. if b then true else false) other.0)) ]

module _ (d : Domain) (event : NodeEvent) (s t : ApState) (h k : Holders) (p q : Pass) where
  told : (id name : List ℕ) (sta : ℕ) (answer : PullAnswer) → h.ids ≡ ids_of d → is_in s.number p.knows.has ≡ true
      → AnsweredBy (λ i n r1kh st a. Pulls h p i n r1kh st k q a) h.ids p.knows.has (λ r. held_at r p.knows.seen) d s.number id name sta answer → LookedAt d s.number p.knows.seen q.knows.seen id name sta answer
  told id name sta answer ids has w =
      let own = mac d (Ap s.number) in
      let peer = mac d (Sta sta) in (
        subst (λ (l : List (List ℕ)). Answers l (s.number ∷ []) (λ r. held_at r p.knows.seen) id name own peer answer) ids
            (by_less h.ids id (λ r x. is_in r p.knows.has ≡ true → MayPull (held_at r p.knows.seen) name own peer x) (λ r x. is_in r (s.number ∷ []) ≡ true → MayPull (held_at r p.knows.seen) name own peer x) answer
            (λ r may here. may (own_in r s.number p.knows.has has here)) w.1),
        subst (λ (l : List (List ℕ)). ByHolder l id (λ r x. MayPull (held_at r q.knows.seen) name own peer x) answer) ids
            (by_less h.ids id (λ r x. PullsAt r name own peer p.knows q.knows x) (λ r x. MayPull (held_at r q.knows.seen) name own peer x) answer (λ r at. pulled_at r name own peer p.knows q.knows answer at) w.0.pulled.found),
      )

  pub turned_by : (waited waits : List Act) (outcome : Outcome) → h.ids ≡ ids_of d → is_in s.number p.knows.has ≡ true → waited ≡ []
      → ((first : ℕ) (l : List Act) → ApStands d first s (held_at s.number p.knows.seen) l → Steps (here d first (Ap s.number)) event (ApStands d first t (held_at s.number q.knows.seen)) l (seen waited waits outcome))
      → ((first : ℕ) (l : List Act) → ApStands d first s (held_at s.number p.knows.seen) l → (g : List Act) → waits ≡ waited ++ g
      → AreLooked (AnsweredBy (λ i n r1kh st a. Pulls h p i n r1kh st k q a) h.ids p.knows.has (λ r. held_at r p.knows.seen) d s.number) d g)
      → LeavesOthers s.number h.ids k.ids p.knows.has q.knows.has (λ r. held_at r p.knows.seen) (λ r. held_at r q.knows.seen) → KnowsNoLess h p k q → Turned d s.number event s t p.knows.seen q.knows.seen waits
  turned_by waited waits outcome ids has empty steps looks leaves less = record {
    turns = λ l stands.
        (let done = steps 0 l stands in
        let acts : done.acts ≡ waits = sym (done.waiting ∙ ap (λ (g : List Act). g ++ done.acts) empty) in
        record {
          adds = subst (Adds (here d 0 (Ap s.number)) l event) acts done.adds;
          stands = subst (λ (g : List Act). ApStands d 0 t (held_at s.number q.knows.seen) (add g l)) acts done.stands;
          looks = looked_by (AnsweredBy (λ i n r1kh st a. Pulls h p i n r1kh st k q a) h.ids p.knows.has (λ r. held_at r p.knows.seen) d s.number) (LookedAt d s.number p.knows.seen q.knows.seen) d waits
              (λ id name sta answer w. told id name sta answer ids has w) (looks 0 l stands waits (sym (ap (λ (g : List Act). g ++ waits) empty)));
        });
    one = leaves.one;
    since = less.knows.seen;
  }
