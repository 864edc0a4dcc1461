-- What is due of a round, and journals that go on by it.
use Rattle.std.proofs.Common.{◌≡◌, ◌⊎◌, ℕ, suc, List, [], ◌∷◌, ◌++◌, length, drop, refl, sym, ap, subst, ◌∙◌, inl, inr}
use Rattle.domain_base.specs.declared.names.Node.{Node}
use Rattle.run_journal.specs.declared.domain.Domain.{Domain}
use Rattle.run_journal.specs.declared.domain.Event.{Event}
use Rattle.run_journal.specs.declared.acts.Act.{Act}
use Rattle.run_journal.specs.declared.acts.Entry.{Entry}
use Rattle.run_journal.specs.Premises.{In}
use Rattle.run_journal.specs.Questions.{history}
use Rattle.domain_rules.specs.Present.{present}
use Rattle.domain_rules.specs.Rounds.{Place, in_order}
use Rattle.domain_rules.specs.Explained.{AddsAll, Follows, Explained, push}
use Rattle.domain_rules.specs.Due.{GroupBy, answer_in, entry_of, entries_of, onto, Due, DueInRound}
use Rattle.domain_rules.specs.Here.{here}
use Rattle.domain_rules.proofs.AnswerTold.{answer_second}
use Rattle.domain_rules.proofs.GroupsBy.{one_by, adds_of, group_by}
use Rattle.domain_rules.proofs.Journals.{IsNumbered, explained_round}
use Rattle.audit_rules.proofs.Places.{all_places}

-- ---- entries put on a journal

push_onto : (round : ℕ) (n : Node) (g : List Act) (past : List Entry) → push round n g past ≡ onto (entries_of round n g past) past
push_onto round n [] past = refl
push_onto round n (act ∷ g) past = push_onto round n g (entry_of round n act past ∷ past)

pub onto_append : (xs ys j : List Entry) → onto (xs ++ ys) j ≡ onto ys (onto xs j)
onto_append [] ys j = refl
onto_append (e ∷ xs) ys j = onto_append xs ys (e ∷ j)

onto_group : (round : ℕ) (n : Node) (g : List Act) (old more : List Entry) → onto (entries_of round n g old ++ more) old ≡ onto more (push round n g old)
onto_group round n g old more = onto_append (entries_of round n g old) more old ∙ ap (onto more) (sym (push_onto round n g old))

-- the entries of a group are as many as its acts
drop_group : (round : ℕ) (n : Node) (g : List Act) (old more : List Entry) → drop (length g) (entries_of round n g old ++ more) ≡ more
drop_group round n [] old more = refl
drop_group round n (act ∷ g) old more = drop_group round n g (entry_of round n act old ∷ old) more

-- ---- one list of entries is due

pub one_due : (d : Domain) (round : ℕ) (places : List Place) (old told f g : List Entry) → Due d round places old told f → Due d round places old told g → f ≡ g
one_due d round [] old told f g s t = s ∙ sym t
one_due d round (p ∷ places) old told f g (acts, (group, (more, (is, rest)))) (acts_too, (group_too, (more_too, (is_too, rest_too)))) =
    let same : acts ≡ acts_too = one_by d 0 p.node (history p.node old) p.event (answer_in told) acts acts_too group group_too in
    let goes : Due d round places (push round p.node acts_too old) (drop (length acts_too) told) more = subst (λ (x : List Act). Due d round places (push round p.node x old) (drop (length x) told) more) same rest in
    let alike : more ≡ more_too = one_due d round places (push round p.node acts_too old) (drop (length acts_too) told) more more_too goes rest_too in
    is ∙ ap (λ (x : List Act). entries_of round p.node x old ++ more) same ∙ ap (λ (x : List Entry). entries_of round p.node acts_too old ++ x) alike ∙ sym is_too

-- and entries that are told as they are due are those that the nodes add
due_adds : (d : Domain) (round : ℕ) (places : List Place) (old told due : List Entry) → told ≡ due → Due d round places old told due → AddsAll d round places old (onto due old)
due_adds d round [] old told due same is = ap (λ (x : List Entry). onto x old) is
due_adds d round (p ∷ places) old told due same (acts, (group, (more, (is, rest)))) =
    let alike : drop (length acts) told ≡ more = ap (drop (length acts)) (same ∙ is) ∙ drop_group round p.node acts old more in
    let goes : AddsAll d round places (push round p.node acts old) (onto more (push round p.node acts old)) = due_adds d round places (push round p.node acts old) (drop (length acts) told) more alike rest in
    let ends : onto more (push round p.node acts old) ≡ onto due old = sym (onto_group round p.node acts old more) ∙ ap (λ (x : List Entry). onto x old) (sym is) in
    (acts, (adds_of d 0 p.node (history p.node old) p.event (answer_in told) acts group, subst (λ (x : List Entry). AddsAll d round places (push round p.node acts old) x) ends goes))

-- nodes that add acts tell what is due
adds_due : (d : Domain) (round : ℕ) (places : List Place) (old new : List Entry) → AddsAll d round places old new → (told : List Entry) × ((new ≡ onto told old) × Due d round places old told told)
adds_due d round [] old new is = ([], (is, refl))
adds_due d round (p ∷ places) old new (acts, (adds, rest)) =
    let (more, (new_is, due)) = adds_due d round places (push round p.node acts old) new rest in
    let told : List Entry = entries_of round p.node acts old ++ more in
    let group : GroupBy (here d 0 p.node) (history p.node old) p.event (answer_in told) acts =
    group_by d 0 p.node (history p.node old) p.event (answer_in told) acts adds (λ y at. sym (answer_second round p.node acts old more y at)) in (
      told,
      (
        new_is ∙ sym (onto_group round p.node acts old more),
        (acts, (group, (more, (refl, subst (λ (x : List Entry). Due d round places (push round p.node acts old) x more) (sym (drop_group round p.node acts old more)) due)))),
      ),
    )

pub follows_due : (d : Domain) (round : ℕ) (events : List Event) (old j : List Entry) → Follows d round events old j → (told : List Entry) × ((j ≡ onto told old) × DueInRound d round events old told told)
follows_due d round events old j f =
    let (told, (is, due)) = adds_due (present d old) round (in_order f.places) old j f.adds in
    (told, (is, record { places = f.places; happen = f.happen; are = due }))

-- the journal goes on by entries that are told as they are due
pub due_explained : (d : Domain) (rounds : List (List Event)) (events : List Event) (old told : List Entry) → Explained d rounds old → DueInRound d (suc (length rounds)) events old told told → Explained d (events ∷ rounds) (onto told old)
due_explained d rounds events old told before s =
    explained_round d rounds events old (onto told old) before
    (record { places = s.places; happen = s.happen; adds = due_adds (present d old) (suc (length rounds)) (in_order s.places) old told told refl s.are })

-- what is due of the events of a round
pub one_due_in : (d : Domain) (round : ℕ) (events : List Event) (old told f g : List Entry) → IsNumbered old → DueInRound d round events old told f → DueInRound d round events old told g → f ≡ g
one_due_in d round events old told f g is s t =
    let same : s.places ≡ t.places = all_places d events old round s.places t.places is s.happen t.happen in
    one_due (present d old) round (in_order t.places) old told f g (subst (λ (l : List Place). Due (present d old) round (in_order l) old told f) same s.are) t.are

-- ---- the rounds of entries

entries_round : (round : ℕ) (n : Node) (g : List Act) (past more : List Entry) (m : Entry) → In m (entries_of round n g past ++ more) → (m.round ≡ round) ⊎ In m more
entries_round round n [] past more m there = inr there
entries_round round n (act ∷ g) past more m (inl here_) = inl (ap (λ (x : Entry). x.round) here_)
entries_round round n (act ∷ g) past more m (inr there) = entries_round round n g (entry_of round n act past ∷ past) more m there

due_round : (d : Domain) (round : ℕ) (places : List Place) (old told due : List Entry) (m : Entry) → Due d round places old told due → In m due → m.round ≡ round
due_round d round [] old told due m is there = absurd (subst (λ (l : List Entry). In m l) is there)
due_round d round (p ∷ places) old told due m (acts, (group, (more, (is, rest)))) there =
    elim (entries_round round p.node acts old more m (subst (λ (l : List Entry). In m l) is there)) [
      | inl same ↦ same
      | inr later ↦ due_round d round places (push round p.node acts old) (drop (length acts) told) more m rest later
    ]

pub due_in_round : (d : Domain) (round : ℕ) (events : List Event) (old told due : List Entry) (m : Entry) → DueInRound d round events old told due → In m due → m.round ≡ round
due_in_round d round events old told due m s there = due_round (present d old) round (in_order s.places) old told due m s.are there
