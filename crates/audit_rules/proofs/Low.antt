-- The rounds of the entries of a journal that is explained.
use Rattle.std.proofs.Common.{◌≡◌, ◌⊎◌, ℕ, zero, suc, ◌≤◌, List, [], ◌∷◌, length, ap, subst, arith, inl, inr}
use Rattle.domain_base.specs.declared.names.Node.{Node}
use Rattle.domain_base.specs.declared.names.Node.TheVariants.{Ap}
use Rattle.run_journal.specs.declared.domain.Domain.{Domain}
use Rattle.run_journal.specs.declared.domain.Event.{Event}
use Rattle.run_journal.specs.declared.acts.Act.{Act}
use Rattle.run_journal.specs.declared.acts.Entry.{Entry}
use Rattle.run_journal.specs.Premises.{In}
use Rattle.domain_rules.specs.AccessPointRows.{start_acts}
use Rattle.domain_rules.specs.Present.{present}
use Rattle.domain_rules.specs.Rounds.{Place, in_order}
use Rattle.domain_rules.specs.Explained.{AddsAll, Explained, number_of, push, started}
use Rattle.domain_rules.proofs.Journals.{explained_by_round}

in_push : (round : ℕ) (n : Node) (g : List Act) (past : List Entry) (m : Entry) → In m (push round n g past) → (m.round ≡ round) ⊎ In m past
in_push round n [] past m there = inr there
in_push round n (act ∷ g) past m there = elim (in_push round n g (record { round = round; node = n; number = number_of act past; act = act } ∷ past) m there) [
  | inl same ↦ inl same
  | inr (inl here_) ↦ inl (ap (λ (x : Entry). x.round) here_)
  | inr (inr later) ↦ inr later
]

in_adds : (d : Domain) (round : ℕ) (places : List Place) (old new : List Entry) (m : Entry) → AddsAll d round places old new → In m new → (m.round ≡ round) ⊎ In m old
in_adds d round [] old new m is there = inr (subst (λ (l : List Entry). In m l) is there)
in_adds d round (p ∷ places) old new m (acts, (adds, rest)) there = elim (in_adds d round places (push round p.node acts old) new m rest there) [
  | inl same ↦ inl same
  | inr more ↦ in_push round p.node acts old m more
]

pub in_started : (d : Domain) (k : ℕ) (m : Entry) → In m (started d k) → m.round ≡ 0
unfolding started
in_started d zero m there = absurd there
in_started d (suc k) m there = elim (in_push 0 (Ap k) (start_acts d 0 (Ap k)) (started d k) m there) [
  | inl same ↦ same
  | inr more ↦ in_started d k m more
]

none_yet : (d : Domain) (j : List Entry) → Explained d [] j → j ≡ started d (length d.aps)
unfolding Explained
none_yet d j is = is

-- none is of a later round
pub low : (d : Domain) (rounds : List (List Event)) (j : List Entry) (m : Entry) → Explained d rounds j → In m j → m.round ≤ length rounds
low d [] j m is there = (let first : m.round ≡ 0 = in_started d (length d.aps) m (subst (λ (l : List Entry). In m l) (none_yet d j is) there) in omega (arith, first))
low d (events ∷ rounds) j m is there =
    let (old, (before, follows)) = explained_by_round d events rounds j is in
    elim (in_adds (present d old) (suc (length rounds)) (in_order follows.places) old j m follows.adds there) [
      | inl same ↦ omega (arith, same)
      | inr more ↦ (let small : m.round ≤ length rounds = low d rounds old m before more in omega (arith, small))
    ]
