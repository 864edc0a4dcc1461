-- Where entries that are told of a round first are not as they have to be, and why. Entries that are told, and that are due, stand OLDEST
-- FIRST, journals and rounds NEWEST FIRST. Places count from 0 (profile).
use Rattle.std.specs.Prelude.{ℕ, zero, suc, ◌≡◌, ◌≢◌, ◌⊎◌, ◌<◌, ◌≤◌, List, [], ◌∷◌, length, reverse, slice_get, take, Some}
use Rattle.run_journal.specs.declared.domain.Domain.{Domain}
use Rattle.run_journal.specs.declared.domain.Event.{Event}
use Rattle.run_journal.specs.declared.acts.Entry.{Entry}
use Rattle.run_journal.specs.Safe.{Safe, use_of, up_of, InstallsNew, UsesNew, JoinedAt, SourcedAt}
use Rattle.domain_rules.specs.Due.{DueInRound, onto}
use Rattle.domain_rules.specs.Explained.{Explained, started}
use Rattle.domain_rules.specs.HeldRight.{HeldAt, HeldRight}

-- the rounds explain the journal, each look in it is answered rightly, and it is safe
pub record IsSound (d : Domain) (rounds : List (List Event)) (j : List Entry) : Type 0 where
  pub explained : Explained d rounds j
  pub held : HeldRight d j
  pub safe : Safe j

-- entries that are told and those that are due first differ there. Cause 1: another one is told. Cause 2: none is told, at the place
-- after the last one. Cause 3: none is due
abbrev pub DiffersAt : List Entry → List Entry → ℕ → ℕ → Type 0
DiffersAt [] [] place cause = ⊥
DiffersAt [] (x ∷ due) place cause = (place ≡ 0) × (cause ≡ 2)
DiffersAt (e ∷ told) [] place cause = (place ≡ 0) × (cause ≡ 3)
DiffersAt (e ∷ told) (x ∷ due) zero cause = (e ≢ x) × (cause ≡ 1)
DiffersAt (e ∷ told) (x ∷ due) (suc place) cause = (e ≡ x) × DiffersAt told due place cause

-- An entry of journal j, after that past, is not as it has to be. Cause 4: it is a look that is not answered rightly. Cause 5: it
-- installs a key that its node installed before. Cause 6: it uses a packet number that its node used under that key before. Cause 7: it
-- accepts a final message, and its peer did not derive from its inputs before. Cause 8: it hands up a packet number that its node
-- handed up under that key before, or what its peer did not use before with that key, number and octets
pub data Breaks (d : Domain) (j : List Entry) (e : Entry) (past : List Entry) (cause : ℕ) : Type 0 where
  Held_wrongly : cause ≡ 4 → (HeldAt d j e past → ⊥) → Breaks d j e past cause
  Installed_again : cause ≡ 5 → (InstallsNew e past → ⊥) → Breaks d j e past cause
  Used_again : cause ≡ 6 → (UsesNew use_of e past → ⊥) → Breaks d j e past cause
  Not_joined : cause ≡ 7 → (JoinedAt e past → ⊥) → Breaks d j e past cause
  Not_sourced : cause ≡ 8 → (UsesNew up_of e past × SourcedAt e past → ⊥) → Breaks d j e past cause

-- the entry that is told there is not as it has to be. A look is judged by all entries that are told of its round
pub record BreaksAt (d : Domain) (old told : List Entry) (place cause : ℕ) : Type 0 where
  pub entry : Entry
  pub at : slice_get told place ≡ Some entry
  pub breaks : Breaks d (onto told old) entry (onto (take place told) old) cause

-- something is wrong there, where those entries are due after that journal
abbrev pub WrongAt : Domain → List Entry → List Entry → List Entry → ℕ → ℕ → Type 0
WrongAt d old told due place cause = DiffersAt told due place cause ⊎ BreaksAt d old told place cause

-- the first place at which something is wrong, with its least cause there
pub record IsFirst (d : Domain) (old told due : List Entry) (place cause : ℕ) : Type 0 where
  pub wrong : WrongAt d old told due place cause
  pub first : (q c : ℕ) → WrongAt d old told due q c → (place < q) ⊎ ((place ≡ q) × (cause ≤ c))

-- an entry of journal j, after that past, is as it has to be
pub record IsFine (d : Domain) (j : List Entry) (e : Entry) (past : List Entry) : Type 0 where
  pub held : HeldAt d j e past
  pub installs : InstallsNew e past
  pub uses : UsesNew use_of e past
  pub joined : JoinedAt e past
  pub hands_up : UsesNew up_of e past
  pub sourced : SourcedAt e past

-- so are all of these, one after the other, after that past
abbrev pub AllFine : Domain → List Entry → List Entry → List Entry → Type 0
AllFine d j [] past = Unit {0}
AllFine d j (e ∷ told) past = IsFine d j e past × AllFine d j told (e ∷ past)

-- nothing is wrong
pub record AreRight (d : Domain) (old told due : List Entry) : Type 0 where
  pub same : told ≡ due
  pub fine : AllFine d (onto told old) told old

-- the entries of round 0: those of access points as they start
abbrev pub first_due : Domain → List Entry
first_due d = reverse (started d (length d.aps))

-- in entries that are told of a round, of these events after that journal, something is first wrong there
pub record FailsRound (d : Domain) (round : ℕ) (events : List Event) (old told : List Entry) (place cause : ℕ) : Type 0 where
  pub due : List Entry
  pub is_due : DueInRound d round events old told due
  pub first : IsFirst d old told due place cause

-- nothing is wrong in entries that are told of a round
pub record MeetsRound (d : Domain) (round : ℕ) (events : List Event) (old told : List Entry) : Type 0 where
  pub due : List Entry
  pub is_due : DueInRound d round events old told due
  pub right : AreRight d old told due
