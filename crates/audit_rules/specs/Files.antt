-- Where a file's entries first are not the journal of the rounds of its script, or are not right, and why. Entries of the file and rounds
-- stand OLDEST FIRST, the journal before them NEWEST FIRST. Places count from 0 (profile).
use Rattle.std.specs.Prelude.{ℕ, suc, ◌≡◌, ◌⊎◌, ◌≤◌, ◌+◌, ◌==◌, cond, List, [], ◌∷◌, length}
use Rattle.std.specs.List.{AllByRecursion}
use Rattle.run_journal.specs.declared.domain.Domain.{Domain}
use Rattle.run_journal.specs.declared.domain.Event.{Event}
use Rattle.run_journal.specs.declared.acts.Entry.{Entry}
use Rattle.run_journal.specs.Events.{IsEventOf}
use Rattle.domain_rules.specs.Due.{onto}
use Rattle.domain_rules.specs.Explained.{WasSent}
use Rattle.audit_rules.specs.Wrong.{IsFirst, AreRight, FailsRound, MeetsRound, first_due}

-- the entries of that round: those up to the first that names another one; and those after them
abbrev pub told_of : ℕ → List Entry → List Entry
told_of round [] = []
told_of round (e ∷ left) = cond (e.round == round) (e ∷ told_of round left) []

abbrev pub left_after : ℕ → List Entry → List Entry
left_after round [] = []
left_after round (e ∷ left) = cond (e.round == round) (left_after round left) (e ∷ left)

-- a frame of that number was sent before that round, with so many octets at least
abbrev pub IsThere : List Entry → ℕ → ℕ → ℕ → Type 0
IsThere old round number size = (octets : List ℕ) × (WasSent old round number octets × (size ≤ length octets))

-- the events are in form after that journal
abbrev pub AreInForm : Domain → List Entry → ℕ → List Event → Type 0
AreInForm d old round events = AllByRecursion (IsEventOf d (IsThere old round)) events

-- so are those of all rounds, from that one on, by a journal that goes on: by its entries of rounds before each
abbrev pub AllInForm : Domain → ℕ → List (List Event) → List Entry → Type 0
AllInForm d round [] j = Unit {0}
AllInForm d round (events ∷ rounds) j = AreInForm d j round events × AllInForm d (suc round) rounds j

-- where an event of the round due is not in form: at the present place, cause 1 where an entry of that round stands there, else 2
abbrev pub unformed_cause : List Entry → ℕ
unformed_cause [] = 2
unformed_cause (e ∷ told) = 1

-- something is first wrong there in the entries of a round and what follows
abbrev pub FailsHere : Domain → ℕ → List Event → List Entry → List Entry → ℕ → ℕ → Type 0
FailsHere d round events old left place cause =
    ((AreInForm d old round events → ⊥) × ((place ≡ 0) × (cause ≡ unformed_cause (told_of round left))))
    ⊎ (AreInForm d old round events × FailsRound d round events old (told_of round left) place cause)

-- nothing is wrong in the entries of a round
abbrev pub MeetsHere : Domain → ℕ → List Event → List Entry → List Entry → Type 0
MeetsHere d round events old left = AreInForm d old round events × MeetsRound d round events old (told_of round left)

-- Something is first wrong there in the entries that are left, from that round on, after that journal: the first of the rounds in
-- which something is wrong tells where and why. After the last round no line is left
abbrev pub FailsFrom : Domain → ℕ → List (List Event) → List Entry → List Entry → ℕ → ℕ → Type 0
FailsFrom d round [] old [] place cause = ⊥
FailsFrom d round [] old (e ∷ left) place cause = (place ≡ 0) × (cause ≡ 3)
FailsFrom d round (events ∷ rounds) old left place cause =
    FailsHere d round events old left place cause
    ⊎ (MeetsHere d round events old left
    × ((later : ℕ) × ((place ≡ length (told_of round left) + later) × FailsFrom d (suc round) rounds (onto (told_of round left) old) (left_after round left) later cause)))

-- nothing is wrong in them, and none is left after the last round
abbrev pub MeetsFrom : Domain → ℕ → List (List Event) → List Entry → List Entry → Type 0
MeetsFrom d round [] old left = left ≡ []
MeetsFrom d round (events ∷ rounds) old left =
    MeetsHere d round events old left × MeetsFrom d (suc round) rounds (onto (told_of round left) old) (left_after round left)

-- the same of all entries of a file, from round 0 on
pub data FailsFile (d : Domain) (rounds : List (List Event)) (entries : List Entry) (place cause : ℕ) : Type 0 where
  At_start : IsFirst d [] (told_of 0 entries) (first_due d) place cause → FailsFile d rounds entries place cause
  Later : (later : ℕ) → AreRight d [] (told_of 0 entries) (first_due d) → place ≡ length (told_of 0 entries) + later
      → FailsFrom d 1 rounds (onto (told_of 0 entries) []) (left_after 0 entries) later cause → FailsFile d rounds entries place cause

pub record MeetsFile (d : Domain) (rounds : List (List Event)) (entries : List Entry) : Type 0 where
  pub start : AreRight d [] (told_of 0 entries) (first_due d)
  pub later : MeetsFrom d 1 rounds (onto (told_of 0 entries) []) (left_after 0 entries)
