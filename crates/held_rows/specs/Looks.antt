-- What key holders are asked (profile).
use Rattle.std.specs.Prelude.{◌≡◌, ◌⊎◌, ℕ, ◌<◌, List, length}
use Rattle.std.specs.List.{AllByRecursion}
use Rattle.domain_base.specs.declared.names.Node.TheVariants.{Sta}
use Rattle.key_hierarchy.specs.declared.answers.PullAnswer.{PullAnswer}
use Rattle.run_journal.specs.declared.domain.Domain.{Domain}
use Rattle.run_journal.specs.declared.acts.Act.{Act}
use Rattle.run_journal.specs.declared.acts.Act.TheVariants.{Looked}
use Rattle.held_rows.specs.Knows.{LeaveRows}

-- the act asks no key holder
abbrev pub IsNoLook : Act → Type 0
IsNoLook (Looked id name p answer) = ⊥
IsNoLook _ = Unit {0}

-- none of the acts asks a key holder
abbrev pub NoLooks : List Act → Type 0
NoLooks g = AllByRecursion IsNoLook g

-- where it asks one it is for a listed station, and it is so answered
abbrev pub IsLookOf : (List ℕ → List ℕ → ℕ → PullAnswer → Type 0) → Domain → Act → Type 0
IsLookOf Answered d (Looked id name p answer) = (k : ℕ) × (k < length d.stas) × (p ≡ Sta k) × Answered id name k answer
IsLookOf Answered d _ = Unit {0}

-- the acts ask none, or change no rows and are so answered
abbrev pub AreLooked : (List ℕ → List ℕ → ℕ → PullAnswer → Type 0) → Domain → List Act → Type 0
AreLooked Answered d g = NoLooks g ⊎ (LeaveRows g × AllByRecursion (IsLookOf Answered d) g)
