-- Looks among entries told of a round (profile).
use Rattle.std.specs.Prelude.{ℕ, ◌≡◌, ◌<◌, List, slice_get, take, Option, None, Some}
use Rattle.run_journal.specs.declared.domain.Domain.{Domain}
use Rattle.run_journal.specs.declared.acts.Entry.{Entry}
use Rattle.domain_rules.specs.Due.{onto}
use Rattle.domain_rules.specs.HeldRight.{HeldAt}

-- all looks up to a place are answered rightly
abbrev pub AllRightUpTo : Domain → List Entry → List Entry → ℕ → Type 0
AllRightUpTo d old told end = (place : ℕ) (e : Entry) → place < end → slice_get told place ≡ Some e → HeldAt d (onto told old) e (onto (take place told) old)

-- all looks are, or that is the first that is not
abbrev pub IsFirstWrong : Domain → List Entry → List Entry → ℕ → Option ℕ → Type 0
IsFirstWrong d old told end None = AllRightUpTo d old told end
IsFirstWrong d old told end (Some place) =
    (place < end) × (AllRightUpTo d old told place × ((e : Entry) × ((slice_get told place ≡ Some e) × (HeldAt d (onto told old) e (onto (take place told) old) → ⊥))))
