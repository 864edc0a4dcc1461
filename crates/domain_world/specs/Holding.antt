-- The key holders of a world.
-- For the code alone: no public contract speaks of it.
use Rattle.std.specs.Prelude.{◌≡◌, ℕ, ◌+◌, ◌<◌, ◌≤◌, true, List, [], length, Option, Some, None}
use Rattle.run_journal.specs.declared.domain.Domain.{Domain}
use Rattle.ft_exchange.specs.Asking.{ids_of}
use Rattle.holder_table.specs.declared.history.HolderEvent.{HolderEvent}
use Rattle.holder_table.specs.Rule.{is_in}
use Rattle.domain_world.specs.declared.shared.Shared.{Shared}

-- what their pass has seen, and nothing before they are made
abbrev pub seen_of : Option Shared → List HolderEvent
seen_of None = []
seen_of (Some s) = s.pass.knows.seen

-- a pass has the first so many access points
abbrev pub HasBelow : ℕ → List ℕ → Type 0
HasBelow n has = (r : ℕ) → r < n → is_in r has ≡ true

-- and that many from one on
abbrev pub HasFrom : ℕ → ℕ → List ℕ → Type 0
HasFrom first count has = (r : ℕ) → first ≤ r → r < first + count → is_in r has ≡ true

-- they are those of the network, and their pass has all
abbrev pub IsHeld : Domain → Shared → Type 0
IsHeld d s = (s.table.ids ≡ ids_of d) × HasBelow (length d.aps) s.pass.knows.has

abbrev pub HoldersFit : Domain → Option Shared → Type 0
HoldersFit d None = Unit {0}
HoldersFit d (Some s) = IsHeld d s
