-- The run of a storm: how far it came (profile).
use Rattle.std.specs.Prelude.{◌≡◌, ◌≢◌, ℕ, ◌≤◌, List, [], ◌∷◌, map}
use Rattle.run_journal.specs.declared.domain.Domain.{Domain}
use Rattle.run_journal.specs.declared.domain.Event.{Event}
use Rattle.run_journal.specs.declared.acts.Entry.{Entry}
use Rattle.storm.specs.Header.{domain_of, aps_to, secrets, stas_to}
use Rattle.storm.specs.Course.{storm}
use Rattle.script_runs.specs.Script.{IsRun}

-- the network of the storm of that number with its first so many access points and stations
abbrev pub network : ℕ → ℕ → ℕ → Domain
network number aps stas = record (domain_of number) { aps = aps_to aps; stas = stas_to (secrets number).0.psk stas }

-- each event is a round by itself; both lists have the last first
abbrev pub rounds_of : List Event → List (List Event)
rounds_of events = map (λ (event : Event). event ∷ []) events

-- the journal is that of so many events of the storm of that number, in the network with so many of its nodes
abbrev pub IsStorm : ℕ → ℕ → ℕ → ℕ → List Entry → Type 0
IsStorm number aps stas events j = IsRun (network number aps stas) (rounds_of (storm number j events)) j

-- how many events a storm has
abbrev pub all_events : ℕ
all_events = 2000

-- the whole storm: four access points, eight stations, and all events
abbrev pub IsWholeStorm : ℕ → List Entry → Type 0
IsWholeStorm number j = IsStorm number 4 8 all_events j

-- a front of it: no station is listed before all access points are, and no event comes before all nodes are listed
pub record IsStormFront (number : ℕ) (j : List Entry) : Type 0 where
  pub aps : ℕ
  pub stas : ℕ
  pub events : ℕ
  pub few_aps : aps ≤ 4
  pub few_stas : stas ≤ 8
  pub few_events : events ≤ all_events
  pub aps_first : stas ≢ 0 → aps ≡ 4
  pub nodes_first : events ≢ 0 → (aps ≡ 4) × (stas ≡ 8)
  pub journal : IsStorm number aps stas events j
