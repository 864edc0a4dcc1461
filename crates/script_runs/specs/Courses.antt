-- A storm under way, beside its world and the journal.
-- For the code alone: no public contract speaks of it.
use Rattle.std.specs.Prelude.{◌≡◌, ◌≢◌, ℕ, ◌≤◌, List, [], length}
use Rattle.run_journal.specs.declared.acts.Entry.{Entry}
use Rattle.domain_rules.specs.HeldRight.{AnsweredInTime}
use Rattle.domain_rules.specs.Network.{InForm}
use Rattle.domain_rules.specs.Explained.{Explained, started}
use Rattle.domain_rules.specs.InOctets.{InOctets}
use Rattle.domain_world.specs.State.{State}
use Rattle.domain_world.specs.Owning.{Owns, IsSince}
use Rattle.storm.specs.Header.{begun}
use Rattle.storm.specs.Course.{Course, HasSeen, events_from, storm}
use Rattle.script_runs.specs.Storms.{all_events, network, rounds_of}

-- a storm before its first event
abbrev pub IsUnbegun : Course → Type 0
IsUnbegun s = s ≡ record { number = s.number; state = begun s.number; seen = 0; frames = [] }

-- before any event: so many nodes are listed
pub record IsListing (number aps stas : ℕ) (w : State) (j : List Entry) : Type 0 where
  pub network_is : w.domain ≡ network number aps stas
  pub none : w.rounds ≡ 0
  pub own : Owns w j
  pub since : IsSince (network number aps stas) w j
  pub starts : j ≡ started w.domain (length w.domain.aps)

-- all nodes are listed, and the events so far are those of the storm
pub record IsUnderWay (s : Course) (w : State) (j : List Entry) : Type 0 where
  pub network_is : w.domain ≡ network s.number 4 8
  pub own : Owns w j
  pub since : IsSince (network s.number 4 8) w j
  pub seen : HasSeen s.seen s.frames j
  pub state_is : s.state ≡ (events_from j w.rounds (begun s.number)).1
  pub explained : Explained (network s.number 4 8) (rounds_of (storm s.number j w.rounds)) j

-- so much of the storm was run, and each look was answered rightly at some moment of its round
pub record IsSoFar (number aps stas events : ℕ) (j : List Entry) : Type 0 where
  pub form : InForm (network number aps stas)
  pub octets : InOctets (network number aps stas)
  pub explained : Explained (network number aps stas) (rounds_of (storm number j events)) j
  pub right : AnsweredInTime (network number aps stas) j

-- a front of it
pub record IsFrontSoFar (number : ℕ) (j : List Entry) : Type 0 where
  pub aps : ℕ
  pub stas : ℕ
  pub events : ℕ
  pub few_aps : aps ≤ 4
  pub few_stas : stas ≤ 8
  pub few_events : events ≤ all_events
  pub aps_first : stas ≢ 0 → aps ≡ 4
  pub nodes_first : events ≢ 0 → (aps ≡ 4) × (stas ≡ 8)
  pub so_far : IsSoFar number aps stas events j
