-- What waits in a round, and in which order its events come.
-- For the code alone: no public contract speaks of it.
use Rattle.std.specs.Prelude.{◌≡◌, ◌<◌, ◌≤◌, ◌+◌, ℕ, zero, suc, false, cond, List, [], ◌∷◌, ◌++◌, length}
use Rattle.std.specs.List.{AllByRecursion}
use Rattle.domain_base.specs.declared.names.Node.TheVariants.{Ap}
use Rattle.run_journal.specs.declared.domain.Event.{Event}
use Rattle.run_journal.specs.declared.acts.Entry.{Entry}
use Rattle.run_journal.specs.Acts.{same}
use Rattle.run_journal.specs.Secrets.{changes_keys}
use Rattle.domain_rules.specs.Explained.{push}
use Rattle.domain_rules.specs.Rounds.{most_acts}
use Rattle.domain_world.specs.Ordering.{node_of}
use Rattle.domain_world.specs.declared.part.Part.{Part}

-- the journal with what waits of these nodes in that round, one after the other
abbrev pub joined : ℕ → List Part → List Entry → List Entry
joined round [] j = j
joined round (part ∷ parts) j = joined round parts (push round part.node part.out.acts j)

-- how many acts wait in all
abbrev pub waiting : List Part → ℕ
waiting [] = 0
waiting (part ∷ parts) = length part.out.acts + waiting parts

-- each has no more acts than some event comes to that changes no key, where so many stations are listed
abbrev pub AreShort : ℕ → List Part → Type 0
AreShort stas parts = AllByRecursion (λ (part : Part). (event : Event) × (changes_keys event ≡ false) × (length part.out.acts ≤ most_acts event stas)) parts

-- at an access point: those of the events that are there
abbrev pub events_at : ℕ → List Event → List Event
events_at k [] = []
events_at k (event ∷ events) = cond (same (Ap k) (node_of event)) (event ∷ events_at k events) (events_at k events)

-- and at the first so many, one after the other
abbrev pub events_below : ℕ → List Event → List Event
events_below zero events = []
events_below (suc k) events = events_below k events ++ events_at k events

-- each is at one of the first so many
abbrev pub AreAtAps : ℕ → List Event → Type 0
AreAtAps aps events = AllByRecursion (λ (event : Event). (k : ℕ) × (k < aps) × (node_of event ≡ Ap k)) events
