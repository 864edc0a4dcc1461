-- Changed keys: what histories, journals, NEWEST FIRST, and events say of the pre-shared keys of stations (profile).
use Rattle.std.specs.Prelude.{ℕ, ◌≡◌, Bool, true, false, cond, ◌||◌, List, [], ◌∷◌, length, Option, Some, None}
use Rattle.domain_base.specs.declared.names.Node.{Node}
use Rattle.run_journal.specs.declared.acts.Act.{Act}
use Rattle.run_journal.specs.declared.acts.Act.TheVariants as act
use Rattle.run_journal.specs.declared.acts.Entry.{Entry}
use Rattle.run_journal.specs.declared.domain.Event.{Event}
use Rattle.run_journal.specs.declared.domain.Event.TheVariants as event
use Rattle.run_journal.specs.Acts.{same}
use Rattle.run_journal.specs.Questions.{or_else}

-- the new key of station p, where the act changes it
abbrev pub secret_for : Node → Act → Option (List ℕ)
secret_for p (act.Secret q psk) = cond (same p q) (Some psk) None
secret_for p _ = None

-- the key to which that of station p was changed last, where it was
abbrev pub last_secret : Node → List Act → Option (List ℕ)
last_secret p [] = None
last_secret p (e ∷ h) = or_else (secret_for p e) (last_secret p h)

-- and in a journal, by all nodes
abbrev pub last_secret_in : Node → List Entry → Option (List ℕ)
last_secret_in p [] = None
last_secret_in p (e ∷ past) = or_else (secret_for p e.act) (last_secret_in p past)

-- the act changes a key
abbrev pub is_secret : Act → Bool
is_secret (act.Secret p psk) = true
is_secret _ = false

-- the event changes keys
abbrev pub changes_keys : Event → Bool
changes_keys (event.Secret named psk) = true
changes_keys _ = false

-- one of these events changes keys
abbrev pub change_keys : List Event → Bool
change_keys [] = false
change_keys (e ∷ events) = changes_keys e || change_keys events

-- where some of a round do, it is one event alone, as in a script
abbrev pub ChangesAlone : List Event → Type 0
ChangesAlone events = change_keys events ≡ true → length events ≡ 1

-- one of these rounds of events changes keys
abbrev pub rounds_change_keys : List (List Event) → Bool
rounds_change_keys [] = false
rounds_change_keys (events ∷ rounds) = change_keys events || rounds_change_keys rounds
