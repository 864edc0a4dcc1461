-- In which order the nodes of a round do their parts of its events, and how many acts an event comes to (profile).
use Rattle.std.specs.Prelude.{ℕ, zero, suc, ◌+◌, ◌*◌, Bool, true, false, cond, List, [], ◌∷◌, ◌++◌, length, Option, Some, None, nat_le}
use Rattle.domain_base.specs.declared.names.Node.{Node}
use Rattle.domain_base.specs.declared.names.Node.TheVariants.{Ap, Sta}
use Rattle.run_journal.specs.declared.domain.Domain.{Domain}
use Rattle.run_journal.specs.declared.domain.Event.{Event}
use Rattle.run_journal.specs.declared.domain.Event.TheVariants.{Secret}
use Rattle.domain_rules.specs.Rows.{NodeEvent}
use Rattle.domain_rules.specs.Rows as again

-- a node, and what an event is to it
pub record Place : Type 0 where
  pub node : Node
  pub event : NodeEvent

-- access points before stations, each by their numbers
abbrev pub is_not_behind : Node → Node → Bool
is_not_behind (Ap k) (Ap m) = nat_le k m
is_not_behind (Ap k) (Sta m) = true
is_not_behind (Sta k) (Ap m) = false
is_not_behind (Sta k) (Sta m) = nat_le k m

-- a place before those that are in order: before the first that is at its node or after it
abbrev pub put_place : Place → List Place → List Place
put_place p [] = p ∷ []
put_place p (q ∷ places) = cond (is_not_behind p.node q.node) (p ∷ q ∷ places) (q ∷ put_place p places)

-- places by their nodes, those of one node as they were
abbrev pub in_order : List Place → List Place
in_order [] = []
in_order (p ∷ places) = put_place p (in_order places)

-- the first so many access points, and the first so many stations, in order, at which an event is that
abbrev pub at_aps : NodeEvent → ℕ → List Place
at_aps event zero = []
at_aps event (suc k) = at_aps event k ++ record { node = Ap k; event = event } ∷ []

abbrev pub at_stas : NodeEvent → ℕ → List Place
at_stas event zero = []
at_stas event (suc k) = at_stas event k ++ record { node = Sta k; event = event } ∷ []

-- the stations whose key is changed: one, or all
abbrev pub at_named : Domain → NodeEvent → Option ℕ → List Place
at_named d event (Some s) = record { node = Sta s; event = event } ∷ []
at_named d event None = at_stas event (length d.stas)

-- where a key is changed: at each access point, then at each of these stations
abbrev pub secret_places : Domain → Option ℕ → List ℕ → List Place
secret_places d named psk = at_aps (again.Secret named psk) (length d.aps) ++ at_named d (again.Secret named psk) named

-- to how many acts an event comes at a node at most, where so many stations are listed
abbrev pub most_acts : Event → ℕ → ℕ
most_acts (Secret named psk) stas = 6 + 4 * stas
most_acts event stas = 9 + stas
