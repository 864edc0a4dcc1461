-- What a changed key does to the nodes of a world.
-- For the code alone: no public contract speaks of it.
use Rattle.std.specs.Prelude.{◌≡◌, ◌≤◌, ℕ, zero, suc, ◌<◌, ◌+◌, ◌*◌, ◌&&◌, Bool, false, true, cond, List, [], ◌∷◌, ◌++◌, length, Option, Some, None, nat_lt, slice_get}
use Rattle.domain_base.specs.declared.names.Node.TheVariants.{Ap, Sta}
use Rattle.run_journal.specs.declared.domain.Domain.{Domain}
use Rattle.run_journal.specs.declared.acts.Act.{Act}
use Rattle.run_journal.specs.declared.acts.Entry.{Entry}
use Rattle.run_journal.specs.Changed.{is_named, changed}
use Rattle.run_journal.specs.Questions.{add, history}
use Rattle.domain_rules.specs.Here.{here}
use Rattle.domain_rules.specs.Rows.{NodeEvent, Secret, Adds}
use Rattle.domain_rules.specs.Rounds.{Place, at_aps, secret_places}
use Rattle.domain_rules.specs.Explained.{AddsAll}
use Rattle.node_base.specs.Changing.{most_changed}
use Rattle.holder_table.specs.declared.history.HolderEvent.{HolderEvent}
use Rattle.holder_table.specs.Histories.{held_at}
use Rattle.station_node.specs.State.{State as StationState}
use Rattle.station_node.specs.Stands.{Stands as StationStands}
use Rattle.ap_node.specs.State.{State as ApState}
use Rattle.ap_node.specs.Stands.{StandsWith as ApStands}
use Rattle.domain_world.specs.declared.changing.KeyChange.{KeyChange as Changing}
use Rattle.domain_world.specs.State.{Nodes}
use Rattle.domain_world.specs.Owning.{Stand}

-- a changed key in a round: of which station, or of all
pub record KeyChange : Type 0 where
  pub round : ℕ
  pub named : Option ℕ
  pub psk : List ℕ

-- ---- one node

-- after its history h an access point did these acts, and stands for all, with the rows of its key holder, in the network with the
-- changed key
pub record ApChanges (d : Domain) (x : KeyChange) (a : ℕ) (t : ApState) (new : List HolderEvent) (g h : List Act) : Type 0 where
  pub adds : Adds (here d 0 (Ap a)) h (Secret x.named x.psk) g
  pub stands : ApStands (changed d x.named x.psk) 0 t (held_at a new) (add g h)

abbrev pub ApChanged : Domain → KeyChange → ℕ → ApState → ApState → List HolderEvent → List HolderEvent → List Act → Type 0
ApChanged d x a s t old new g = (h : List Act) → ApStands d 0 s (held_at a old) h → ApChanges d x a t new g h

-- and so a station
pub record StaChanges (d : Domain) (x : KeyChange) (s : ℕ) (t : StationState) (g h : List Act) : Type 0 where
  pub adds : Adds (here d 0 (Sta s)) h (Secret x.named x.psk) g
  pub stands : StationStands (changed d x.named x.psk) 0 t (add g h)

abbrev pub StaChanged : Domain → KeyChange → ℕ → StationState → StationState → List Act → Type 0
StaChanged d x a s t g = (h : List Act) → StationStands d 0 s h → StaChanges d x a t g h

-- ---- the nodes, one after the other

-- the places of those of the first n stations whose key is changed
abbrev pub sta_places : Option ℕ → NodeEvent → ℕ → List Place
sta_places named event zero = []
sta_places named event (suc n) = sta_places named event n ++ cond (is_named named n) (record { node = Sta n; event = event } ∷ []) []

-- each access point stands for its part of the journal, with the rows of its key holder
abbrev pub ApsStand : Domain → List ApState → List HolderEvent → List Entry → Type 0
ApsStand d aps seen j = (i : ℕ) (s : ApState) → slice_get aps i ≡ Some s → ApStands d 0 s (held_at i seen) (history (Ap i) j)

abbrev pub StasStand : Domain → List StationState → List Entry → Type 0
StasStand d stas j = (i : ℕ) (s : StationState) → slice_get stas i ≡ Some s → StationStands d 0 s (history (Sta i) j)

-- of the first n of these access points each, in order, added its group to the journal and stands for its part of it in the network
-- with the changed key; the others are as they were
pub record ApsSo (d : Domain) (x : KeyChange) (n : ℕ) (old new : List ApState) (before behind : List HolderEvent) (j k : List Entry) : Type 0 where
  pub count : length new ≡ length old
  pub adds : AddsAll d x.round (at_aps (Secret x.named x.psk) n) j k
  pub stand : (i : ℕ) (t : ApState) → i < n → slice_get new i ≡ Some t → ApStands (changed d x.named x.psk) 0 t (held_at i behind) (history (Ap i) k)
  pub rest : (i : ℕ) → n ≤ i → slice_get new i ≡ slice_get old i
  pub rows : (i : ℕ) → n ≤ i → i < length d.aps → held_at i behind ≡ held_at i before
  pub apart : (i : ℕ) → n ≤ i → history (Ap i) k ≡ history (Ap i) j
  pub stations : (i : ℕ) → history (Sta i) k ≡ history (Sta i) j

-- the first n of them where all are meant, or that one where one is
abbrev pub named_below : Option ℕ → ℕ → ℕ → Bool
named_below named n i = is_named named i && nat_lt i n

-- of the first n of these stations each whose key is changed did so
pub record StasSo (d : Domain) (x : KeyChange) (n : ℕ) (old new : List StationState) (j k : List Entry) : Type 0 where
  pub count : length new ≡ length old
  pub adds : AddsAll d x.round (sta_places x.named (Secret x.named x.psk) n) j k
  pub stand : (i : ℕ) (t : StationState) → named_below x.named n i ≡ true → slice_get new i ≡ Some t → StationStands (changed d x.named x.psk) 0 t (history (Sta i) k)
  pub rest : (i : ℕ) → named_below x.named n i ≡ false → slice_get new i ≡ slice_get old i
  pub apart : (i : ℕ) → named_below x.named n i ≡ false → history (Sta i) k ≡ history (Sta i) j
  pub aps : (i : ℕ) → history (Ap i) k ≡ history (Ap i) j

-- all nodes did, and stand for the journal in the network with the changed key
pub record AreChanged (x : KeyChange) (old new : Nodes) (j k : List Entry) : Type 0 where
  pub adds : AddsAll old.domain x.round (secret_places old.domain x.named x.psk) j k
  pub stand : Stand new k
  pub domain : new.domain ≡ changed old.domain x.named x.psk

-- as the code has it
abbrev pub change_of : Changing → KeyChange
change_of x = record { round = x.round; named = x.sta; psk = x.psk.now }

-- the stations stand by their numbers
abbrev pub AreStations : List StationState → Type 0
AreStations stas = (k : ℕ) (s : StationState) → slice_get stas k ≡ Some s → s.number ≡ k

-- how many of so many stations are named: one, or all
abbrev pub count_named : Option ℕ → ℕ → ℕ
count_named (Some s) stas = 1
count_named None stas = stas

-- and of the first n
abbrev pub count_below : Option ℕ → ℕ → ℕ
count_below named zero = zero
count_below named (suc n) = count_below named n + cond (is_named named n) 1 0

-- room for the acts of so many nodes
unfoldable pub room_of : Domain → ℕ → ℕ
room_of d nodes = most_changed (length d.stas) * nodes
