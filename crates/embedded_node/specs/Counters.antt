-- The receive counters of the group keys that a station keeps (IEEE Std 802.11-2020, 12.5.4.4, 12.7.7, profile).
use Rattle.std.specs.Prelude.{◌≡◌, ℕ, List, Option, Some}
use Rattle.domain_base.specs.declared.names.Node.TheVariants.{Ap}
use Rattle.run_journal.specs.declared.acts.GroupKind.{GroupKind}
use Rattle.run_journal.specs.declared.acts.GroupKind.TheVariants as groups
use Rattle.run_journal.specs.declared.acts.Act.{Act}
use Rattle.domain_rules.specs.IntegrityKeys as integrity
use Rattle.group_key.specs.Keys.{Kept, Memories, kept_counter, kept_id}
use Rattle.station_node.specs.State.{memory_at}
use Rattle.station_node.specs.Stands.{Stands}
use Rattle.embedded_node.specs.States.{Station}

-- the group keys of a kind that a station keeps of one access point
abbrev pub kept_of : GroupKind → Memories → List Kept
kept_of groups.Gtk m = m.gtks
kept_of groups.Igtk m = m.igtks

-- the counter of a group key of that kind of access point ap, where the station keeps the key
abbrev pub counter_at : GroupKind → Station → ℕ → List ℕ → Option ℕ
counter_at kind s ap key = kept_counter key (kept_of kind (memory_at s.node.memories ap))

-- In each history that the station stands for, the number is the one to which the history puts the counter of that key of access point ap,
-- under the key id that the key was installed with
abbrev pub IsGot : GroupKind → Station → ℕ → List ℕ → ℕ → Type 0
IsGot kind s ap key number =
    (first : ℕ) (h : List Act) → Stands s.domain first s.node h
    → (id : ℕ) × (kept_id key (kept_of kind (memory_at s.node.memories ap)) ≡ Some id) × integrity.IsGot kind (Ap ap) key id h number
