-- The counter of a group key that a station keeps is that of its history.
use Rattle.std.proofs.Common.{◌≡◌, ℕ, List, Option, Some, None, IfSome, sym}
use Rattle.domain_base.specs.declared.names.Node.{Node}
use Rattle.domain_base.specs.declared.names.Node.TheVariants.{Ap}
use Rattle.run_journal.specs.declared.acts.Act.{Act}
use Rattle.run_journal.specs.declared.acts.GroupKind.{GroupKind}
use Rattle.run_journal.specs.declared.acts.GroupKind.TheVariants as groups
use Rattle.group_key.specs.Keys.{Memories}
use Rattle.group_key.specs.Holds.{Remembers, RemembersAll}
use Rattle.group_key.proofs.Counting.{counter_got}
use Rattle.station_node.specs.State.{memory_at}
use Rattle.embedded_node.specs.States.{Station}
use Rattle.embedded_node.specs.Counters.{kept_of, counter_at, IsGot}

remembered : (kind : GroupKind) (p : Node) (m : Memories) (h : List Act) → RemembersAll p m h → Remembers kind p (kept_of kind m) h
remembered groups.Gtk p m h all = all.gtks
remembered groups.Igtk p m h all = all.igtks

pub is_got : (kind : GroupKind) (s : Station) (ap : ℕ) (key : List ℕ) (o : Option ℕ) → o ≡ counter_at kind s ap key → IfSome o (IsGot kind s ap key)
is_got kind s ap key None is = tt
is_got kind s ap key (Some number) is =
    let m = memory_at s.node.memories ap in
    λ first h stands. counter_got kind (Ap ap) key (kept_of kind m) h number (remembered kind (Ap ap) m h (stands.remembers ap)) (sym is)
