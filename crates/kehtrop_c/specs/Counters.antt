-- The receive counter of a group key that is told as it is installed, or goes on (profile).
use Rattle.std.specs.Prelude.{ℕ, List, unwrap_or}
use Rattle.domain_base.specs.declared.names.Node.{Node}
use Rattle.domain_base.specs.declared.names.Node.TheVariants.{Ap as ApOf, Sta as StaOf}
use Rattle.domain_base.specs.declared.names.Peer.{Peer}
use Rattle.domain_base.specs.declared.names.Peer.TheVariants.{One, All}
use Rattle.run_journal.specs.declared.acts.Act.{Act}
use Rattle.run_journal.specs.declared.acts.Act.TheVariants.{Installed, Resumed}
use Rattle.run_journal.specs.declared.acts.GroupKind.{GroupKind}
use Rattle.run_journal.specs.declared.acts.Key.{Key}
use Rattle.run_journal.specs.declared.acts.Key.TheVariants.{Pairwise, Group}
use Rattle.embedded_node.specs.Counters.{counter_at}
use Rattle.embedded_node.specs.States.{Station}

-- of a group key that a station keeps of the access point: what counts as received under it (IEEE Std 802.11-2020, 12.5.4.4,
-- 12.7.7)
abbrev pub counter_from : Station → GroupKind → List ℕ → Node → ℕ
counter_from s kind key (ApOf k) = unwrap_or (counter_at kind s k key) 0
counter_from s kind key (StaOf k) = 0

-- of a key with that node: 0 of a pairwise one, under which nothing was received yet
abbrev pub counter_between : Station → Node → Key → ℕ
counter_between s p (Pairwise tk inputs) = 0
counter_between s p (Group kind key id bssid) = counter_from s kind key p

abbrev pub counter_with : Station → Peer → Key → ℕ
counter_with s (One p) key = counter_between s p key
counter_with s All key = 0

-- of the key that the act of a station installs, or lets go on
abbrev pub counter_told : Station → Act → ℕ
counter_told s (Installed q key) = counter_with s q key
counter_told s (Resumed p key) = counter_between s p key
counter_told s _ = 0
