use Rattle.std.proofs.Common.{◌≡◌, ℕ, ◌+◌, ◌-◌, ◌≤◌, List, ◌++◌, vec_len}
use Rattle.run_journal.specs.declared.acts.Act.{Act}
use Rattle.ap_node.specs.State.{station_at}
use Rattle.ap_node.specs.Counts.{owing_below}
use Rattle.ap_node.specs.Giving.{AreGiven}
use Rattle.ap_node.proofs.giving.give_all.Given as goal

abbrev pub invariant-loop-station : goal.invariant-loop-station
invariant-loop-station l = record {
  rooms : l.fn.count ≤ l.station + vec_len l.rooms;
  in_range : l.station ≤ l.fn.count;
  few : l.owing ≤ l.station;
  counted : l.owing ≡ owing_below l.newest.gtk.place l.stations.entries l.station;
  spare : l.fn.out.spare ≤ l.out.spare + l.station;
  behind : (k : ℕ) → l.station ≤ k → station_at l.stations.entries k ≡ station_at l.fn.stations.entries k;
  given : (acts : List Act) × (l.out.acts ≡ l.fn.out.acts ++ acts) × AreGiven l.newest l.fn.stations.entries l.stations.entries l.station acts;
}

abbrev pub decreases-loop-station : goal.decreases-loop-station
decreases-loop-station l = l.fn.count - l.station
