use Rattle.std.proofs.Common.{◌≡◌, ◌+◌, ◌*◌, ◌-◌, ◌≤◌, List, ◌++◌, length}
use Rattle.run_journal.specs.declared.acts.Act.{Act}
use Rattle.ap_node.specs.Changing.{AreRekeyed}
use Rattle.ap_node.specs.Putting.{LeavesRest}
use Rattle.ap_node.proofs.access_point.ApNode.change_named.Given as goal

abbrev pub invariant-loop-station : goal.invariant-loop-station
invariant-loop-station over l = record {
  count : l.count ≡ length l.here.domain.now.stas;
  in_range : l.station ≤ l.count;
  rekeyed : (g : List Act) × (l.out.acts ≡ l.fn.out.acts ++ g)
      × AreRekeyed l.here.domain.now l.psk l.station l.fn.self l.self (over.H.Holders.rows l.fn.holders l.fn.self.number) (over.H.Holders.rows l.holders l.fn.self.number) g;
  number : l.self.number ≡ l.fn.self.number;
  others : LeavesRest l.fn.self.number (over.H.Holders.ids l.fn.holders) (over.H.Holders.ids l.holders) (over.H.Holders.has l.fn.holders) (over.H.Holders.has l.holders) (over.H.Holders.rows l.fn.holders) (over.H.Holders.rows l.holders);
  no_less : over.H.Holders.no_less l.fn.holders l.holders;
  spare : l.fn.out.spare ≤ l.out.spare + 4 * l.station;
}

abbrev pub decreases-loop-station : goal.decreases-loop-station
decreases-loop-station over l = l.count - l.station
