use Rattle.std.proofs.Common.{◌≡◌, ◌<◌, ◌≤◌, length}
use Rattle.holder_table.specs.Histories.{held_at}
use Rattle.holder_table.specs.Rule.{LoadsLast}
use Rattle.holder_table.specs.Knowledge.{KnowsMore}
use Rattle.holder_table.specs.Words.{name_octets}
use Rattle.holder_table.specs.Scans.{Asked, Passed}
use Rattle.holder_table.proofs.row_table.RowTable.scan.Given as goal

abbrev pub invariant-loop-place : goal.invariant-loop-place
invariant-loop-place l =
    (l.seat.table_id ≡ l.initial.seat.table_id) × (l.seat.me.1 ≡ l.initial.seat.me.1) × KnowsMore l.initial.seat.me.0 l.seat.me.0
    × Passed (Asked (name_octets l.name) l.sta) l.place (held_at l.ap l.seat.me.0.seen)
    × (0 < l.place → length (held_at l.ap l.seat.me.0.seen) ≤ 64)
    × (LoadsLast l.initial.seat.me.0 → LoadsLast l.seat.me.0)
