use Rattle.std.proofs.Common.{◌-◌, length, take}
use Rattle.run_journal.specs.Looking.{Indexed, IndexHasRoom}
use Rattle.run_journal.proofs.index.Index.over.Given as goal

-- the entries so far are indexed, and there is room for the others
abbrev pub invariant-loop-entry : goal.invariant-loop-entry
invariant-loop-entry l = record {
  indexed : Indexed (take l.entry-index l.entries) l.index;
  room : IndexHasRoom (length l.entries - l.entry-index) l.index;
}
