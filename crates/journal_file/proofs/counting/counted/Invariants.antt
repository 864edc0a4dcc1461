use Rattle.std.proofs.Common.{◌≤◌, take}
use Rattle.journal_file.specs.Counting.{IsCounted}
use Rattle.journal_file.proofs.counting.counted.Given as goal

-- the octets so far are counted
abbrev pub invariant-loop-octet : goal.invariant-loop-octet
invariant-loop-octet l = record {
  counted : IsCounted (take l.octet-index l.script) l.count;
  few : l.count.lines ≤ l.octet-index;
}
