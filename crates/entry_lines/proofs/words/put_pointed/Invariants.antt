use Rattle.std.proofs.Common.{◌≡◌, ◌≤◌, ◌+◌, length, take}
use Rattle.journal_report.specs.Writing.{Writes}
use Rattle.entry_lines.specs.Lines.{pointed}
use Rattle.entry_lines.proofs.words.put_pointed.Given as goal

-- the octets so far stand there
abbrev pub invariant-loop-octet : goal.invariant-loop-octet
invariant-loop-octet l = record {
  written : Writes (pointed (take l.octet-index l.text)) l.at l.fn.out l.end l.out;
  room : l.end ≡ l.at + l.octet-index;
  few : l.end ≤ l.at + length l.text;
}
