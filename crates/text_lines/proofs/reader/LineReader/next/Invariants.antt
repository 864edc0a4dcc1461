use Rattle.std.proofs.Common.{◌-◌, ◌≡◌, ◌+◌, ◌*◌, ◌++◌, ℕ, List, length}
use Rattle.std.specs.Io.KnownBytes.{Consumes}
use Rattle.text_lines.specs.declared.limits.Limits.{Limits}
use Rattle.text_lines.specs.Reads.{HasRead}
use Rattle.text_lines.proofs.reader.LineReader.next.Given as goal

-- no call failed, and some octets were read
abbrev pub invariant-reads : goal.invariant-reads
invariant-reads g l = record {
  limits : l.self.cutter.limits ≡ l.fn.self.cutter.limits;
  lines : l.self.cutter.lines ≡ l.fn.self.cutter.lines;
  same : g.S.Source.faults l.source ≡ g.S.Source.faults l.fn.source;
  read : (b : Limits) (octets : List ℕ) (good : List (List ℕ)) → HasRead b l.fn.self octets good
      → (more : List ℕ) × (Consumes (g.S.Source.left l.fn.source) (g.S.Source.left l.source) more × HasRead b l.self (octets ++ more) good);
}

-- the open line grows; where all that was read was taken, a read comes first
abbrev pub decreases-reads : goal.decreases-reads
decreases-reads g l = 2 * (l.self.cutter.limits.octets - length l.self.cutter.line.items) + (1 - (l.self.end - l.self.at))
