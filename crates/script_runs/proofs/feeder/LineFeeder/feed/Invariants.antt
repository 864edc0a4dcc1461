use Rattle.std.proofs.Common.{◌≡◌, ◌-◌, ◌≤◌, ◌++◌, false, List, ℕ, length, take}
use Rattle.script_runs.specs.States.{IsReady}
use Rattle.script_runs.specs.Feeders.{Reached}
use Rattle.script_runs.specs.Outer.{Outer, IsBlamed, Nobody, outer}
use Rattle.script_runs.specs.Sessions.{output}
use Rattle.script_runs.specs.Written.{GoesOn, written_of}
use Rattle.script_runs.proofs.feeder.LineFeeder.feed.Given as goal

-- the octets so far were taken, and no call failed
abbrev pub invariant-loop-at : goal.invariant-loop-at
invariant-loop-at g l = record {
  within : l.at ≤ length l.octets;
  ready : IsReady l.self.state (length l.links.items) l.self.cutter.lines l.journal.entries;
  mode : l.self.state.reader.mode ≡ l.fn.self.state.reader.mode;
  reached : (first : Outer g.row.A-L.Denot) (before : List ℕ) → Reached g.A.L.Link.told first (outer l.fn.links.items (g.A.Air.told l.fn.air) (g.D.Draws.last l.fn.draws)) l.fn.self before l.fn.journal.entries
      → Reached g.A.L.Link.told first (outer l.links.items (g.A.Air.told l.air) (g.D.Draws.last l.draws)) l.self (before ++ take l.at l.octets) l.journal.entries;
  wrote : GoesOn false (output (g.K.Sink.out l.fn.sink) (g.K.Sink.faults l.fn.sink)) (output (g.K.Sink.out l.sink) (g.K.Sink.faults l.sink)) (written_of l.fn.self.state.session) (written_of l.self.state.session) l.fn.journal.entries l.journal.entries;
  blamed : IsBlamed g.A.L.Link.faults Nobody l.fn.links.items l.links.items (g.A.Air.faults l.fn.air) (g.A.Air.faults l.air) (g.D.Draws.faults l.fn.draws) (g.D.Draws.faults l.draws);
}

abbrev pub decreases-loop-at : goal.decreases-loop-at
decreases-loop-at g l = length l.octets - l.at
