use Rattle.std.proofs.Common.{◌≡◌, ◌-◌, false, List, ℕ, [], length}
use Rattle.std.specs.Io.KnownBytes.{Consumes}
use Rattle.script_runs.specs.States.{IsReady}
use Rattle.script_runs.specs.Feeders.{Reached}
use Rattle.script_runs.specs.Outer.{IsBlamed, Nobody, outer}
use Rattle.script_runs.specs.Transcripts.{IsCopy}
use Rattle.script_runs.specs.Sessions.{output}
use Rattle.script_runs.specs.Written.{GoesOn, written_of}
use Rattle.script_runs.proofs.reading.read_through.Given as goal

-- the octets so far are those that the source gave, the feeder stands for them, and no call failed
abbrev pub invariant-reads : goal.invariant-reads
invariant-reads g l = record {
  ready : IsReady l.feeder.state (length l.links.items) l.feeder.cutter.lines l.journal.entries;
  mode : l.feeder.state.reader.mode ≡ l.fn.feeder.state.reader.mode;
  same : g.S.Source.faults l.source ≡ g.S.Source.faults l.fn.source;
  room : length l.piece ≡ 512;
  reached : (octets : List ℕ) × Consumes (g.S.Source.left l.fn.source) (g.S.Source.left l.source) octets
      × Reached g.A.L.Link.told (outer [] (g.A.Air.told l.fn.air) (g.D.Draws.last l.fn.draws)) (outer l.links.items (g.A.Air.told l.air) (g.D.Draws.last l.draws)) l.feeder octets l.journal.entries × (l.total ≡ length octets) × IsCopy l.fn.copy l.copy octets;
  wrote : GoesOn false (output (g.K.Sink.out l.fn.sink) (g.K.Sink.faults l.fn.sink)) (output (g.K.Sink.out l.sink) (g.K.Sink.faults l.sink)) (written_of l.fn.feeder.state.session) (written_of l.feeder.state.session) l.fn.journal.entries l.journal.entries;
  blamed : IsBlamed g.A.L.Link.faults Nobody l.fn.links.items l.links.items (g.A.Air.faults l.fn.air) (g.A.Air.faults l.air) (g.D.Draws.faults l.fn.draws) (g.D.Draws.faults l.draws);
}

-- a script has no more octets than its limits allow
abbrev pub decreases-reads : goal.decreases-reads
decreases-reads g l = 536944641 - l.total
