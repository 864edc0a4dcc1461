use Rattle.std.proofs.Common.{◌≡◌, ◌≤◌, ◌-◌, false, []}
use Rattle.link_steps.specs.declared.ends.LinkEnd.{LinkEnd}
use Rattle.link_runs.specs.Reading.{Reached}
use Rattle.link_runs.specs.Standing.{AreHurt, IsBegun, asked_of, faults_of, outer}
use Rattle.link_runs.specs.Stepping.{GoesOut}
use Rattle.link_runs.specs.Told.{script_limits}
use Rattle.link_runs.proofs.Closing.{SoFar}
use Rattle.link_runs.proofs.reading.read_lines.Given as goal

-- the lines so far were done, and no call failed
abbrev pub invariant-lines : goal.invariant-lines
invariant-lines g l = record {
  begun : IsBegun l.state.reader.due l.state.running;
  few : asked_of l.state.running ≤ l.lines.cutter.lines;
  count : l.lines.cutter.lines ≤ 65536;
  limits : l.lines.cutter.limits ≡ script_limits;
  same : g.S.Source.faults l.source ≡ g.S.Source.faults l.fn.source;
  reached : (end : LinkEnd)
      → Reached g.A.L.Link.told end (outer (g.A.Air.told l.fn.air) (g.D.Draws.last l.fn.draws)) (outer (g.A.Air.told l.fn.air) (g.D.Draws.last l.fn.draws)) l.fn.lines l.fn.state [] l.fn.journal.entries
      → SoFar g.A.L.Link.told end (outer (g.A.Air.told l.fn.air) (g.D.Draws.last l.fn.draws)) (outer (g.A.Air.told l.air) (g.D.Draws.last l.draws)) l.lines l.state (g.S.Source.left l.fn.source) (g.S.Source.left l.source) l.journal.entries;
  wrote : GoesOut false (g.K.Sink.out l.fn.sink) (g.K.Sink.out l.sink) (g.K.Sink.faults l.fn.sink) (g.K.Sink.faults l.sink) l.fn.journal.entries l.journal.entries;
  hurt : AreHurt false (g.A.Air.faults l.fn.air) (g.A.Air.faults l.air) (faults_of g.A.L.Link.faults l.fn.state.running) (faults_of g.A.L.Link.faults l.state.running);
  drained : g.D.Draws.faults l.draws ≡ g.D.Draws.faults l.fn.draws;
}

-- each time a line more was done
abbrev pub decreases-lines : goal.decreases-lines
decreases-lines g l = 65536 - l.lines.cutter.lines
