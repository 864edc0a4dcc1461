use Rattle.std.proofs.Common.{◌≡◌, ◌+◌, ◌≤◌, false, length, Ok}
use Rattle.run_journal.specs.Limits.{most_octets}
use Rattle.domain_links.specs.Telling.{SameFaults}
use Rattle.run_journal.specs.declared.domain.Domain.{Domain}
use Rattle.domain_world.specs.Owning.{Owns, IsSince}
use Rattle.script_runs.specs.Sessions.{output}
use Rattle.script_runs.specs.Turning.{TakesIn, stage}
use Rattle.script_runs.specs.Written.{GoesOn}
use Rattle.script_runs.proofs.turning.take_all.Given as goal

-- the node took so many frames
abbrev pub invariant-loop : goal.invariant-loop
invariant-loop g l = record {
  len : length l.links.items ≡ length l.fn.links.items;
  room : length l.buf ≡ most_octets;
  own : Owns l.session.world l.journal.entries;
  since : (c : Domain) → IsSince c l.fn.session.world l.fn.journal.entries → IsSince c l.session.world l.journal.entries;
  network : l.session.world.domain ≡ l.fn.session.world.domain;
  few : l.session.world.rounds ≤ l.fn.session.world.rounds + l.counter;
  same : SameFaults g.L.Link.faults l.fn.links.items l.links.items;
  wrote : GoesOn false (output (g.K.Sink.out l.fn.sink) (g.K.Sink.faults l.fn.sink)) (output (g.K.Sink.out l.sink) (g.K.Sink.faults l.sink)) l.fn.session.writer l.session.writer l.fn.journal.entries l.journal.entries;
  takes : TakesIn {T = Unit {0}} g.L.Link.told l.fn.session.world.domain l.place l.counter l.fn.links.items l.links.items (stage l.fn.session.world l.fn.journal.entries) (stage l.session.world l.journal.entries) (Ok (tt {0}));
}
