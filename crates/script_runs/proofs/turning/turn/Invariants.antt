use Rattle.std.proofs.Common.{◌≡◌, ◌+◌, ◌*◌, ◌≤◌, false, length, Ok}
use Rattle.run_journal.specs.Limits.{most_polls}
use Rattle.domain_links.specs.Telling.{SameFaults}
use Rattle.run_journal.specs.declared.domain.Domain.{Domain}
use Rattle.domain_world.specs.Owning.{Owns, IsSince}
use Rattle.script_runs.specs.Sessions.{output}
use Rattle.script_runs.specs.Turning.{TurnsIn, stage}
use Rattle.script_runs.specs.Written.{GoesOn}
use Rattle.script_runs.proofs.turning.turn.Given as goal

-- the nodes at the first places took theirs
abbrev pub invariant-loop-place : goal.invariant-loop-place
invariant-loop-place g l = record {
  len : length l.links.items ≡ length l.fn.links.items;
  own : Owns l.session.world l.journal.entries;
  since : (c : Domain) → IsSince c l.fn.session.world l.fn.journal.entries → IsSince c l.session.world l.journal.entries;
  network : l.session.world.domain ≡ l.fn.session.world.domain;
  few : l.session.world.rounds ≤ l.fn.session.world.rounds + most_polls * l.place;
  same : SameFaults g.L.Link.faults l.fn.links.items l.links.items;
  wrote : GoesOn false (output (g.K.Sink.out l.fn.sink) (g.K.Sink.faults l.fn.sink)) (output (g.K.Sink.out l.sink) (g.K.Sink.faults l.sink)) l.fn.session.writer l.session.writer l.fn.journal.entries l.journal.entries;
  takes : TurnsIn {T = Unit {0}} g.L.Link.told l.fn.session.world.domain l.place l.fn.links.items l.links.items (stage l.fn.session.world l.fn.journal.entries) (stage l.session.world l.journal.entries) (Ok (tt {0}));
}
