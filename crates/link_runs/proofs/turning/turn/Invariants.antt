use Rattle.std.proofs.Common.{◌≡◌, List, false, length, Ok}
use Rattle.run_journal.specs.Limits.{most_octets}
use Rattle.link_lines.specs.declared.draft.LinkHeader.{LinkHeader}
use Rattle.link_runs.specs.Stepping.{GoesOut, IsAfter, Takes, asked_in}
use Rattle.link_runs.specs.Told.{Note}
use Rattle.link_runs.proofs.turning.turn.Given as goal

-- the end took so many datagrams
abbrev pub invariant-loop : goal.invariant-loop
invariant-loop g l = record {
  one : length l.running.ends.holders.ids ≡ 1;
  room : length l.buf ≡ most_octets;
  takes : (h : LinkHeader) (notes : List Note) → IsAfter h l.fn.running notes l.fn.journal.entries → Takes {T = Unit {0}} g.L.Link.told l.fn.end h l.counter l.fn.running l.running notes l.journal.entries (Ok (tt {0}));
  asked : asked_in l.running ≡ asked_in l.fn.running;
  wrote : GoesOut false (g.K.Sink.out l.fn.sink) (g.K.Sink.out l.sink) (g.K.Sink.faults l.fn.sink) (g.K.Sink.faults l.sink) l.fn.journal.entries l.journal.entries;
  hurt : g.L.Link.faults l.running.link ≡ g.L.Link.faults l.fn.running.link;
}
