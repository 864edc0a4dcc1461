use Rattle.std.proofs.Common.{reverse}
use Rattle.storm.proofs.Seeing.{Fronts}
use Rattle.storm.proofs.seen.see.Given as goal

-- the entries before this place were seen
abbrev pub invariant-loop-place : goal.invariant-loop-place
invariant-loop-place l = Fronts (reverse l.journal.entries) l.place l.seen l.frames.items
