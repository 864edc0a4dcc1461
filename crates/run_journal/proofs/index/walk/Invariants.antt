use Rattle.run_journal.proofs.Walks.{Walked, left}
use Rattle.run_journal.proofs.index.walk.Given as goal

abbrev pub invariant-loop-place : goal.invariant-loop-place
invariant-loop-place l = Walked l.fn.breadth l.question l.entries l.place

abbrev pub decreases-loop-place : goal.decreases-loop-place
decreases-loop-place l = left l.place
