use Rattle.script_runs.specs.Courses.{IsListing}
use Rattle.script_runs.proofs.storming.list_stas.Given as goal

-- the stations before this place are listed
abbrev pub invariant-loop-place : goal.invariant-loop-place
invariant-loop-place l = IsListing l.storm.number 4 l.place l.world l.journal.entries
