use Rattle.script_runs.specs.Courses.{IsListing}
use Rattle.script_runs.proofs.storming.list_aps.Given as goal

-- the access points before this place are listed
abbrev pub invariant-loop-place : goal.invariant-loop-place
invariant-loop-place l = IsListing l.storm.number l.place 0 l.world l.journal.entries
