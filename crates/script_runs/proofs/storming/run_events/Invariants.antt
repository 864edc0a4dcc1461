use Rattle.std.proofs.Common.{◌≡◌, ℕ}
use Rattle.script_runs.specs.Courses.{IsUnderWay}
use Rattle.script_runs.proofs.storming.run_events.Given as goal

-- so many events were run
pub record SoMany (under_way_ : Type 0) (run count number old : ℕ) : Type 0 where
  pub under_way : under_way_
  pub rounds : run ≡ count
  pub number_is : number ≡ old

abbrev pub invariant-loop-count : goal.invariant-loop-count
invariant-loop-count l = SoMany (IsUnderWay l.storm l.world l.journal.entries) l.world.rounds l.count l.storm.number l.fn.storm.number
