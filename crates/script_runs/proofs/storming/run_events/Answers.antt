use Rattle.std.proofs.Common.{◌≡◌, ℕ, ◌∙◌, subst, arith}
use Rattle.script_runs.specs.Courses.{IsSoFar}
use Rattle.script_runs.specs.Storms.{all_events}
use Rattle.script_runs.proofs.Courses.{under_way_so_far}
use Rattle.script_runs.proofs.storming.run_events.Goals as goal

pub returns-clause-whole : goal.returns-clause-whole
returns-clause-whole c =
    let w = c.loop-count.world in
    let j = c.loop-count.journal.entries in
    let all : w.rounds ≡ all_events = omega (arith, c.loop-count.invariant.rounds, c.loop-count.auto.count-end, c.loop-count-test.false) in
    subst (λ (n : ℕ). IsSoFar n 4 8 all_events j) c.loop-count.invariant.number_is (under_way_so_far c.loop-count.storm w j all_events c.loop-count.invariant.under_way all)

pub loop-count-preserved : goal.loop-count-preserved
loop-count-preserved c = record {
  under_way = c.in_ok-one_event.ensures.under_way;
  rounds = omega (arith, c.in_ok-one_event.ensures.rounds, c.loop-count.invariant.rounds);
  number_is = c.one_event.ensures.number ∙ c.loop-count.invariant.number_is;
}
