use Rattle.script_runs.proofs.Courses.{front_of, unbegun, whole_of}
use Rattle.script_runs.proofs.storming.run_storm.Goals as goal

pub run_from-requires-clause-first : goal.run_from-requires-clause-first
run_from-requires-clause-first c = unbegun c.args.number c.new-storm.result c.new-storm.ensures

pub returns-in-Ok-clause-whole : goal.returns-in-Ok-clause-whole
returns-in-Ok-clause-whole c = whole_of c.looks_are_right.ensures c.args.number c.new-storm.result _ c.new-storm.ensures c.in-Ok.ensures.whole

pub returns-clause-front : goal.returns-clause-front
returns-clause-front c = front_of c.looks_are_right.ensures c.args.number c.new-storm.result _ c.new-storm.ensures c.in-Err.ensures.front
