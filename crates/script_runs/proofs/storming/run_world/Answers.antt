use Rattle.script_runs.proofs.Courses.{begins_there}
use Rattle.script_runs.proofs.storming.run_world.Goals as goal

pub run_events-requires-clause-under_way : goal.run_events-requires-clause-under_way
run_events-requires-clause-under_way c = begins_there c.args.storm.now.number c.args.storm.now _ _ c.requires.first c.in-Ok.ensures.listing

pub run_events-requires-clause-none : goal.run_events-requires-clause-none
run_events-requires-clause-none c = c.in-Ok.ensures.listing.none
