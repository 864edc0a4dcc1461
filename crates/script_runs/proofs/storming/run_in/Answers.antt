use Rattle.script_runs.proofs.Nodes.{listing_beside}
use Rattle.script_runs.proofs.storming.run_in.Goals as goal

pub run_world-requires-clause-listing : goal.run_world-requires-clause-listing
run_world-requires-clause-listing c = listing_beside c.args.storm.now.number _ c.args.journal.now.entries c.requires.none c.in-Ok.ensures
