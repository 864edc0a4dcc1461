use Rattle.node_safety.proofs.Reached.{groups_reached}
use Rattle.node_safety.proofs.installs_group_keys.Goals as goal

pub returns : goal.returns
returns c = groups_reached
