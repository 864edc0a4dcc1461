use Rattle.node_safety.proofs.Reached.{used_reached}
use Rattle.node_safety.proofs.uses_once.Goals as goal

pub returns : goal.returns
returns c = used_reached
