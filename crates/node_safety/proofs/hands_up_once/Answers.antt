use Rattle.node_safety.proofs.Reached.{up_reached}
use Rattle.node_safety.proofs.hands_up_once.Goals as goal

pub returns : goal.returns
returns c = up_reached
