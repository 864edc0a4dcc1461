use Rattle.node_safety.proofs.Reached.{pairwise_reached}
use Rattle.node_safety.proofs.installs_pairwise_once.Goals as goal

pub returns : goal.returns
returns c = pairwise_reached
