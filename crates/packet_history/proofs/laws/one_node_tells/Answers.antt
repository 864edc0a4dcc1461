use Rattle.packet_history.proofs.OneNode.{installs, uses, once}
use Rattle.packet_history.proofs.laws.one_node_tells.Goals as goal

pub returns : goal.returns
returns c = record { installs = installs; uses = uses; once = once }
