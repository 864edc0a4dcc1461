use Rattle.packet_history.proofs.OneNode.{joined, sourced}
use Rattle.packet_history.proofs.laws.other_nodes_tell.Goals as goal

pub returns : goal.returns
returns c = record { joined = joined; sourced = sourced }
