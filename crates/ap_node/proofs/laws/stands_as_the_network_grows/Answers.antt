use Rattle.ap_node.proofs.Growing.{grown, grown_with}
use Rattle.ap_node.proofs.laws.stands_as_the_network_grows.Goals as goal

pub returns : goal.returns
returns c = record { grown = grown; with_rows = grown_with }
