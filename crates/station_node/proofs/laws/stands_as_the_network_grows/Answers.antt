use Rattle.station_node.proofs.Growing.{grown}
use Rattle.station_node.proofs.laws.stands_as_the_network_grows.Goals as goal

pub returns : goal.returns
returns c = record { grown = grown }
