use Rattle.station_node.proofs.Growing.{rekeyed}
use Rattle.station_node.proofs.laws.stands_as_other_keys_change.Goals as goal

pub returns : goal.returns
returns c = record { rekeyed = rekeyed }
