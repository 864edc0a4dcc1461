use Rattle.ap_node.proofs.Growing.{rekeyed}
use Rattle.ap_node.proofs.laws.stands_as_keys_change.Goals as goal

pub returns : goal.returns
returns c = record { rekeyed = rekeyed }
