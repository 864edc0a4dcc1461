use Rattle.ap_node.proofs.association.network_status.Goals as goal

pub returns : goal.returns
returns c = c.rsne_status.ensures
