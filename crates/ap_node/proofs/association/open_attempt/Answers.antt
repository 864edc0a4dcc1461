use Rattle.ap_node.proofs.Added.{three_added}
use Rattle.ap_node.proofs.association.open_attempt.Goals as goal

pub returns-clause-acts : goal.returns-clause-acts
returns-clause-acts c = three_added _ _ _ _ _ _ _ c.add.ensures.acts c.add-2.ensures.acts c.add-3.ensures.acts
