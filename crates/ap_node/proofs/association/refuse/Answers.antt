use Rattle.std.proofs.Common.{arith}
use Rattle.std.proofs.lemmas.Grind.{common_steps}
use Rattle.ap_node.proofs.association.refuse.Goals as goal

pub returns-clause-acts : goal.returns-clause-acts
returns-clause-acts c = grind (arith, common_steps)
