use Rattle.std.proofs.Common.{arith}
use Rattle.std.proofs.lemmas.Grind.{common_steps}
use Rattle.key_hierarchy.proofs.fast_transition.put_r0_context.Goals as goal

pub returns-clause-front : goal.returns-clause-front
returns-clause-front c = grind (arith, common_steps)
