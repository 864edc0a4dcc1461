use Rattle.std.proofs.Common.{arith}
use Rattle.std.proofs.lemmas.Grind.{common_steps}
use Rattle.key_hierarchy.proofs.fast_transition.ft_context.Goals as goal

pub returns : goal.returns
returns c = grind (arith, common_steps)
