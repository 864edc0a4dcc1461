use Rattle.std.proofs.Common.{arith}
use Rattle.std.proofs.lemmas.Grind.{common_steps}
use Rattle.domain_base.proofs.memory_air.SteadyLinkLink.poll.Goals as goal

pub returns-clause-given : goal.returns-clause-given
returns-clause-given c = grind (arith, common_steps)

pub returns-then-self-len-clause-given : goal.returns-then-self-len-clause-given
returns-then-self-len-clause-given c = grind (arith, common_steps)
