use Rattle.std.proofs.Common.{rules}
use Rattle.domain_base.proofs.memory_air.SteadyDrawsDraws.seed.Goals as goal

pub returns-clause-after : goal.returns-clause-after
returns-clause-after c = search rules
