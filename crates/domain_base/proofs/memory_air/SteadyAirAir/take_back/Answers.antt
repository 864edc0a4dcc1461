use Rattle.std.proofs.Common.{rules}
use Rattle.domain_base.proofs.memory_air.SteadyAirAir.take_back.Goals as goal

pub returns-else-len-self-clause-dropped : goal.returns-else-len-self-clause-dropped
returns-else-len-self-clause-dropped c = search rules
