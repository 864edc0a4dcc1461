use Rattle.std.proofs.Common.{rules}
use Rattle.domain_base.proofs.memory_air.SteadyLink.keep.Goals as goal

pub returns-clause-ok : goal.returns-clause-ok
returns-clause-ok c = search rules
