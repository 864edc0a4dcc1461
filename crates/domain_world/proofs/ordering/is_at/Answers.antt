use Rattle.std.proofs.Common.{rules}
use Rattle.domain_world.proofs.ordering.is_at.Goals as goal

pub returns-in-Ap : goal.returns-in-Ap
returns-in-Ap c = search rules
