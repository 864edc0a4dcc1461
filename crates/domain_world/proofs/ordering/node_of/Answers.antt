use Rattle.std.proofs.Common.{rules}
use Rattle.domain_world.proofs.ordering.node_of.Goals as goal

pub returns-in-Connect : goal.returns-in-Connect
returns-in-Connect c = search rules
