use Rattle.std.proofs.Common.{rules}
use Rattle.holder_table.proofs.cached_bound.CachedBoundHolders.put.Goals as goal

pub returns-clause-puts : goal.returns-clause-puts
returns-clause-puts c = search rules

pub returns-clause-wants : goal.returns-clause-wants
returns-clause-wants c = search rules
