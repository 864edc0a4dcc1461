use Rattle.std.proofs.Common.{rules}
use Rattle.group_key.proofs.memory.raised.Goals as goal

pub returns-clause-counter : goal.returns-clause-counter
returns-clause-counter c = search rules
