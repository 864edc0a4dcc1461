use Rattle.std.proofs.Common.{rules}
use Rattle.domain_base.proofs.memory.FailingCalls.fault.Goals as goal

pub returns-clause-counted : goal.returns-clause-counted
returns-clause-counted c = search rules
