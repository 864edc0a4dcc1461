use Rattle.std.proofs.Common.{rules}
use Rattle.domain_base.proofs.memory_faults.MemLinkLink.send.Goals as goal

pub returns-then-next_fails-clause-sent : goal.returns-then-next_fails-clause-sent
returns-then-next_fails-clause-sent c = search rules
