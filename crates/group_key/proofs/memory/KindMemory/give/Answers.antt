use Rattle.std.proofs.Common.{rules}
use Rattle.group_key.proofs.memory.KindMemory.give.Goals as goal

pub returns-2-clause-memory : goal.returns-2-clause-memory
returns-2-clause-memory c = search rules

pub returns-3-clause-memory : goal.returns-3-clause-memory
returns-3-clause-memory c = search rules

pub returns-3-clause-what : goal.returns-3-clause-what
returns-3-clause-what c = search rules
