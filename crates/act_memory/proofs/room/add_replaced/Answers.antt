use Rattle.std.proofs.Common.{rules}
use Rattle.act_memory.proofs.room.add_replaced.Goals as goal

pub returns-clause-acts : goal.returns-clause-acts
returns-clause-acts c = search rules
