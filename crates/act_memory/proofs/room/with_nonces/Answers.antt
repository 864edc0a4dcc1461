use Rattle.std.proofs.Common.{rules}
use Rattle.act_memory.proofs.room.with_nonces.Goals as goal

pub returns : goal.returns
returns c = search rules
