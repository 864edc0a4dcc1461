use Rattle.std.proofs.Common.{rules}
use Rattle.act_memory.proofs.room.add_group_key.Goals as goal

pub returns-then-news-clause-acts : goal.returns-then-news-clause-acts
returns-then-news-clause-acts c = search rules
