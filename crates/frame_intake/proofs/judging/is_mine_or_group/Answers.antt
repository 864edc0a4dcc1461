use Rattle.std.proofs.Common.{rules}
use Rattle.frame_intake.proofs.judging.is_mine_or_group.Goals as goal

pub returns-else-is_mine : goal.returns-else-is_mine
returns-else-is_mine c = search rules
