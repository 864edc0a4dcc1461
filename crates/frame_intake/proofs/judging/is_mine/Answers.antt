use Rattle.std.proofs.Common.{rules}
use Rattle.frame_intake.proofs.judging.is_mine.Goals as goal

pub returns : goal.returns
returns c = search rules
