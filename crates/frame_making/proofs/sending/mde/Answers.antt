use Rattle.std.proofs.Common.{arith}
use Rattle.std.proofs.lemmas.Grind.{common_steps}
use Rattle.frame_making.proofs.sending.mde.Goals as goal

pub returns : goal.returns
returns c = grind (arith, common_steps)
