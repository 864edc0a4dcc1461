use Rattle.std.proofs.Common.{arith}
use Rattle.frame_making.proofs.Elements.{fte_few}
use Rattle.frame_making.proofs.sending.response_fte.Goals as goal

pub returns-clause-few : goal.returns-clause-few
returns-clause-few c = grind (arith, fte_few)
