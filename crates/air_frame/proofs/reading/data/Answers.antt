use Rattle.std.proofs.Common.{arith}
use Rattle.std.proofs.lemmas.Grind.{common_steps}
use Rattle.air_frame.proofs.reading.data.Goals as goal

pub returns-then-is_protected-2 : goal.returns-then-is_protected-2
returns-then-is_protected-2 c = grind (arith, common_steps)

pub returns-else-is_protected-2 : goal.returns-else-is_protected-2
returns-else-is_protected-2 c = grind (arith, common_steps)
