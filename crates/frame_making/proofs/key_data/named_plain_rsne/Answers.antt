use Rattle.std.proofs.Common.{arith}
use Rattle.std.proofs.lemmas.Grind.{common_steps}
use Rattle.frame_making.proofs.key_data.named_plain_rsne.Goals as goal

pub returns : goal.returns
returns c = grind (arith, common_steps)
