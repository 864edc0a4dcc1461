use Rattle.std.proofs.Common.{arith}
use Rattle.storm.specs.Drawing.{after}
use Rattle.storm.proofs.Octets.{wrapped}
use Rattle.storm.proofs.generator.after.Goals as goal

pub returns : goal.returns
unfolding after
returns c = grind (arith, wrapped) steps 200000
