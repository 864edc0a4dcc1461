use Rattle.std.proofs.Common.{arith}
use Rattle.std.proofs.lemmas.Grind.{common_steps}
use Rattle.air_frame.proofs.faults.data_fault.Goals as goal

pub fragment-requires : goal.fragment-requires
fragment-requires c = grind (arith, common_steps)
