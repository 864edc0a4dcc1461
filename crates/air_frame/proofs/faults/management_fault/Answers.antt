use Rattle.std.proofs.Common.{arith}
use Rattle.std.proofs.lemmas.Grind.{common_steps}
use Rattle.air_frame.proofs.faults.management_fault.Goals as goal

pub overflow_add-fixed_length : goal.overflow_add-fixed_length
overflow_add-fixed_length c = grind (arith, common_steps)
