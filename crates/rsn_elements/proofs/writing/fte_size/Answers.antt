use Rattle.std.proofs.Common.{arith}
use Rattle.rsn_elements.specs.Fields.{fte_fields}
use Rattle.rsn_elements.proofs.Appending.{fte_length}
use Rattle.rsn_elements.proofs.writing.fte_size.Goals as goal

pub overflow_add-size : goal.overflow_add-size
overflow_add-size c = omega (arith, fte_length (fte_fields c.args.fte.now))

pub overflow_add-size-2 : goal.overflow_add-size-2
overflow_add-size-2 c = omega (arith, fte_length (fte_fields c.args.fte.now))

pub overflow_add-size-3 : goal.overflow_add-size-3
overflow_add-size-3 c = omega (arith, fte_length (fte_fields c.args.fte.now))

pub overflow_add-size-4 : goal.overflow_add-size-4
overflow_add-size-4 c = omega (arith, fte_length (fte_fields c.args.fte.now))

pub overflow_cast-result : goal.overflow_cast-result
overflow_cast-result c = omega (arith, fte_length (fte_fields c.args.fte.now))
