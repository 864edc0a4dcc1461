use Rattle.std.proofs.Common.{arith, refl}
use Rattle.script_lines.proofs.Sized.{sized_at, size_said}
use Rattle.script_lines.proofs.events.size_of.Goals as goal

pub bounds-sizes-number : goal.bounds-sizes-number
bounds-sizes-number c = omega arith

pub returns-then-number-sizes-clause-sized : goal.returns-then-number-sizes-clause-sized
returns-then-number-sizes-clause-sized c = sized_at c.args.sizes.now c.args.number _ (omega arith) (omega arith) refl

pub returns-then-number-sizes-clause-value : goal.returns-then-number-sizes-clause-value
returns-then-number-sizes-clause-value c = size_said c.args.sizes.now c.args.number _ (omega arith) (omega arith) refl
