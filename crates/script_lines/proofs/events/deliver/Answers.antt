use Rattle.std.proofs.Common.{arith}
use Rattle.script_lines.proofs.events.deliver.Goals as goal

pub returns-clause-can : goal.returns-clause-can
returns-clause-can c = (c.in-Some.ensures.inside, c.in-Some-size_of.ensures.sized 0 (omega arith))
