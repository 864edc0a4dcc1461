use Rattle.std.proofs.Common.{rules}
use Rattle.rsn_elements.proofs.transition.is_right.Goals as goal

pub returns-in-3 : goal.returns-in-3
returns-in-3 c = search rules
