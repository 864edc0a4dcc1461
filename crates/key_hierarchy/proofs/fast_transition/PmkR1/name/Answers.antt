use Rattle.std.proofs.Common.{rules}
use Rattle.key_hierarchy.proofs.fast_transition.PmkR1.name.Goals as goal

pub returns : goal.returns
returns c = search rules
