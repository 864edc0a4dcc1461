use Rattle.std.proofs.Common.{rules}
use Rattle.key_hierarchy.proofs.shared_inputs.are_same.Goals as goal

pub returns-then-eq-8 : goal.returns-then-eq-8
returns-then-eq-8 c = search rules
