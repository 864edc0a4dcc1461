use Rattle.std.proofs.Common.{rules}
use Rattle.key_hierarchy.proofs.shared_inputs.BoxedInputs.with_nonces.Goals as goal

pub returns : goal.returns
returns c = search rules
