use Rattle.embedded_node.proofs.Believed.{believed}
use Rattle.embedded_node.proofs.laws.pushed_keys_are_believed.Goals as goal

pub returns : goal.returns
returns c = λ d a h g names ids at right. believed d a h names ids at right g
