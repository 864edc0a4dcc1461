use Rattle.std.proofs.Common.{rules}
use Rattle.node_base.proofs.pairwise.pairwise_key.Goals as goal

pub returns : goal.returns
returns c = search rules
