use Rattle.std.proofs.Common.{rules}
use Rattle.ap_node.proofs.revoking.revoke_none.Goals as goal

pub returns : goal.returns
returns c = search rules
