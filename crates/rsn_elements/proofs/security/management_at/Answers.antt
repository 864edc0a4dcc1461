use Rattle.std.proofs.Common.{rules}
use Rattle.rsn_elements.proofs.security.management_at.Goals as goal

pub returns : goal.returns
returns c = search rules
