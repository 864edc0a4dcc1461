use Rattle.std.proofs.Common.{rules}
use Rattle.rsn_elements.proofs.security.list_size.Goals as goal

pub returns : goal.returns
returns c = search rules
