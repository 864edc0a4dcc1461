use Rattle.std.proofs.Common.{rules}
use Rattle.rsn_elements.proofs.writing.ipn_octets.Goals as goal

pub returns : goal.returns
returns c = search rules
