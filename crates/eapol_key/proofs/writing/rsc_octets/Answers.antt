use Rattle.std.proofs.Common.{rules}
use Rattle.eapol_key.proofs.writing.rsc_octets.Goals as goal

pub returns : goal.returns
returns c = search rules
