use Rattle.std.proofs.Common.{rules}
use Rattle.eapol_key.proofs.reading.fault_of.Goals as goal

pub returns-then-octets-ne3 : goal.returns-then-octets-ne3
returns-then-octets-ne3 c = search rules

pub returns-else-octets-ne3 : goal.returns-else-octets-ne3
returns-else-octets-ne3 c = search rules
