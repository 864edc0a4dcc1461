use Rattle.eapol_key.proofs.Seals.{sealed_fields}
use Rattle.eapol_key.proofs.laws.sealed_octets.Goals as goal

pub returns : goal.returns
returns c = sealed_fields
