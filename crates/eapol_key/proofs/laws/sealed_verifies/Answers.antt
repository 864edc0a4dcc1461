use Rattle.eapol_key.proofs.Seals.{sealed_mic}
use Rattle.eapol_key.proofs.laws.sealed_verifies.Goals as goal

pub returns : goal.returns
returns c = sealed_mic
