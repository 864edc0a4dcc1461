use Rattle.eapol_key.proofs.Fronts.{same_front_spells}
use Rattle.eapol_key.proofs.laws.front_decides.Goals as goal

pub returns : goal.returns
returns c = same_front_spells
