use Rattle.eapol_key.proofs.Codes.{spells_with_mic}
use Rattle.eapol_key.proofs.laws.mic_alone_changes.Goals as goal

pub returns : goal.returns
returns c = spells_with_mic
