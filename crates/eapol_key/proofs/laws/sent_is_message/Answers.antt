use Rattle.eapol_key.proofs.Joined.{sent_fits}
use Rattle.eapol_key.proofs.laws.sent_is_message.Goals as goal

pub returns-clause-fits : goal.returns-clause-fits
returns-clause-fits c = sent_fits
