use Rattle.eapol_key.proofs.Written.{spelled_as_written}
use Rattle.eapol_key.proofs.laws.spelled_as_written.Goals as goal

pub returns : goal.returns
returns c f rest fits = spelled_as_written f fits rest
