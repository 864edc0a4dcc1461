use Rattle.eapol_key.proofs.Reread.{read_as_written}
use Rattle.eapol_key.proofs.laws.read_as_written.Goals as goal

pub returns : goal.returns
returns c octets f used few s = read_as_written octets few f used s
