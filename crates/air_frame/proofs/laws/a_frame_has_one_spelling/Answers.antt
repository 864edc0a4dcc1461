use Rattle.air_frame.proofs.Written.{written}
use Rattle.air_frame.proofs.laws.a_frame_has_one_spelling.Goals as goal

pub returns : goal.returns
returns c octets f bound s k = written octets bound f s k
