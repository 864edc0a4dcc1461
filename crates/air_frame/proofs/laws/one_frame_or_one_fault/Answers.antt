use Rattle.air_frame.proofs.Exact.{spelled_none, spelled_is, as_read}
use Rattle.air_frame.proofs.laws.one_frame_or_one_fault.Goals as goal

pub returns : goal.returns
returns c octets f = (λ s. (spelled_none octets f s, spelled_is octets f s), λ (none, same). as_read octets f none same)
