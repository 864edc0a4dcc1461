use Rattle.std.proofs.Common.{refl}
use Rattle.data_frames.proofs.group.KeptKey.has_taken.Goals as goal

pub returns : goal.returns
returns c = refl
