use Rattle.std.proofs.Common.{rules}
use Rattle.air_frame.proofs.faults.is_short_sealed.Goals as goal

pub returns : goal.returns
returns c = search rules
