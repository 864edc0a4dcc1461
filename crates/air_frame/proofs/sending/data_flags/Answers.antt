use Rattle.std.proofs.Common.{rules}
use Rattle.air_frame.proofs.sending.data_flags.Goals as goal

pub returns-in-FromDs-false : goal.returns-in-FromDs-false
returns-in-FromDs-false c = search rules
