use Rattle.std.proofs.Common.{rules}
use Rattle.frame_making.proofs.writing.bssid.Goals as goal

pub returns-in-FromDs : goal.returns-in-FromDs
returns-in-FromDs c = search rules
