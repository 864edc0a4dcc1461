use Rattle.std.proofs.Common.{rules}
use Rattle.ap_node.proofs.putting.puts.Goals as goal

pub returns-in-FtPsk : goal.returns-in-FtPsk
returns-in-FtPsk c = search rules
