use Rattle.std.proofs.Common.{rules}
use Rattle.frame_making.proofs.sending.assoc_resp.Goals as goal

pub returns : goal.returns
returns c = search rules steps 700000
