use Rattle.std.proofs.Common.{rules}
use Rattle.kehtrop_c.proofs.Gone.{pushed_in}
use Rattle.kehtrop_c.proofs.kehtrop_push_r1.Goals as goal

pub returns : goal.returns
returns c = pushed_in _ _ _ _ c.args.r0kh_id.now c.args.key.now c.push-status.result c.in-Some.ensures.value c.put.ensures (search rules)
