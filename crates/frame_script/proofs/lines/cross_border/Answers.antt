use Rattle.frame_script.proofs.Taking.{begins, ends}
use Rattle.frame_script.proofs.lines.cross_border.Goals as goal

pub returns-then-sizes-le-MOST_FRAMES-clause-takes :
    goal.returns-then-sizes-le-MOST_FRAMES-clause-takes
returns-then-sizes-le-MOST_FRAMES-clause-takes c rounds = rw c.in-Nodes.is (begins c.in-Nodes.header rounds c.args.sizes.now c.if-sizes-le-MOST_FRAMES.true)

pub returns-in-Round-clause-takes : goal.returns-in-Round-clause-takes
returns-in-Round-clause-takes c rounds = rw c.in-Round.is (ends c.in-Round.header c.in-Round.count rounds c.args.sizes.now)
