use Rattle.std.proofs.Common.{arith}
use Rattle.frame_script.specs.Script.{inner_line}
use Rattle.script_lines.specs.Script.{InRound}
use Rattle.frame_script.proofs.Rounds.{joins, stays}
use Rattle.frame_script.proofs.body.take_inner.Goals as goal

pub returns-in-Ok-make_event-clause-takes : goal.returns-in-Ok-make_event-clause-takes
returns-in-Ok-make_event-clause-takes c rounds =
    joins c.args.header.now c.args.count.now _ rounds c.args.sizes.now (inner_line c.args.header.now.network c.args.count.now c.args.sizes.now c.args.word.now c.args.text.now) c.in-Ok.asked c.in-Ok-make_event.event c.in-Ok.ensures.says c.in-Ok.ensures.can c.in-Ok-make_event.ensures (omega arith)

pub returns-in-Err-make_event-clause-takes : goal.returns-in-Err-make_event-clause-takes
returns-in-Err-make_event-clause-takes c rounds =
    stays (InRound c.args.header.now c.args.count.now) rounds c.args.sizes.now (inner_line c.args.header.now.network c.args.count.now c.args.sizes.now c.args.word.now c.args.text.now) c.in-Err-make_event.untaken c.in-Err-make_event.ensures
