use Rattle.script_lines.proofs.Worded.{event_said, event_many}
use Rattle.script_lines.proofs.events.event_line.Goals as goal

pub returns-then-sizes-le-MOST_FRAMES-clause-says : goal.returns-then-sizes-le-MOST_FRAMES-clause-says
returns-then-sizes-le-MOST_FRAMES-clause-says c =
    event_said c.args.domain.now c.args.sizes.now c.args.line c.args.text.now _ c.in_ok-asked.ensures.says c.if-sizes-le-MOST_FRAMES.true

pub returns-clause-says : goal.returns-clause-says
returns-clause-says c =
    event_many c.args.domain.now c.args.sizes.now c.args.line c.args.text.now _ c.in_ok-asked.ensures.says c.if-sizes-le-MOST_FRAMES.false
