use Rattle.script_lines.proofs.Worded.{part_said, part_many}
use Rattle.script_lines.proofs.events.part_line.Goals as goal

pub returns-then-count-lt-MOST_EVENTS-clause-says : goal.returns-then-count-lt-MOST_EVENTS-clause-says
returns-then-count-lt-MOST_EVENTS-clause-says c =
    part_said c.args.domain.now c.args.count c.args.sizes.now c.args.line c.args.text.now _ c.in_ok-asked.ensures.says c.if-count-lt-MOST_EVENTS.true

pub returns-clause-says : goal.returns-clause-says
returns-clause-says c =
    part_many c.args.domain.now c.args.count c.args.sizes.now c.args.line c.args.text.now _ c.in_ok-asked.ensures.says c.if-count-lt-MOST_EVENTS.false
