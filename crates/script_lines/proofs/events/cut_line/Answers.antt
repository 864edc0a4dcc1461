use Rattle.std.proofs.Common.{sym}
use Rattle.script_lines.proofs.events.cut_line.Goals as goal

pub returns-clause-says : goal.returns-clause-says
returns-clause-says c = c.cut_frame.ensures.says c.args.text.now _ c.in-Some.ensures (sym c.in-Some-number_of_digits.ensures)
