use Rattle.std.proofs.Common.{sym}
use Rattle.script_lines.proofs.events.alter_frame.Goals as goal

pub returns-clause-says : goal.returns-clause-says
returns-clause-says c line word e f = c.alter_octet.ensures.says line word c.args.text.now _ e f c.in-Some.ensures (sym c.in-Some-number_of_digits.ensures)
