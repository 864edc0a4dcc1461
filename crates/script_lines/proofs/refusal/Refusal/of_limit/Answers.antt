use Rattle.std.proofs.Common.{sym, ap}
use Rattle.script_lines.specs.Refusals.{limit_of}
use Rattle.script_lines.proofs.refusal.Refusal.of_limit.Goals as goal

pub returns-in-5 : goal.returns-in-5
returns-in-5 c = sym (ap limit_of c.in-5.is)
