use Rattle.std.proofs.Common.{sym, ap}
use Rattle.script_lines.specs.Refusals.{refusal_text}
use Rattle.script_lines.proofs.refusal.Refusal.text.Goals as goal

pub returns-in-Node : goal.returns-in-Node
returns-in-Node c = sym (ap refusal_text c.in-Node.is)
