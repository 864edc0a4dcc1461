use Rattle.std.proofs.Common.{rules}
use Rattle.domain_world.proofs.journaling.number.Goals as goal

pub returns-in-Sent-clause-number : goal.returns-in-Sent-clause-number
returns-in-Sent-clause-number c = search rules
