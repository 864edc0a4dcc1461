use Rattle.std.proofs.Common.{refl}
use Rattle.domain_cli.proofs.program.unread.Goals as goal

pub returns-in_default-clause-usage : goal.returns-in_default-clause-usage
returns-in_default-clause-usage c is = absurd (c.in_default.not-InvalidData is)

pub returns-in_default-clause-memory : goal.returns-in_default-clause-memory
returns-in_default-clause-memory c other = refl
