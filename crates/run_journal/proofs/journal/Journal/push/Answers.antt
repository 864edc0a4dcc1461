use Rattle.std.proofs.Common.{rules}
use Rattle.run_journal.proofs.journal.Journal.push.Goals as goal

pub returns-in-Ok-clause-entries : goal.returns-in-Ok-clause-entries
returns-in-Ok-clause-entries c = search rules

pub returns-in-Ok-clause-spare : goal.returns-in-Ok-clause-spare
returns-in-Ok-clause-spare c = search rules
