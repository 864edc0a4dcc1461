use Rattle.journal_safety.proofs.AllParts.{joined_run}
use Rattle.journal_safety.proofs.joins.Goals as goal

pub returns : goal.returns
returns c = joined_run
