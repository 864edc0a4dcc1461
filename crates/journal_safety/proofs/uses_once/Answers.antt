use Rattle.journal_safety.proofs.AllParts.{used_once_run}
use Rattle.journal_safety.proofs.uses_once.Goals as goal

pub returns : goal.returns
returns c = used_once_run
