use Rattle.journal_safety.proofs.AllParts.{installed_once_run}
use Rattle.journal_safety.proofs.installs_once.Goals as goal

pub returns : goal.returns
returns c = installed_once_run
