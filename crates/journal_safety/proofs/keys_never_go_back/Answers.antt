use Rattle.journal_safety.proofs.Order.{never_back_run}
use Rattle.journal_safety.proofs.keys_never_go_back.Goals as goal

pub returns : goal.returns
returns c = never_back_run
