use Rattle.std.proofs.Common.{rules}
use Rattle.run_journal.proofs.judging.judge.Goals as goal

pub returns : goal.returns
returns c = search rules
