use Rattle.std.proofs.Common.{rules}
use Rattle.authenticator.proofs.attempt.Finish.install.Goals as goal

pub returns-else-is_older-clause-installed : goal.returns-else-is_older-clause-installed
returns-else-is_older-clause-installed c = search rules steps 450000
