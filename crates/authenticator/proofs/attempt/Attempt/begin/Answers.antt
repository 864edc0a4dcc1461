use Rattle.std.proofs.Common.{rules}
use Rattle.authenticator.proofs.attempt.Attempt.begin.Goals as goal

pub returns-clause-told : goal.returns-clause-told
returns-clause-told c = search rules steps 350000
