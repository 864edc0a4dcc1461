use Rattle.std.proofs.Common.{rules}
use Rattle.domain_cli.proofs.adapters.StdinSourceSource.read.Goals as goal

pub returns-in-Ok-clause-unfailed : goal.returns-in-Ok-clause-unfailed
returns-in-Ok-clause-unfailed g c = search rules
