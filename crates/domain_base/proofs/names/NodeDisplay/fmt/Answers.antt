use Rattle.std.proofs.Common.{rules}
use Rattle.domain_base.proofs.names.NodeDisplay.fmt.Goals as goal

pub returns-in-Sta-clause-writes : goal.returns-in-Sta-clause-writes
returns-in-Sta-clause-writes g c = search rules
