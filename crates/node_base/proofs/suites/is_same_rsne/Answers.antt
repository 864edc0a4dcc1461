use Rattle.std.proofs.Common.{rules}
use Rattle.node_base.proofs.suites.is_same_rsne.Goals as goal

pub returns-in-Some : goal.returns-in-Some
returns-in-Some c = search rules steps 500000
