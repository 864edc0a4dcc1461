use Rattle.std.proofs.Common.{rules}
use Rattle.domain_world.proofs.working.appended.Goals as goal

pub returns : goal.returns
returns c = search rules
