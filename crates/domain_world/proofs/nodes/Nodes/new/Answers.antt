use Rattle.std.proofs.Common.{[]}
use Rattle.domain_world.proofs.Stepping.{stand_none}
use Rattle.domain_world.proofs.nodes.Nodes.new.Goals as goal

pub returns-clause-stand : goal.returns-clause-stand
returns-clause-stand c = stand_none _ [] c.new-3.ensures.items c.new-4.ensures.items
