use Rattle.std.proofs.Common.{rules}
use Rattle.storm.specs.Events.{late_number}
use Rattle.storm.proofs.events.late_number.Goals as goal

pub returns-clause-value : goal.returns-clause-value
unfolding late_number
returns-clause-value c = search rules steps 300000
