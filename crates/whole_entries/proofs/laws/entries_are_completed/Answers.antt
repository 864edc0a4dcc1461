use Rattle.whole_entries.proofs.Completing.{completed, network_bare}
use Rattle.whole_entries.proofs.laws.entries_are_completed.Goals as goal

pub returns-clause-whole : goal.returns-clause-whole
returns-clause-whole c = completed

pub returns-clause-network : goal.returns-clause-network
returns-clause-network c = network_bare
