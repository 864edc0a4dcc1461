use Rattle.std.proofs.Common.{rules}
use Rattle.group_key.proofs.keys.GroupKeys.is_pending.Goals as goal

pub returns-clause-in_use : goal.returns-clause-in_use
returns-clause-in_use c = search rules

pub returns-clause-pending : goal.returns-clause-pending
returns-clause-pending c = search rules
