use Rattle.std.proofs.Common.{rules}
use Rattle.ccmp_guard.proofs.guard.Installed.look.Goals as goal

pub returns-in-Err-clause-fault : goal.returns-in-Err-clause-fault
returns-in-Err-clause-fault c = search rules

pub returns-in-Ok-clause-above : goal.returns-in-Ok-clause-above
returns-in-Ok-clause-above c = search rules

pub returns-in-Ok-clause-fault : goal.returns-in-Ok-clause-fault
returns-in-Ok-clause-fault c = search rules

pub returns-in-Ok-clause-key_id : goal.returns-in-Ok-clause-key_id
returns-in-Ok-clause-key_id c = search rules
