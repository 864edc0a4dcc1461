use Rattle.std.proofs.Common.{rules}
use Rattle.ccmp_guard.proofs.guard.Installed.protect.Goals as goal

pub returns-clause-fault : goal.returns-clause-fault
returns-clause-fault c = search rules

pub returns-clause-guard : goal.returns-clause-guard
returns-clause-guard c = search rules

pub returns-clause-header : goal.returns-clause-header
returns-clause-header c = search rules

pub returns-clause-sealed : goal.returns-clause-sealed
returns-clause-sealed c = search rules
