use Rattle.script_runs.proofs.Faults.{fault_or_script, one_account, one_end, one_place, one_script}
use Rattle.script_runs.proofs.laws.one_fault.Goals as goal

pub returns-clause-script : goal.returns-clause-script
returns-clause-script c = fault_or_script

pub returns-clause-place : goal.returns-clause-place
returns-clause-place c = one_place

pub returns-clause-lines : goal.returns-clause-lines
returns-clause-lines c = one_script

pub returns-clause-told : goal.returns-clause-told
returns-clause-told c = one_account

pub returns-clause-end : goal.returns-clause-end
returns-clause-end c = one_end
