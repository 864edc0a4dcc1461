use Rattle.domain_rules.proofs.GroupsBy.{one_by, told_by_acts}
use Rattle.domain_rules.proofs.laws.one_group_by.Goals as goal

pub returns : goal.returns
returns c = record { one = one_by; told = told_by_acts }
