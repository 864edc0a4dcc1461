use Rattle.domain_rules.proofs.SomeGroupBy.{some_group_by}
use Rattle.domain_rules.proofs.laws.some_group_by.Goals as goal

pub returns : goal.returns
returns c = some_group_by
