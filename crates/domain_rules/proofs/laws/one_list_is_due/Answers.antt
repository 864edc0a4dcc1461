use Rattle.domain_rules.proofs.Dues.{one_due, some_due}
use Rattle.domain_rules.proofs.laws.one_list_is_due.Goals as goal

pub returns : goal.returns
returns c = record { one = one_due; some = some_due }
