use Rattle.domain_rules.proofs.Dues.{explained_is_due}
use Rattle.domain_rules.proofs.laws.explained_is_due.Goals as goal

pub returns : goal.returns
returns c = explained_is_due
