use Rattle.domain_rules.proofs.Example.{renewal_explained}
use Rattle.domain_rules.proofs.laws.renewal_is_explained.Goals as goal

pub returns : goal.returns
returns c = renewal_explained
