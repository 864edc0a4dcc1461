use Rattle.domain_rules.proofs.Ended.{ends_rightly}
use Rattle.domain_rules.proofs.laws.sessions_end_by_a_key.Goals as goal

pub returns : goal.returns
returns c = ends_rightly
