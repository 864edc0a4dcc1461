use Rattle.domain_rules.proofs.Looks.{held_right}
use Rattle.domain_rules.proofs.laws.looks_are_right.Goals as goal

pub returns : goal.returns
returns c = held_right
