use Rattle.domain_rules.proofs.Noted.{noted_verified, verified_noted, data_noted}
use Rattle.domain_rules.proofs.NotedActions.{action_noted}
use Rattle.domain_rules.proofs.laws.seals_are_verified.Goals as goal

pub returns : goal.returns
returns c = record { verified = noted_verified; noted = verified_noted; opened = data_noted; announced = action_noted }
