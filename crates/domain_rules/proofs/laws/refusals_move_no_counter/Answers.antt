use Rattle.domain_rules.proofs.Unmoved.{pairwise_unmoved, group_unmoved, integrity_unmoved}
use Rattle.domain_rules.proofs.laws.refusals_move_no_counter.Goals as goal

pub returns : goal.returns
returns c = record { pairwise = pairwise_unmoved; group = group_unmoved; integrity = integrity_unmoved }
