use Rattle.audit_rules.proofs.Judged.{met_round, fails_round, held_round}
use Rattle.audit_rules.proofs.laws.rounds_end_at_the_first.Goals as goal

pub returns : goal.returns
returns c = record { met = met_round; fails = fails_round; held = held_round }
