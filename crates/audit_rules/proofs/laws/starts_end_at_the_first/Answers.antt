use Rattle.audit_rules.proofs.Started.{met_start, fails_start, held_start}
use Rattle.audit_rules.proofs.laws.starts_end_at_the_first.Goals as goal

pub returns : goal.returns
returns c = record { met = met_start; fails = fails_start; held = held_start }
