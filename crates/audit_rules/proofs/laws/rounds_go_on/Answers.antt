use Rattle.audit_rules.proofs.Going.{start_sound, round_sound}
use Rattle.audit_rules.proofs.laws.rounds_go_on.Goals as goal

pub returns : goal.returns
returns c = record { start = start_sound; round = round_sound }
