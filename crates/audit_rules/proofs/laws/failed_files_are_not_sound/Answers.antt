use Rattle.audit_rules.proofs.Failed.{fails_file}
use Rattle.audit_rules.proofs.laws.failed_files_are_not_sound.Goals as goal

pub returns : goal.returns
returns c = fails_file
