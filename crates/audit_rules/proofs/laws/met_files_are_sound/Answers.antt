use Rattle.audit_rules.proofs.Files.{met_file}
use Rattle.audit_rules.proofs.laws.met_files_are_sound.Goals as goal

pub returns : goal.returns
returns c = met_file
