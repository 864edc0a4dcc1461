use Rattle.std.proofs.Common.{refl}
use Rattle.run_journal.proofs.addresses.is_group.Goals as goal

pub returns : goal.returns
returns c = refl
