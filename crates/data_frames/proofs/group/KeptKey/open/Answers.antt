use Rattle.std.proofs.Common.{arith}
use Rattle.std.proofs.Common.{rules}
use Rattle.std.proofs.lemmas.Grind.{common_steps}
use Rattle.data_frames.proofs.group.KeptKey.open.Goals as goal

pub returns-then-has_taken-clause-stopped : goal.returns-then-has_taken-clause-stopped
returns-then-has_taken-clause-stopped c = search rules

pub returns-in_default-clause-opened : goal.returns-in_default-clause-opened
returns-in_default-clause-opened c = grind (arith, common_steps)
