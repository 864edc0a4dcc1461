use Rattle.std.proofs.Common.{refl, inr}
use Rattle.domain_cli.proofs.Programs.{has_run}
use Rattle.domain_cli.proofs.program.command.Goals as goal

pub returns-in-Ok : goal.returns-in-Ok
returns-in-Ok g c = has_run _ _ _ _ c.run_words.ensures

pub returns-in-Err : goal.returns-in-Err
returns-in-Err g c = inr (c.unread.ensures.answer, refl)
