use Rattle.std.proofs.Common.{rules}
use Rattle.frame_intake.proofs.Silence.{silent_air, silent_malformed, silent_profile}
use Rattle.frame_intake.proofs.judging.judge.Goals as goal

pub returns-in-NoMessage : goal.returns-in-NoMessage
returns-in-NoMessage c = search (rules, silent_air, silent_malformed, silent_profile)
