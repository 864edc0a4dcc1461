use Rattle.std.proofs.Common.{rules}
use Rattle.domain_world.proofs.journaling.journal_acts.Goals as goal

pub loop-act-preserved : goal.loop-act-preserved
loop-act-preserved c = search rules
