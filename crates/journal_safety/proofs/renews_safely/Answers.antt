use Rattle.journal_safety.proofs.Renewing.{follows_run, unused_run}
use Rattle.journal_safety.proofs.renews_safely.Goals as goal

pub returns-clause-follows : goal.returns-clause-follows
returns-clause-follows c = follows_run

pub returns-clause-former : goal.returns-clause-former
returns-clause-former c = unused_run
