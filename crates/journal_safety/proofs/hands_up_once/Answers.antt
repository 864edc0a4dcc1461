use Rattle.journal_safety.proofs.AllParts.{from_frames_run, sourced_run, up_once_run}
use Rattle.journal_safety.proofs.hands_up_once.Goals as goal

pub returns-clause-sourced : goal.returns-clause-sourced
returns-clause-sourced c = sourced_run

pub returns-clause-sent : goal.returns-clause-sent
returns-clause-sent c = from_frames_run

pub returns-clause-once : goal.returns-clause-once
returns-clause-once c = up_once_run
