use Rattle.std.proofs.Common.{ap}
use Rattle.run_journal.specs.Report.{outcome_text}
use Rattle.journal_report.proofs.Putting.{put-then, Writes-as}
use Rattle.journal_report.proofs.outcome.put_outcome.Goals as goal

pub returns-in-Refused-clause-written : goal.returns-in-Refused-clause-written
returns-in-Refused-clause-written c =
    let put = c.put-at.ensures in
    Writes-as _ _ _ _ _ _ (ap outcome_text c.in-Refused.is) (put-then _ _ _ _ _ _ _ _ put.end put.front put.rest put.len c.put_reason.ensures.written)
