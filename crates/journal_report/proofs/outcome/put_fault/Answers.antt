use Rattle.journal_report.proofs.Texts.{Writes-then}
use Rattle.journal_report.proofs.Putting.{put-then}
use Rattle.journal_report.proofs.outcome.put_fault.Goals as goal

pub returns-clause-written : goal.returns-clause-written
returns-clause-written c =
    let put = c.put-at.ensures in
    Writes-then _ _ _ _ _ _ _ _ c.put_decimal-at.ensures.written (put-then _ _ _ _ _ _ _ _ put.end put.front put.rest put.len c.put_decimal.ensures.written)
