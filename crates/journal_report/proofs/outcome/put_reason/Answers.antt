use Rattle.std.proofs.Common.{ap}
use Rattle.run_journal.specs.Report.{reason_text}
use Rattle.journal_report.proofs.Putting.{put-then, Writes-as}
use Rattle.journal_report.proofs.outcome.put_reason.Goals as goal

pub returns-in-Malformed-clause-written : goal.returns-in-Malformed-clause-written
returns-in-Malformed-clause-written c =
    let put = c.put-at.ensures in
    Writes-as _ _ _ _ _ _ (ap reason_text c.in-Malformed.is) (put-then _ _ _ _ _ _ _ _ put.end put.front put.rest put.len c.put_malformed.ensures.written)
