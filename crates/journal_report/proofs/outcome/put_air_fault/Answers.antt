use Rattle.std.proofs.Common.{ap}
use Rattle.run_journal.specs.Report.{air_fault_text}
use Rattle.journal_report.proofs.Putting.{then-put, Writes-as}
use Rattle.journal_report.proofs.outcome.put_air_fault.Goals as goal

pub returns-in-Short-clause-written : goal.returns-in-Short-clause-written
returns-in-Short-clause-written c =
    let put = c.put.ensures in
    Writes-as _ _ _ _ _ _ (ap air_fault_text c.in-Short.is) (then-put _ _ _ _ _ _ _ _ c.put_decimal-at.ensures.written put.end put.front put.rest put.len)

pub returns-in-Body-clause-written : goal.returns-in-Body-clause-written
returns-in-Body-clause-written c =
    let put = c.put-in-Body.ensures in
    Writes-as _ _ _ _ _ _ (ap air_fault_text c.in-Body.is) (then-put _ _ _ _ _ _ _ _ c.put_decimal-at-in-Body.ensures.written put.end put.front put.rest put.len)
