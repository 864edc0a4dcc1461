use Rattle.std.proofs.Common.{◌∙◌, ◌++◌, ℕ, ap, codes, decimal, sym}
use Rattle.run_journal.specs.Report.{malformed_text, numbered}
use Rattle.journal_report.proofs.Putting.{put-then, Writes-as}
use Rattle.journal_report.proofs.outcome.put_malformed.Goals as goal

pub returns-in-Air-clause-written : goal.returns-in-Air-clause-written
returns-in-Air-clause-written c =
    let put = c.put-at.ensures in
    Writes-as _ _ _ _ _ _ (ap malformed_text c.in-Air.is) (put-then _ _ _ _ _ _ _ _ put.end put.front put.rest put.len c.put_air_fault.ensures.written)

pub returns-in-Key-clause-written : goal.returns-in-Key-clause-written
returns-in-Key-clause-written c =
    let put = c.put-at-in-Key.ensures in
    let is = ap malformed_text c.in-Key.is ∙ ap (λ (n : ℕ). codes "2 " ++ numbered (decimal c.in-Key.fault.place) n) (sym (c.from.ensures ∙ c.code.ensures)) in
    Writes-as _ _ _ _ _ _ is (put-then _ _ _ _ _ _ _ _ put.end put.front put.rest put.len c.put_fault.ensures.written)

pub returns-in-Elements-clause-written : goal.returns-in-Elements-clause-written
returns-in-Elements-clause-written c =
    let put = c.put-at-in-Elements.ensures in
    let is = ap malformed_text c.in-Elements.is ∙ ap (λ (n : ℕ). codes "3 " ++ numbered (decimal c.in-Elements.fault.place) n) (sym (c.from-in-Elements.ensures ∙ c.code-in-Elements.ensures)) in
    Writes-as _ _ _ _ _ _ is (put-then _ _ _ _ _ _ _ _ put.end put.front put.rest put.len c.put_fault-in-Elements.ensures.written)
