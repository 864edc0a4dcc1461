use Rattle.std.proofs.Common.{◌∙◌, sym, reverse, arith}
use Rattle.journal_report.proofs.Journals.{summary-is}
use Rattle.journal_report.proofs.summary.summary_of.Goals as goal

pub returns-clause-count : goal.returns-clause-count
returns-clause-count c =
    let is = summary-is (reverse c.args.entries.now) c.args.premises _ c.count_acts-counts.ensures in
    rw is (omega (arith, c.put_summary.ensures.written.end))

pub returns-clause-text : goal.returns-clause-text
returns-clause-text c =
    c.put_summary.ensures.written.front ∙ sym (summary-is (reverse c.args.entries.now) c.args.premises _ c.count_acts-counts.ensures)
