use Rattle.domain_base.proofs.Taken.{OnErr-always}
use Rattle.run_journal.specs.Report.{line}
use Rattle.journal_report.proofs.Waiting.{both-gone, first-gone, line-comes, second-gone}
use Rattle.journal_report.proofs.writer.add_line.Goals as goal

pub returns-in_err-write_all-clause-err : goal.returns-in_err-write_all-clause-err
returns-in_err-write_all-clause-err g c =
    OnErr-always _ _ (first-gone _ _ _ (line c.args.entry.now) c.in_err-write_all.ensures.err)

pub returns-in_err-write_line-clause-err : goal.returns-in_err-write_line-clause-err
returns-in_err-write_line-clause-err g c =
    OnErr-always _ _ (second-gone _ _ _ _ _ c.in_ok-write_all.ensures.ok c.in_err-write_line.ensures.err)

pub returns-clause-ok : goal.returns-clause-ok
returns-clause-ok g c = both-gone _ _ _ _ _ c.in_ok-write_all.ensures.ok c.in_ok-write_line.ensures.ok

pub returns-then-line_fits-clause-ok : goal.returns-then-line_fits-clause-ok
returns-then-line_fits-clause-ok g c =
    line-comes _ _ _ _ _ _ _ c.split_at_mut-room.ensures.front_len c.split_at_mut-room.ensures.front c.line_of-count.ensures.text
