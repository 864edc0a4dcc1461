use Rattle.std.proofs.Common.{refl, ◌∙◌}
use Rattle.domain_base.proofs.Taken.{OnErr-always}
use Rattle.journal_report.proofs.Taken.{line-gone, line-part, none-gone}
use Rattle.journal_report.proofs.report.write_lines.Goals as goal

pub loop-entry-init : goal.loop-entry-init
loop-entry-init g c = record { gone = none-gone (g.K.Sink.out c.args.sink.now); same = refl }

pub loop-entry-preserved : goal.loop-entry-preserved
loop-entry-preserved g c = record {
  gone = line-gone _ _ _ c.args.entries.now c.loop-entry.entry-index c.entry-item.result c.loop-entry-test.true c.entry-item.is c.loop-entry.invariant.gone c.in_ok-write_line.ensures.ok;
  same = c.in_ok-write_line.ensures.unfailed ∙ c.loop-entry.invariant.same;
}

pub returns-in_err-write_line-clause-err : goal.returns-in_err-write_line-clause-err
returns-in_err-write_line-clause-err g c =
    OnErr-always _ _ (line-part _ _ _ c.args.entries.now c.loop-entry.entry-index c.entry-item.result c.loop-entry-test.true c.entry-item.is c.loop-entry.invariant.gone c.in_err-write_line.ensures.err)
