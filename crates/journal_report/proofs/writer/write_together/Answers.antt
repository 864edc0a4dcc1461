use Rattle.std.proofs.Common.{refl, ◌∙◌, arith}
use Rattle.std.proofs.lemmas.Result.{on_ok_weaker, on_err_weaker}
use Rattle.domain_base.proofs.Taken.{OnErr-always}
use Rattle.journal_report.proofs.Waiting.{all-gone, line-waits, line-waits-part, nothing-waits, part-gone}
use Rattle.journal_report.proofs.writer.write_together.Goals as goal

pub loop-entry-init : goal.loop-entry-init
loop-entry-init g c = record { waits = nothing-waits (g.K.Sink.out c.args.sink.now); within = omega arith; long = c.requires; same = refl }

pub loop-entry-preserved : goal.loop-entry-preserved
loop-entry-preserved g c =
    let gone = c.in_ok-waiting.ensures.ok in
    record {
      waits = line-waits _ _ _ c.args.entries.now c.loop-entry.entry-index c.entry-item.result _ _ gone.0 c.loop-entry-test.true c.entry-item.is c.loop-entry.invariant.waits gone.1 gone.2;
      within = c.in_ok-waiting.ensures.within;
      long = c.add_line.auto.buffer ∙ c.loop-entry.invariant.long;
      same = c.in_ok-waiting.ensures.unfailed ∙ c.loop-entry.invariant.same;
    }

pub returns-in_err-waiting-clause-err : goal.returns-in_err-waiting-clause-err
returns-in_err-waiting-clause-err g c =
    OnErr-always _ _ (line-waits-part _ _ _ c.args.entries.now c.loop-entry.entry-index c.entry-item.result _ c.loop-entry-test.true c.entry-item.is c.loop-entry.invariant.waits c.in_err-waiting.ensures.err)

pub returns-clause-ok : goal.returns-clause-ok
returns-clause-ok g c =
    on_ok_weaker c.write_all.result (all-gone _ _ _ c.args.entries.now c.loop-entry.entry-index _ (omega (arith, c.loop-entry-test.false)) c.loop-entry.invariant.waits) c.write_all.ensures.ok

pub returns-clause-err : goal.returns-clause-err
returns-clause-err g c =
    on_err_weaker c.write_all.result (part-gone _ _ _ c.args.entries.now c.loop-entry.entry-index _ (omega (arith, c.loop-entry-test.false)) c.loop-entry.invariant.waits) c.write_all.ensures.err
