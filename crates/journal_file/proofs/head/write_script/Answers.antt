use Rattle.std.proofs.Common.{List, ℕ, subst, ◌∙◌}
use Rattle.std.proofs.lemmas.Result.{on_ok_weaker, on_err_weaker}
use Rattle.std.specs.Io.KnownBytes.{Appends}
use Rattle.domain_base.specs.Causes.{AppendsPart}
use Rattle.domain_base.proofs.Taken.{Appends-then, OnErr-always}
use Rattle.journal_report.proofs.Putting.{cause-after}
use Rattle.journal_report.proofs.Taken.{part-more, part-then}
use Rattle.journal_file.specs.Counting.{feed_of}
use Rattle.journal_file.proofs.head.write_script.Goals as goal

pub returns-in_err-write_all-clause-err : goal.returns-in_err-write_all-clause-err
returns-in_err-write_all-clause-err g c = OnErr-always _ _ (part-more _ _ c.args.script.now (feed_of c.args.unended) c.in_err-write_all.ensures.err)

pub returns-clause-ok : goal.returns-clause-ok
returns-clause-ok g c =
    let old = g.K.Sink.out c.write_all.new.sink in
    let new = g.K.Sink.out c.write_all-2.new.sink in
    on_ok_weaker c.write_all-2.result
    (λ h. Appends-then _ _ _ c.args.script.now (feed_of c.args.unended) c.in_ok-write_all.ensures.ok (subst (λ (w : List ℕ). Appends old new w) c.feed_of.ensures h)) c.write_all-2.ensures.ok

pub returns-clause-err : goal.returns-clause-err
returns-clause-err g c =
    let old = g.K.Sink.out c.write_all.new.sink in
    let new = g.K.Sink.out c.write_all-2.new.sink in
    on_err_weaker c.write_all-2.result
    (λ h. part-then _ _ _ c.args.script.now (feed_of c.args.unended) c.in_ok-write_all.ensures.ok (subst (λ (w : List ℕ). AppendsPart old new w) c.feed_of.ensures h)) c.write_all-2.ensures.err

pub returns-clause-cause : goal.returns-clause-cause
returns-clause-cause g c = cause-after _ _ _ _ c.in_ok-write_all.ensures.unfailed c.write_all-2.ensures.cause

pub returns-clause-unfailed : goal.returns-clause-unfailed
returns-clause-unfailed g c = on_ok_weaker c.write_all-2.result (λ e. e ∙ c.in_ok-write_all.ensures.unfailed) c.write_all-2.ensures.unfailed
