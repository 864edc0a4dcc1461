use Rattle.std.proofs.Common.{refl, ◌∙◌}
use Rattle.std.proofs.lemmas.Result.{on_ok_weaker, on_err_weaker}
use Rattle.domain_base.proofs.Taken.{OnErr-always}
use Rattle.journal_report.proofs.Putting.{cause-after}
use Rattle.journal_report.proofs.Taken.{part-of_first, part-of_second, part-of_third, three-gone}
use Rattle.journal_file.proofs.file.write_text.Goals as goal

pub returns-in_err-write_head-clause-err : goal.returns-in_err-write_head-clause-err
returns-in_err-write_head-clause-err g c = OnErr-always _ _ (part-of_first _ _ _ _ _ _ refl c.in_err-write_head.ensures.err)

pub returns-in_err-write_script-clause-err : goal.returns-in_err-write_script-clause-err
returns-in_err-write_script-clause-err g c = OnErr-always _ _ (part-of_second _ _ _ _ _ _ _ refl c.in_ok-write_head.ensures.ok c.in_err-write_script.ensures.err)

pub returns-clause-ok : goal.returns-clause-ok
returns-clause-ok g c = on_ok_weaker c.write_entries.result (three-gone _ _ _ _ _ _ _ _ refl c.in_ok-write_head.ensures.ok c.in_ok-write_script.ensures.ok) c.write_entries.ensures.ok

pub returns-clause-err : goal.returns-clause-err
returns-clause-err g c = on_err_weaker c.write_entries.result (part-of_third _ _ _ _ _ _ _ _ refl c.in_ok-write_head.ensures.ok c.in_ok-write_script.ensures.ok) c.write_entries.ensures.err

pub returns-clause-cause : goal.returns-clause-cause
returns-clause-cause g c = cause-after _ _ _ _ (c.in_ok-write_script.ensures.unfailed ∙ c.in_ok-write_head.ensures.unfailed) c.write_entries.ensures.cause

pub returns-clause-unfailed : goal.returns-clause-unfailed
returns-clause-unfailed g c = on_ok_weaker c.write_entries.result (λ e. e ∙ (c.in_ok-write_script.ensures.unfailed ∙ c.in_ok-write_head.ensures.unfailed)) c.write_entries.ensures.unfailed
