use Rattle.std.proofs.Common.{List, ℕ, refl, sym, subst, ◌∙◌, arith, rules}
use Rattle.std.proofs.lemmas.List.{length-take-le}
use Rattle.std.proofs.lemmas.Result.{on_ok_weaker, on_err_weaker}
use Rattle.std.specs.Io.KnownBytes.{Appends}
use Rattle.domain_base.specs.Causes.{AppendsPart}
use Rattle.domain_base.proofs.Taken.{OnErr-always}
use Rattle.journal_report.proofs.Taken.{part-of_first, part-of_second, part-of_third, three-gone}
use Rattle.journal_report.proofs.Texts.{long-line}
use Rattle.journal_report.proofs.Putting.{cause-after}
use Rattle.journal_report.proofs.report.write_line.Goals as goal

pub returns-in_err-write_all-clause-err : goal.returns-in_err-write_all-clause-err
returns-in_err-write_all-clause-err g c =
    let is = long-line c.args.entry.now _ _ _ _ _ _ _ _ c.line_fits.result c.in-HandedUp.is refl (omega arith) c.if-line_fits.false c.line_fits.ensures in
    let head = subst (λ (w : List ℕ). AppendsPart (g.K.Sink.out c.args.sink.now) (g.K.Sink.out c.write_all-2.new.sink) w) c.put_up_head-count.ensures.written.front c.in_err-write_all.ensures.err in
    OnErr-always _ _ (part-of_first _ _ _ _ _ _ is head)

pub returns-in_err-write_hex-clause-err : goal.returns-in_err-write_hex-clause-err
returns-in_err-write_hex-clause-err g c =
    let is = long-line c.args.entry.now _ _ _ _ _ _ _ _ c.line_fits.result c.in-HandedUp.is c.as_slice.ensures (omega arith) c.if-line_fits.false c.line_fits.ensures in
    let head = subst (λ (w : List ℕ). Appends (g.K.Sink.out c.args.sink.now) (g.K.Sink.out c.write_all-2.new.sink) w) c.put_up_head-count.ensures.written.front c.in_ok-write_all.ensures.ok in
    OnErr-always _ _ (part-of_second _ _ _ _ _ _ _ is head c.in_err-write_hex.ensures.err)

pub returns-clause-ok : goal.returns-clause-ok
returns-clause-ok g c =
    let is = long-line c.args.entry.now _ _ _ _ _ _ _ _ c.line_fits.result c.in-HandedUp.is c.as_slice.ensures (omega arith) c.if-line_fits.false c.line_fits.ensures in
    let head = subst (λ (w : List ℕ). Appends (g.K.Sink.out c.args.sink.now) (g.K.Sink.out c.write_all-2.new.sink) w) c.put_up_head-count.ensures.written.front c.in_ok-write_all.ensures.ok in
    on_ok_weaker c.write_all-3.result (three-gone _ _ _ _ _ _ _ _ is head c.in_ok-write_hex.ensures.ok) c.write_all-3.ensures.ok

pub returns-clause-err : goal.returns-clause-err
returns-clause-err g c =
    let is = long-line c.args.entry.now _ _ _ _ _ _ _ _ c.line_fits.result c.in-HandedUp.is c.as_slice.ensures (omega arith) c.if-line_fits.false c.line_fits.ensures in
    let head = subst (λ (w : List ℕ). Appends (g.K.Sink.out c.args.sink.now) (g.K.Sink.out c.write_all-2.new.sink) w) c.put_up_head-count.ensures.written.front c.in_ok-write_all.ensures.ok in
    on_err_weaker c.write_all-3.result (part-of_third _ _ _ _ _ _ _ _ is head c.in_ok-write_hex.ensures.ok) c.write_all-3.ensures.err

pub returns-then-line_fits-clause-err : goal.returns-then-line_fits-clause-err
returns-then-line_fits-clause-err g c = search rules

pub returns-then-line_fits-clause-ok : goal.returns-then-line_fits-clause-ok
returns-then-line_fits-clause-ok g c = search rules

pub returns-clause-cause : goal.returns-clause-cause
returns-clause-cause g c = cause-after _ _ _ _ (c.in_ok-write_hex.ensures.unfailed ∙ c.in_ok-write_all.ensures.unfailed) c.write_all-3.ensures.cause

pub returns-clause-unfailed : goal.returns-clause-unfailed
returns-clause-unfailed g c = on_ok_weaker c.write_all-3.result (λ e. e ∙ (c.in_ok-write_hex.ensures.unfailed ∙ c.in_ok-write_all.ensures.unfailed)) c.write_all-3.ensures.unfailed

pub slice_bounds-write_all-end-3 : goal.slice_bounds-write_all-end-3
slice_bounds-write_all-end-3 g c =
    sym (length-take-le c.put_up_head-count.result c.put_up_head-count.new.out (omega (arith, c.requires, c.put_up_head-count.ensures.short, c.put_up_head-count.ensures.written.len)))
