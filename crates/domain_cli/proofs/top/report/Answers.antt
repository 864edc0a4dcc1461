use Rattle.std.proofs.Common.{sym, ap, ◌∙◌}
use Rattle.std.specs.Prelude.{is_err, is_ok}
use Rattle.std.proofs.lemmas.List.{reverse-reverse}
use Rattle.domain_cli.proofs.Out.{all_reported, draw_blamed, lines_failed, link_blamed, never_usage, read_alone, rest_failed}
use Rattle.domain_cli.proofs.top.report.Goals as goal

-- the lines could not be written
pub returns-in-Err-clause-reports : goal.returns-in-Err-clause-reports
returns-in-Err-clause-reports g c first has = lines_failed c.args.ending.found c.args.ending.written first _ _ _ (ap is_err c.in-Err.is) c.premises-premises.ensures has

pub returns-in-Ok-write_rest-clause-reports : goal.returns-in-Ok-write_rest-clause-reports
returns-in-Ok-write_rest-clause-reports g c first has =
    let out = simp (c.entries-entries.ensures, reverse-reverse) at c.in-Ok-write_rest.ensures.ok in
    all_reported c.args.ending.found c.args.ending.written _ first _ _ _ _ (ap is_ok c.in-Ok.is) c.premises-premises.ensures has c.status.ensures out c.in-Ok-write_rest.ensures.unfailed

pub returns-in-Ok-write_rest-clause-read_fault : goal.returns-in-Ok-write_rest-clause-read_fault
returns-in-Ok-write_rest-clause-read_fault g c is = read_alone c.args.ending.found (sym c.status.ensures ∙ is)

pub returns-in-Ok-write_rest-clause-asked : goal.returns-in-Ok-write_rest-clause-asked
returns-in-Ok-write_rest-clause-asked g c is = never_usage c.args.ending.found (sym c.status.ensures ∙ is)

pub returns-in-Ok-write_rest-clause-link_fault : goal.returns-in-Ok-write_rest-clause-link_fault
returns-in-Ok-write_rest-clause-link_fault g c is = link_blamed c.args.ending.found (sym c.status.ensures ∙ is)

pub returns-in-Ok-write_rest-clause-draw_fault : goal.returns-in-Ok-write_rest-clause-draw_fault
returns-in-Ok-write_rest-clause-draw_fault g c is = draw_blamed c.args.ending.found (sym c.status.ensures ∙ is)

pub returns-in-Err-write_rest-clause-reports : goal.returns-in-Err-write_rest-clause-reports
returns-in-Err-write_rest-clause-reports g c first has =
    let out = simp (c.entries-entries.ensures, reverse-reverse) at c.in-Err-write_rest.ensures.err in
    rest_failed c.args.ending.found c.args.ending.written first _ _ _ _ (ap is_ok c.in-Ok.is) c.premises-premises.ensures has c.in-Err-write_rest.ensures.whole out c.in-Err-write_rest.ensures.cause.failed
