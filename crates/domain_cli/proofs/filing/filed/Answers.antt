use Rattle.std.proofs.Common.{sym, subst, ap, ◌∙◌}
use Rattle.domain_cli.specs.declared.status.Status.{Status}
use Rattle.domain_cli.specs.Journals.{Filed}
use Rattle.domain_cli.specs.Story.{status_of}
use Rattle.domain_cli.proofs.Filed.{filed_whole, unfiled}
use Rattle.domain_cli.proofs.Out.{never_usage, never_write, read_alone}
use Rattle.domain_cli.proofs.filing.filed.Goals as goal

pub file-requires : goal.file-requires
file-requires g c = c.requires.lines c.in-Whole.is

pub returns-in-Whole-clause-files : goal.returns-in-Whole-clause-files
returns-in-Whole-clause-files g c draft octets back held =
    filed_whole draft c.args.found c.file.result octets c.args.journal.now.entries _ _ c.in-Whole.is (back c.in-Whole.is) (c.file.ensures.files octets held)

pub returns-in-Whole-clause-read_fault : goal.returns-in-Whole-clause-read_fault
returns-in-Whole-clause-read_fault g c is = absurd (c.file.ensures.read is)

pub returns-in-Whole-clause-read_told : goal.returns-in-Whole-clause-read_told
returns-in-Whole-clause-read_told g c is = absurd (cc (c.in-Whole.is, is))

pub returns-in-Stopped-clause-files : goal.returns-in-Stopped-clause-files
returns-in-Stopped-clause-files g c draft octets back held =
    let out = g.K.Sink.out c.args.sink.now in
    subst (λ (s : Status). Filed draft c.args.found s octets c.args.journal.now.entries out out) (sym c.status.ensures) (unfiled draft c.args.found c.in-Stopped.is c.requires.heard octets c.args.journal.now.entries out)

pub returns-in-Stopped-clause-write_fault : goal.returns-in-Stopped-clause-write_fault
returns-in-Stopped-clause-write_fault g c is = absurd (never_write c.args.found c.requires.heard (sym c.status.ensures ∙ is))

pub returns-in-Stopped-clause-read_fault : goal.returns-in-Stopped-clause-read_fault
returns-in-Stopped-clause-read_fault g c is = read_alone c.args.found (sym c.status.ensures ∙ is)

pub returns-in-Stopped-clause-read_told : goal.returns-in-Stopped-clause-read_told
returns-in-Stopped-clause-read_told g c is = c.status.ensures ∙ ap status_of is

pub returns-in-Stopped-clause-asked : goal.returns-in-Stopped-clause-asked
returns-in-Stopped-clause-asked g c is = never_usage c.args.found (sym c.status.ensures ∙ is)
