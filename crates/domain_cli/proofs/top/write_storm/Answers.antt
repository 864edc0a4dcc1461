use Rattle.std.proofs.Common.{refl}
use Rattle.std.proofs.lemmas.List.{reverse-reverse}
use Rattle.run_journal.specs.Report.{summary}
use Rattle.domain_cli.proofs.Out.{either_way}
use Rattle.domain_cli.proofs.top.write_storm.Goals as goal

pub returns-clause-written : goal.returns-clause-written
returns-clause-written g c =
    let j = c.args.journal.now.entries in
    let p = c.premises.result in
    let all = simp (c.entries-entries.ensures, reverse-reverse) at c.write_summary.ensures.ok in
    let part = simp (c.entries-entries.ensures, reverse-reverse) at c.write_summary.ensures.err in
    (summary j p, (p, (c.premises.ensures, refl)), either_way c.write_summary.result _ _ all part)

pub returns-clause-cause : goal.returns-clause-cause
returns-clause-cause g c = c.write_summary.ensures.cause

pub returns-clause-unfailed : goal.returns-clause-unfailed
returns-clause-unfailed g c = c.write_summary.ensures.unfailed
