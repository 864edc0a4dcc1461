use Rattle.std.proofs.Common.{ap, codes}
use Rattle.run_journal.specs.declared.acts.Act.{Act}
use Rattle.run_journal.specs.Report.{act_line}
use Rattle.journal_report.proofs.Putting.{pair-as}
use Rattle.journal_report.proofs.line.holder_line.Goals as goal

pub returns-in-Put-clause-written : goal.returns-in-Put-clause-written
returns-in-Put-clause-written c =
    let is = ap (λ (a : Act). act_line c.args.entry.now.number c.args.entry.now.node a) c.in-Put.is in
    pair-as (codes "put") _ _ c.args.entry.now.node c.in-Put.sta c.put_word.result _ _ _ _ is c.put_word.ensures.text c.put_pair.ensures.written

pub returns-in-Looked-clause-written : goal.returns-in-Looked-clause-written
returns-in-Looked-clause-written c =
    let is = ap (λ (a : Act). act_line c.args.entry.now.number c.args.entry.now.node a) c.in-Looked.is in
    pair-as (codes "look") _ _ c.args.entry.now.node c.in-Looked.sta c.pull_word.result _ _ _ _ is c.pull_word.ensures.text c.put_pair-in-Looked.ensures.written

pub returns-in-Revoked-clause-written : goal.returns-in-Revoked-clause-written
returns-in-Revoked-clause-written c =
    let is = ap (λ (a : Act). act_line c.args.entry.now.number c.args.entry.now.node a) c.in-Revoked.is in
    pair-as (codes "revoke") _ _ c.args.entry.now.node c.in-Revoked.sta c.revoke_word.result _ _ _ _ is c.revoke_word.ensures.text c.put_pair-in-Revoked.ensures.written
