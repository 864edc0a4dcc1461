use Rattle.std.proofs.Common.{ap, codes}
use Rattle.run_journal.specs.declared.acts.Act.{Act}
use Rattle.run_journal.specs.Report.{act_line}
use Rattle.journal_report.proofs.Putting.{pair-as, Writes-as}
use Rattle.journal_report.proofs.line.attempt_line.Goals as goal

pub returns-in-Opened-clause-written : goal.returns-in-Opened-clause-written
returns-in-Opened-clause-written c =
    let is = ap (λ (a : Act). act_line c.args.entry.now.number c.args.entry.now.node a) c.in-Opened.is in
    pair-as (codes "open") _ _ c.args.entry.now.node c.in-Opened.peer c.start_word.result _ _ _ _ is c.start_word.ensures.text c.put_pair.ensures.written

pub returns-in-Closed-clause-written : goal.returns-in-Closed-clause-written
returns-in-Closed-clause-written c =
    let is = ap (λ (a : Act). act_line c.args.entry.now.number c.args.entry.now.node a) c.in-Closed.is in
    pair-as (codes "close") _ _ c.args.entry.now.node c.in-Closed.peer c.part_word.result _ _ _ _ is c.part_word.ensures.text c.put_pair-in-Closed.ensures.written

pub returns-in-Finished-clause-written : goal.returns-in-Finished-clause-written
returns-in-Finished-clause-written c =
    let is = ap (λ (a : Act). act_line c.args.entry.now.number c.args.entry.now.node a) c.in-Finished.is in
    Writes-as _ _ _ _ _ _ is c.put_line.ensures.written

pub returns-in-Secret-clause-written : goal.returns-in-Secret-clause-written
returns-in-Secret-clause-written c =
    let is = ap (λ (a : Act). act_line c.args.entry.now.number c.args.entry.now.node a) c.in-Secret.is in
    Writes-as _ _ _ _ _ _ is c.put_line-in-Secret.ensures.written

pub returns-in-GaveUp-clause-written : goal.returns-in-GaveUp-clause-written
returns-in-GaveUp-clause-written c =
    let is = ap (λ (a : Act). act_line c.args.entry.now.number c.args.entry.now.node a) c.in-GaveUp.is in
    pair-as (codes "gave-up") _ _ c.args.entry.now.node c.in-GaveUp.peer c.message_word-message.result _ _ _ _ is c.message_word-message.ensures.text c.put_pair-in-GaveUp.ensures.written
