use Rattle.std.proofs.Common.{List, reverse, ap, arith, sym, ◌∙◌}
use Rattle.std.proofs.lemmas.List.{take_all}
use Rattle.run_journal.specs.declared.acts.Entry.{Entry}
use Rattle.journal_report.specs.Counts.{counts_of, counts_with}
use Rattle.journal_report.proofs.Journals.{counts-room, counts-step, none-counted}
use Rattle.journal_report.proofs.summary.count_acts.Goals as goal

pub loop-entry-init : goal.loop-entry-init
loop-entry-init c =
    let zero = c.default-counts.ensures in
    none-counted _ zero.0 zero.1.0 zero.1.1.0 zero.1.1.1.0 zero.1.1.1.1.0 zero.1.1.1.1.1.0 zero.1.1.1.1.1.1.0 zero.1.1.1.1.1.1.1.0 zero.1.1.1.1.1.1.1.1

pub add-requires : goal.add-requires
add-requires c =
    rw c.loop-entry.invariant (counts-room c.args.entries.now c.loop-entry.entry-index (omega arith))

pub loop-entry-preserved : goal.loop-entry-preserved
loop-entry-preserved c =
    c.add.ensures
    ∙ ap (counts_with c.entry-item.result.act) c.loop-entry.invariant
    ∙ sym (counts-step c.args.entries.now c.loop-entry.entry-index c.entry-item.result c.loop-entry-test.true c.entry-item.is)

pub returns : goal.returns
returns c =
    c.loop-entry.invariant ∙ ap (λ (es : List Entry). counts_of (reverse es)) (take_all c.loop-entry.entry-index c.args.entries.now (omega (arith, c.loop-entry-test.false)))
