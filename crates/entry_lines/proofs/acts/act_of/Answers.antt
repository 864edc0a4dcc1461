use Rattle.std.proofs.Common.{sym, subst}
use Rattle.entry_lines.specs.Acts.{ReadsAct}
use Rattle.entry_lines.specs.declared.names.ActKind.{ActKind}
use Rattle.entry_lines.proofs.acts.act_of.Goals as goal

pub returns-in-Opened : goal.returns-in-Opened
returns-in-Opened c = subst (λ (k : ActKind). ReadsAct k c.args.node c.args.text.now c.opened.result) (sym c.in-Opened.is) (c.opened.ensures c.args.node)

pub returns-in-Closed : goal.returns-in-Closed
returns-in-Closed c = subst (λ (k : ActKind). ReadsAct k c.args.node c.args.text.now c.closed.result) (sym c.in-Closed.is) (c.closed.ensures c.args.node)

pub returns-in-Drew : goal.returns-in-Drew
returns-in-Drew c = subst (λ (k : ActKind). ReadsAct k c.args.node c.args.text.now c.drew.result) (sym c.in-Drew.is) (c.drew.ensures c.args.node)

pub returns-in-Secret : goal.returns-in-Secret
returns-in-Secret c = subst (λ (k : ActKind). ReadsAct k c.args.node c.args.text.now c.secret.result) (sym c.in-Secret.is) (c.secret.ensures c.args.node)

pub returns-in-GaveUp : goal.returns-in-GaveUp
returns-in-GaveUp c = subst (λ (k : ActKind). ReadsAct k c.args.node c.args.text.now c.gave_up.result) (sym c.in-GaveUp.is) (c.gave_up.ensures c.args.node)

pub returns-in-Idle : goal.returns-in-Idle
returns-in-Idle c = subst (λ (k : ActKind). ReadsAct k c.args.node c.args.text.now c.idle.result) (sym c.in-Idle.is) (c.idle.ensures c.args.node)
