use Rattle.std.proofs.Common.{Bool, cond, sym, ap, ◌∙◌, drop, ◌+◌}
use Rattle.entry_lines.specs.Names.{listed, named}
use Rattle.entry_lines.proofs.Naming.{named_step}
use Rattle.entry_lines.proofs.names.named.Goals as goal

pub returns-then-is_same : goal.returns-then-is_same
returns-then-is_same g c =
    let step = named_step c.args.names.now c.loop-text.text-index c.loop-text-item.result c.args.word.now c.args.other c.loop-text-test.true c.loop-text-item.is in
    sym (sym c.loop-text.invariant ∙ step ∙ ap (λ (b : Bool). cond b c.loop-text-item.result.1 (named (listed (drop (c.loop-text.text-index + 1) c.args.names.now)) c.args.word.now c.args.other)) (sym c.if-is_same.ensures))

pub loop-text-preserved : goal.loop-text-preserved
loop-text-preserved g c =
    let step = named_step c.args.names.now c.loop-text.text-index c.loop-text-item.result c.args.word.now c.args.other c.loop-text-test.true c.loop-text-item.is in
    sym (step ∙ ap (λ (b : Bool). cond b c.loop-text-item.result.1 (named (listed (drop (c.loop-text.text-index + 1) c.args.names.now)) c.args.word.now c.args.other)) (sym c.if-is_same.ensures)) ∙ c.loop-text.invariant
