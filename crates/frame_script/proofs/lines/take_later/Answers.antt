use Rattle.std.proofs.Common.{sym, ◌∙◌}
use Rattle.script_lines.specs.Due.{draft_of}
use Rattle.frame_script.proofs.Taking.{bordered, protected, worded}
use Rattle.frame_script.proofs.lines.take_later.Goals as goal

pub returns-then-is_border-clause-takes : goal.returns-then-is_border-clause-takes
returns-then-is_border-clause-takes c =
    bordered (draft_of c.args.due.now) (draft_of c.take_border.new.due) c.args.rounds c.args.sizes.now c.args.line.now c.take_border.result
    (sym c.is_passed_over.ensures ∙ c.if-is_passed_over.false) (sym c.is_border.ensures ∙ c.if-is_border.true) c.take_border.ensures.takes

pub returns-then-is_mfp-clause-takes : goal.returns-then-is_mfp-clause-takes
returns-then-is_mfp-clause-takes c =
    protected (draft_of c.args.due.now) (draft_of c.take_mfp.new.due) c.args.rounds c.args.sizes.now c.args.line.now c.take_mfp.result
    (sym c.is_passed_over.ensures ∙ c.if-is_passed_over.false) (sym c.is_border.ensures ∙ c.if-is_border.false) (sym c.is_mfp.ensures ∙ c.if-is_mfp.true) c.take_mfp.ensures.takes

pub returns-clause-takes : goal.returns-clause-takes
returns-clause-takes c =
    worded (draft_of c.args.due.now) (draft_of c.take_words.new.due) c.args.rounds c.args.sizes.now c.args.line.now c.first_word.result.0.now c.first_word.result.1.now c.take_words.result
    c.requires.later (sym c.is_passed_over.ensures ∙ c.if-is_passed_over.false) (sym c.is_border.ensures ∙ c.if-is_border.false) (sym c.is_mfp.ensures ∙ c.if-is_mfp.false) c.first_word.ensures c.take_words.ensures.takes
