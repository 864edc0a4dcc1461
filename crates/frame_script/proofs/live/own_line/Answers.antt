use Rattle.std.proofs.Common.{Some, sym, ap, ◌∙◌}
use Rattle.script_lines.proofs.Saying.{word_is}
use Rattle.frame_script.proofs.Worded.{says_turn, says_turn_more, says_own}
use Rattle.frame_script.proofs.live.own_line.Goals as goal

pub returns-then-eq : goal.returns-then-eq
returns-then-eq c = ap Some c.turn_line.ensures ∙ sym (says_turn c.args.sizes.now c.args.line.now c.args.word.now (word_is _ _ _ _ _ c.eq.ensures c.as_slice.ensures c.if-eq.true))

pub returns-then-eq-2 : goal.returns-then-eq-2
returns-then-eq-2 c = sym (says_turn_more c.args.sizes.now c.args.line.now c.args.word.now (word_is _ _ _ _ _ c.eq.ensures c.as_slice.ensures c.if-eq.false) (word_is _ _ _ _ _ c.eq-else-eq.ensures c.as_slice-else-eq.ensures c.if-eq-2.true))

pub returns-else-eq-2 : goal.returns-else-eq-2
returns-else-eq-2 c = c.own_word.ensures ∙ sym (says_own c.args.sizes.now c.args.line.now c.args.word.now (word_is _ _ _ _ _ c.eq.ensures c.as_slice.ensures c.if-eq.false) (word_is _ _ _ _ _ c.eq-else-eq.ensures c.as_slice-else-eq.ensures c.if-eq-2.false))
