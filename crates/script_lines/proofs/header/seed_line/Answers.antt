use Rattle.script_lines.proofs.Suites.{not_word_true, not_word_false}
use Rattle.script_lines.proofs.Saying.{word_is}
use Rattle.script_lines.proofs.Suites.{no_seed, drawn_seed}
use Rattle.script_lines.proofs.header.seed_line.Goals as goal

pub returns-then-ne : goal.returns-then-ne
returns-then-ne c h = no_seed h _ _ (not_word_true _ _ _ _ c.ne.ensures c.as_slice.ensures c.if-ne.true)

pub returns-then-eq : goal.returns-then-eq
returns-then-eq c h =
    drawn_seed h _ _ (not_word_false _ _ _ _ c.ne.ensures c.as_slice.ensures c.if-ne.false)
    (word_is _ _ _ _ _ c.eq.ensures c.as_slice-2.ensures c.if-eq.true)
