use Rattle.script_lines.proofs.Suites.{not_word_true, not_word_false}
use Rattle.script_lines.proofs.Saying.{word_is}
use Rattle.script_lines.proofs.Suites.{no_suite, suite_psk, suite_psk_sha256, suite_ft_psk, other_suite}
use Rattle.script_lines.proofs.header.akm_line.Goals as goal

pub returns-then-ne : goal.returns-then-ne
returns-then-ne c h =
    no_suite h _ _ (not_word_true _ _ _ _ c.ne.ensures c.as_slice.ensures c.if-ne.true)

pub returns-then-eq : goal.returns-then-eq
returns-then-eq c h =
    suite_psk h _ _ (not_word_false _ _ _ _ c.ne.ensures c.as_slice.ensures c.if-ne.false)
    (word_is _ _ _ _ _ c.eq.ensures c.as_slice-else-ne.ensures c.if-eq.true)

pub returns-then-eq-2 : goal.returns-then-eq-2
returns-then-eq-2 c h =
    suite_psk_sha256 h _ _ (not_word_false _ _ _ _ c.ne.ensures c.as_slice.ensures c.if-ne.false)
    (word_is _ _ _ _ _ c.eq.ensures c.as_slice-else-ne.ensures c.if-eq.false)
    (word_is _ _ _ _ _ c.eq-else-eq.ensures c.as_slice-else-eq.ensures c.if-eq-2.true)

pub returns-then-eq-3 : goal.returns-then-eq-3
returns-then-eq-3 c h =
    suite_ft_psk h _ _ (not_word_false _ _ _ _ c.ne.ensures c.as_slice.ensures c.if-ne.false)
    (word_is _ _ _ _ _ c.eq.ensures c.as_slice-else-ne.ensures c.if-eq.false)
    (word_is _ _ _ _ _ c.eq-else-eq.ensures c.as_slice-else-eq.ensures c.if-eq-2.false)
    (word_is _ _ _ _ _ c.eq-else-eq-2.ensures c.as_slice-else-eq-2.ensures c.if-eq-3.true)

pub returns-else-eq-3 : goal.returns-else-eq-3
returns-else-eq-3 c h =
    other_suite h _ _ (not_word_false _ _ _ _ c.ne.ensures c.as_slice.ensures c.if-ne.false)
    (word_is _ _ _ _ _ c.eq.ensures c.as_slice-else-ne.ensures c.if-eq.false)
    (word_is _ _ _ _ _ c.eq-else-eq.ensures c.as_slice-else-eq.ensures c.if-eq-2.false)
    (word_is _ _ _ _ _ c.eq-else-eq-2.ensures c.as_slice-else-eq-2.ensures c.if-eq-3.false)
