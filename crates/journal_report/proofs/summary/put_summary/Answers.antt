use Rattle.std.proofs.Common.{arith}
use Rattle.journal_report.proofs.Texts.{Writes-then}
use Rattle.journal_report.proofs.summary.put_summary.Goals as goal

pub returns-clause-written : goal.returns-clause-written
returns-clause-written c =
    rw (← c.answer_word.ensures.text, ← c.answer_word-2.ensures.text, ← c.answer_word-3.ensures.text)
    (Writes-then _ _ _ _ _ _ _ _ (Writes-then _ _ _ _ _ _ _ _ c.put_line-at.ensures.written c.put_line-at-2.ensures.written) c.put_line.ensures.written)

pub put_line-at-requires : goal.put_line-at-requires
put_line-at-requires c = omega (arith, c.requires)

pub put_line-at-requires-2 : goal.put_line-at-requires-2
put_line-at-requires-2 c = omega (arith, c.requires, c.put_line-at.ensures.short, c.put_line-at.ensures.written.len)

pub put_line-requires : goal.put_line-requires
put_line-requires c =
    omega (arith, c.requires, c.put_line-at.ensures.short, c.put_line-at.ensures.written.len, c.put_line-at-2.ensures.short, c.put_line-at-2.ensures.written.len, c.answer_word.ensures.short, c.answer_word-2.ensures.short, c.answer_word-3.ensures.short)

pub returns-clause-short : goal.returns-clause-short
returns-clause-short c =
    omega (arith, c.put_line-at.ensures.short, c.put_line-at-2.ensures.short, c.put_line.ensures.short, c.answer_word.ensures.short, c.answer_word-2.ensures.short, c.answer_word-3.ensures.short)
