use Rattle.std.proofs.Common.{refl}
use Rattle.entry_lines.proofs.Valued.{answer_absent, answer_found, answer_no_holder}
use Rattle.entry_lines.proofs.fields.answer_of.Goals as goal

pub returns-then-is_word-clause-read : goal.returns-then-is_word-clause-read
returns-then-is_word-clause-read c = λ a rest f j.
    answer_found a c.field-answer.result.now c.field-key.result.now c.array_of.result f (c.field-answer.ensures _ j) (c.field-key.ensures _ j) (c.if-is_word.ensures.0 refl) c.array_of.ensures

pub returns-then-is_word-2-clause-read : goal.returns-then-is_word-2-clause-read
returns-then-is_word-2-clause-read c = λ a rest f j. answer_no_holder a c.field-answer.result.now (c.field-answer.ensures _ j) (c.if-is_word-2.ensures.0 refl)

pub returns-else-is_word-2-clause-read : goal.returns-else-is_word-2-clause-read
returns-else-is_word-2-clause-read c = λ a rest f j.
    answer_absent a c.field-answer.result.now (c.field-answer.ensures _ j) (λ same. cc (c.if-is_word.ensures.1 same)) (λ same. cc (c.if-is_word-2.ensures.1 same))
