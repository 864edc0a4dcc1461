use Rattle.std.proofs.Common.{refl}
use Rattle.entry_lines.proofs.Valued.{drawn_group, drawn_nonce}
use Rattle.entry_lines.proofs.fields.drawn_of.Goals as goal

pub returns-then-is_word : goal.returns-then-is_word
returns-then-is_word c = λ v rest f j.
    drawn_nonce v rest c.field-value.result.now c.field-kind.result.now c.array_of.result f (c.field-value.ensures _ j) (c.field-kind.ensures _ j) (c.if-is_word.ensures.0 refl) c.array_of.ensures

pub returns-else-is_word : goal.returns-else-is_word
returns-else-is_word c = λ v rest f j.
    drawn_group v rest c.field-value.result.now c.field-kind.result.now c.array_of-else-is_word.result c.group_kind_of.result f (c.field-value.ensures _ j) (c.field-kind.ensures _ j) (λ same. cc (c.if-is_word.ensures.1 same)) c.group_kind_of.ensures
    c.array_of-else-is_word.ensures
