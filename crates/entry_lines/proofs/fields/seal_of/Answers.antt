use Rattle.std.proofs.Common.{refl, Some, ap, ◌∙◌}
use Rattle.entry_lines.proofs.Valued.{seal_none, seal_some}
use Rattle.entry_lines.proofs.fields.seal_of.Goals as goal

pub returns-then-is_word : goal.returns-then-is_word
returns-then-is_word c = λ s rest f j. seal_none s rest c.field-key.result.now f (c.field-key.ensures _ j) (c.if-is_word.ensures.0 refl)

pub returns : goal.returns
returns c = λ s rest f j.
    ap Some c.in_ok-seal.ensures
    ∙ seal_some s rest c.field-octets.result.now c.field-key.result.now c.in_ok-octets.octets c.array_of.result f (c.field-octets.ensures _ j) (c.field-key.ensures _ j) (λ same. cc (c.if-is_word.ensures.1 same)) c.in_ok-octets.ensures c.array_of.ensures
