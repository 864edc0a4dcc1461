use Rattle.std.proofs.Common.{refl, ◌++◌, sym, subst, ◌∙◌}
use Rattle.run_journal.specs.declared.acts.Key.{Key}
use Rattle.entry_lines.specs.Entries.{FitsKey}
use Rattle.entry_lines.specs.Lines.{key_words}
use Rattle.entry_lines.specs.Splitting.{Joins}
use Rattle.entry_lines.proofs.Valued.{key_group, key_pairwise}
use Rattle.entry_lines.proofs.fields.key_of.Goals as goal

pub returns-in_ok-key : goal.returns-in_ok-key
returns-in_ok-key c = λ k rest f j.
    key_pairwise k rest c.field-kind.result.now c.in_ok-key.key f (c.field-kind.ensures _ j) (c.if-is_word.ensures.0 refl)
    (λ tk i same. c.in_ok-key.ensures tk i rest (subst FitsKey same f) (subst (λ (x : Key). Joins 32 c.args.text.now (key_words x ++ rest)) same j) ∙ sym same)

pub returns-else-is_word : goal.returns-else-is_word
returns-else-is_word c = λ k rest f j.
    key_group k rest c.field-kind.result.now c.group_key_of.result f (c.field-kind.ensures _ j) (λ same. cc (c.if-is_word.ensures.1 same))
    (λ which key id bssid same. c.group_key_of.ensures which key id bssid rest (subst FitsKey same f) (subst (λ (x : Key). Joins 32 c.args.text.now (key_words x ++ rest)) same j) ∙ sym same)
