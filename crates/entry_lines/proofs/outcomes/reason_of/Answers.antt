use Rattle.std.proofs.Common.{◌∙◌}
use Rattle.entry_lines.proofs.Telling.{reason_read, refused_joins}
use Rattle.entry_lines.proofs.outcomes.reason_of.Goals as goal

pub returns : goal.returns
returns c = λ r fits is.
    let j = refused_joins c.args.word.now r fits is in
    c.filled.ensures
    ∙ reason_read r _ _ _ _ _ _ _ _ fits (c.word_at-name.ensures _ j) (c.word_at-first.ensures _ j) (c.word_at-second.ensures _ j) (c.word_at-third.ensures _ j)
    c.outline_of-outline.ensures c.number_of-a.ensures c.number_of-b.ensures c.number_of-c.ensures
