use Rattle.std.proofs.Common.{◌∙◌}
use Rattle.entry_lines.proofs.Parting.{first_after}
use Rattle.entry_lines.proofs.splitting.word_at.Goals as goal

pub returns : goal.returns
returns c = λ words j. (c.first_word.ensures _ (c.after_words-rest.ensures words j)).0 ∙ first_after words c.args.place
