use Rattle.std.proofs.Common.{sym, ◌∙◌}
use Rattle.entry_lines.proofs.Parting.{split_found, split_none}
use Rattle.entry_lines.proofs.splitting.first_word.Goals as goal

pub returns-in-Some : goal.returns-in-Some
returns-in-Some c = λ words j. split_found c.args.separator c.in-Some.place c.args.text.now _ _ words (sym c.first_place.ensures ∙ c.in-Some.is) c.split_at.ensures.front c.split_at-in-Some.ensures.back j

pub returns-in-None : goal.returns-in-None
returns-in-None c = λ words j. rw c.as_slice.ensures (split_none c.args.separator c.args.text.now words (sym c.first_place.ensures ∙ c.in-None.is) j)
