use Rattle.std.proofs.Common.{List, ℕ, sym, ap, subst, ◌∙◌}
use Rattle.key_hierarchy.specs.declared.answers.PutAnswer.TheVariants.{Held}
use Rattle.entry_lines.specs.Entries.{HasAnswerLine}
use Rattle.entry_lines.specs.Names.{named, puts}
use Rattle.entry_lines.proofs.Naming.{put_has, put_named}
use Rattle.entry_lines.proofs.names.put_of.Goals as goal

pub returns-clause-read : goal.returns-clause-read
returns-clause-read c = λ a has is. c.named.ensures ∙ ap (λ (w : List ℕ). named puts w Held) is ∙ put_named a has

pub returns-clause-has : goal.returns-clause-has
returns-clause-has c = subst HasAnswerLine (sym c.named.ensures) (put_has c.args.word.now)
