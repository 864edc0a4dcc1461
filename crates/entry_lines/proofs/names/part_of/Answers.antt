use Rattle.std.proofs.Common.{List, ℕ, ap, ◌∙◌}
use Rattle.run_journal.specs.declared.acts.Part.TheVariants.{Attempt}
use Rattle.entry_lines.specs.Names.{named, parts}
use Rattle.entry_lines.proofs.Naming.{part_named}
use Rattle.entry_lines.proofs.names.part_of.Goals as goal

pub returns : goal.returns
returns c = λ p is. c.named.ensures ∙ ap (λ (w : List ℕ). named parts w Attempt) is ∙ part_named p
