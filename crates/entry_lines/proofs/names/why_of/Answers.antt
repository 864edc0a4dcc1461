use Rattle.std.proofs.Common.{List, ℕ, ap, ◌∙◌}
use Rattle.run_journal.specs.declared.acts.Why.TheVariants.{Spent}
use Rattle.entry_lines.specs.Names.{named, whys}
use Rattle.entry_lines.proofs.Naming.{why_named}
use Rattle.entry_lines.proofs.names.why_of.Goals as goal

pub returns : goal.returns
returns c = λ y is. c.named.ensures ∙ ap (λ (w : List ℕ). named whys w Spent) is ∙ why_named y
