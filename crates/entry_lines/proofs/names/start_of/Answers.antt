use Rattle.std.proofs.Common.{List, ℕ, ap, ◌∙◌}
use Rattle.run_journal.specs.declared.acts.Start.TheVariants.{Connect}
use Rattle.entry_lines.specs.Names.{named, starts}
use Rattle.entry_lines.proofs.Naming.{start_named}
use Rattle.entry_lines.proofs.names.start_of.Goals as goal

pub returns : goal.returns
returns c = λ s is. c.named.ensures ∙ ap (λ (w : List ℕ). named starts w Connect) is ∙ start_named s
