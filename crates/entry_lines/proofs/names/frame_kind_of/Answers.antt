use Rattle.std.proofs.Common.{List, ℕ, ap, ◌∙◌}
use Rattle.run_journal.specs.declared.acts.Kind.TheVariants.{Unread}
use Rattle.entry_lines.specs.Names.{named, kinds}
use Rattle.entry_lines.proofs.Naming.{kind_named}
use Rattle.entry_lines.proofs.names.frame_kind_of.Goals as goal

pub returns : goal.returns
returns c = λ k is. c.named.ensures ∙ ap (λ (w : List ℕ). named kinds w Unread) is ∙ kind_named k
