use Rattle.std.proofs.Common.{List, ℕ, ap, ◌∙◌}
use Rattle.run_journal.specs.declared.acts.GroupKind.TheVariants.{Gtk}
use Rattle.entry_lines.specs.Names.{named, group_kinds}
use Rattle.entry_lines.proofs.Naming.{group_named}
use Rattle.entry_lines.proofs.names.group_kind_of.Goals as goal

pub returns : goal.returns
returns c = λ k is. c.named.ensures ∙ ap (λ (w : List ℕ). named group_kinds w Gtk) is ∙ group_named k
