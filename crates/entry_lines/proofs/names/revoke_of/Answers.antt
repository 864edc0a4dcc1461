use Rattle.std.proofs.Common.{List, ℕ, ap, ◌∙◌}
use Rattle.key_hierarchy.specs.declared.answers.RevokeAnswer.TheVariants.{Absent}
use Rattle.entry_lines.specs.Names.{named, revokes}
use Rattle.entry_lines.proofs.Naming.{revoke_named}
use Rattle.entry_lines.proofs.names.revoke_of.Goals as goal

pub returns : goal.returns
returns c = λ a is. c.named.ensures ∙ ap (λ (w : List ℕ). named revokes w Absent) is ∙ revoke_named a
