use Rattle.std.proofs.Common.{List, ℕ, ap, ◌∙◌}
use Rattle.domain_base.specs.declared.names.Akm.TheVariants.{Psk}
use Rattle.entry_lines.specs.Names.{named, akms}
use Rattle.entry_lines.proofs.Naming.{akm_named}
use Rattle.entry_lines.proofs.names.akm_of.Goals as goal

pub returns : goal.returns
returns c = λ a is. c.named.ensures ∙ ap (λ (w : List ℕ). named akms w Psk) is ∙ akm_named a
