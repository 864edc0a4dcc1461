use Rattle.std.proofs.Common.{List, ℕ, ap, ◌∙◌}
use Rattle.eapol_key.specs.declared.messages.Message.TheVariants.{M1}
use Rattle.entry_lines.specs.Names.{named, messages}
use Rattle.entry_lines.proofs.Naming.{message_named}
use Rattle.entry_lines.proofs.names.message_of.Goals as goal

pub returns : goal.returns
returns c = λ m is. c.named.ensures ∙ ap (λ (w : List ℕ). named messages w M1) is ∙ message_named m
