use Rattle.std.proofs.Common.{rules}
use Rattle.eapol_key.proofs.messages.is_message.Goals as goal

pub returns-then-bits_fit : goal.returns-then-bits_fit
returns-then-bits_fit c = search rules

pub returns-else-bits_fit : goal.returns-else-bits_fit
returns-else-bits_fit c = search rules
