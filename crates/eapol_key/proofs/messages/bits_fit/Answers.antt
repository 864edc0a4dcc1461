use Rattle.std.proofs.Common.{rules}
use Rattle.eapol_key.proofs.messages.bits_fit.Goals as goal

pub returns-then-meets-5 : goal.returns-then-meets-5
returns-then-meets-5 c = search rules
