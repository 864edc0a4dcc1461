use Rattle.std.proofs.Common.{rules}
use Rattle.eapol_key.proofs.messages.row_of.Goals as goal

pub returns-in-M4 : goal.returns-in-M4
returns-in-M4 c = search rules
