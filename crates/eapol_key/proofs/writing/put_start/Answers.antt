use Rattle.std.proofs.Common.{rules}
use Rattle.eapol_key.proofs.writing.put_start.Goals as goal

pub returns-clause-front : goal.returns-clause-front
returns-clause-front c = search rules
