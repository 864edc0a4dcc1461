use Rattle.std.proofs.Common.{rules}
use Rattle.eapol_key.proofs.wrapping.open_key_data.Goals as goal

pub returns-clause-only : goal.returns-clause-only
returns-clause-only c = search rules

pub returns-clause-bad_wrap : goal.returns-clause-bad_wrap
returns-clause-bad_wrap c = search rules
