use Rattle.std.proofs.Common.{rules}
use Rattle.run_journal.proofs.index.is_before.Goals as goal

pub returns-then-earlier-later : goal.returns-then-earlier-later
returns-then-earlier-later c = search rules
