use Rattle.held_rows.proofs.Leaving.{none_at_first}
use Rattle.held_rows.proofs.laws.no_rows_at_first.Goals as goal

pub returns : goal.returns
returns c = none_at_first
