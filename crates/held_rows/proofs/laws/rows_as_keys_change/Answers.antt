use Rattle.held_rows.proofs.Changing.{rows_changed}
use Rattle.held_rows.proofs.laws.rows_as_keys_change.Goals as goal

pub returns : goal.returns
returns c = rows_changed
