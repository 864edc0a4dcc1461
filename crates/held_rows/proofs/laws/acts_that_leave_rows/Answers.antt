use Rattle.held_rows.proofs.Leaving.{left}
use Rattle.held_rows.proofs.laws.acts_that_leave_rows.Goals as goal

pub returns : goal.returns
returns c = left
