use Rattle.key_holders.specs.Keys.{row_r1}
use Rattle.key_holders.proofs.rows.HolderRow.r1.Goals as goal

pub returns : goal.returns
unfolding row_r1
returns c = c.of.ensures
