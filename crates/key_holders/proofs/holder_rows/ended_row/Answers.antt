use Rattle.std.proofs.Common.{rules}
use Rattle.key_holders.proofs.holder_rows.ended_row.Goals as goal

pub returns : goal.returns
returns c = search rules
