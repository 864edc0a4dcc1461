use Rattle.std.proofs.Common.{rules}
use Rattle.holder_table.proofs.row_table.RowTable.pull.Goals as goal

pub returns-in-None-clause-pulls : goal.returns-in-None-clause-pulls
returns-in-None-clause-pulls c = search rules

pub returns-in-Some-clause-pulls : goal.returns-in-Some-clause-pulls
returns-in-Some-clause-pulls c = search rules
