use Rattle.std.proofs.Common.{rules}
use Rattle.key_holders.proofs.holder_rows.HolderRows.put.Goals as goal

pub returns-clause-answer : goal.returns-clause-answer
returns-clause-answer c = search rules

pub returns-then-holds_live-clause-answer : goal.returns-then-holds_live-clause-answer
returns-then-holds_live-clause-answer c = search rules

pub returns-then-holds_live-clause-rows : goal.returns-then-holds_live-clause-rows
returns-then-holds_live-clause-rows c = search rules
