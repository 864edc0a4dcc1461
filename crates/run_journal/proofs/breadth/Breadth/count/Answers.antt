use Rattle.std.proofs.Common.{sym, ap}
use Rattle.run_journal.specs.Chained.{count_of}
use Rattle.run_journal.proofs.breadth.Breadth.count.Goals as goal

pub returns-in-Least : goal.returns-in-Least
returns-in-Least c = ap count_of (sym c.in-Least.is)

pub returns-in-Lesser : goal.returns-in-Lesser
returns-in-Lesser c = ap count_of (sym c.in-Lesser.is)

pub returns-in-Middle : goal.returns-in-Middle
returns-in-Middle c = ap count_of (sym c.in-Middle.is)

pub returns-in-Greater : goal.returns-in-Greater
returns-in-Greater c = ap count_of (sym c.in-Greater.is)

pub returns-in-Greatest : goal.returns-in-Greatest
returns-in-Greatest c = ap count_of (sym c.in-Greatest.is)
