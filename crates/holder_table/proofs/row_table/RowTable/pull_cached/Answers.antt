use Rattle.holder_table.proofs.row_table.RowTable.pull_cached.Goals as goal

pub returns-in-None-clause-pulls : goal.returns-in-None-clause-pulls
returns-in-None-clause-pulls c = c.in-None.ensures.finds

pub returns-in-Some-clause-pulls : goal.returns-in-Some-clause-pulls
returns-in-Some-clause-pulls c = (c.in-Some.row, c.r1.ensures.key, c.in-Some.ensures.finds)

pub returns-in-Some-clause-cache : goal.returns-in-Some-clause-cache
returns-in-Some-clause-cache c = (c.in-Some.row, c.r1.result.1, c.in-Some.ensures.finds.2, c.r1.ensures.key, c.r1.ensures.after)
