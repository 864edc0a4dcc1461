use Rattle.act_memory.proofs.room.take_came.Goals as goal

pub returns-clause-covered : goal.returns-clause-covered
returns-clause-covered c = c.in_ok-covered.ensures
