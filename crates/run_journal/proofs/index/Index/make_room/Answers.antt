use Rattle.run_journal.proofs.Rooms.{err_at}
use Rattle.run_journal.proofs.index.Index.make_room.Goals as goal

pub returns-in_err-room-clause-indexed : goal.returns-in_err-room-clause-indexed
returns-in_err-room-clause-indexed c = c.room.ensures.indexed c.args.entries.now c.requires

pub returns-in_err-room-clause-kept : goal.returns-in_err-room-clause-kept
returns-in_err-room-clause-kept c = err_at c.from_residual.result _ c.room.ensures.kept

pub returns-in_default-clause-indexed : goal.returns-in_default-clause-indexed
returns-in_default-clause-indexed c = c.room.ensures.indexed c.args.entries.now c.requires

pub returns-in_default-clause-room : goal.returns-in_default-clause-room
returns-in_default-clause-room c = c.in_ok-room.ensures.room

pub returns-in-Ok-clause-indexed : goal.returns-in-Ok-clause-indexed
returns-in-Ok-clause-indexed c = c.in-Ok.ensures.indexed

pub returns-in-Ok-clause-room : goal.returns-in-Ok-clause-room
returns-in-Ok-clause-room c = c.in-Ok.ensures.room

pub returns-in-Err-clause-indexed : goal.returns-in-Err-clause-indexed
returns-in-Err-clause-indexed c = c.room.ensures.indexed c.args.entries.now c.requires

pub returns-in-Err-clause-room : goal.returns-in-Err-clause-room
returns-in-Err-clause-room c = c.in_ok-room.ensures.room
