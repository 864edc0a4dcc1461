use Rattle.data_frames.proofs.Sends.{room_for, came_in}
use Rattle.data_frames.proofs.key.DataKey.take.Goals as goal

pub returns-clause-taken : goal.returns-clause-taken
returns-clause-taken c = came_in c.args.from c.args.octets.now _ _ _ _ _ _ _ _ c.in_ok-reserve.ensures.acts c.in_ok-room.ensures.taken c.take_in.ensures

pub take_in-requires-clause-room : goal.take_in-requires-clause-room
take_in-requires-clause-room c = room_for c.args.octets.now _ _ c.in_ok-room.ensures
