use Rattle.std.proofs.Common.{arith}
use Rattle.data_frames.proofs.Sends.{room_for, came_in}
use Rattle.std.proofs.lemmas.Grind.{common_steps}
use Rattle.data_frames.proofs.group.KeptKey.take.Goals as goal

pub returns-clause-taken : goal.returns-clause-taken
returns-clause-taken c = (
  c.take_in.ensures.taken.0,
  came_in c.args.from c.args.octets.now _ _ _ _ _ _ _ _ c.in_ok-reserve.ensures.acts c.in_ok-room.ensures.taken c.take_in.ensures.taken.1,
)

pub take_in-requires-clause-room : goal.take_in-requires-clause-room
take_in-requires-clause-room c = room_for c.args.octets.now _ _ c.in_ok-room.ensures

pub returns-clause-above : goal.returns-clause-above
returns-clause-above c = grind (arith, common_steps)
