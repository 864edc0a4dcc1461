use Rattle.std.proofs.Common.{refl}
use Rattle.transition_acts.proofs.room.TransitionRoom.take.Goals as goal

pub returns : goal.returns
returns c = record {
  peer = refl;
  taken = c.in_ok-sent.ensures.taken;
  looked = c.in_ok-looked.ensures;
  key = c.in_ok-key.ensures.key;
  finished = c.in_ok-key.ensures.finished;
  sent = c.in_ok-sent.ensures.sent;
}
