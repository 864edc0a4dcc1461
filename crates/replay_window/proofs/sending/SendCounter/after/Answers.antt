use Rattle.std.proofs.Common.{refl}
use Rattle.replay_window.proofs.sending.SendCounter.after.Goals as goal

pub returns : goal.returns
returns c = refl
