use Rattle.std.proofs.Common.{refl}
use Rattle.replay_window.proofs.receiving.RecvCounters.from.Goals as goal

pub returns : goal.returns
returns c = refl
