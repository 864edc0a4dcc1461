use Rattle.replay_window.proofs.receiving.RecvCounters.take.Goals as goal

pub returns : goal.returns
returns c = cc
