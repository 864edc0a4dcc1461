use Rattle.std.proofs.Common.{arith}
use Rattle.replay_window.proofs.sending.SendCounter.next.Goals as goal

pub returns-clause-number : goal.returns-clause-number
returns-clause-number c = omega arith

pub returns-then-self-eq-LAST_NUMBER-clause-number : goal.returns-then-self-eq-LAST_NUMBER-clause-number
returns-then-self-eq-LAST_NUMBER-clause-number c = omega arith
