use Rattle.std.proofs.Common.{refl, rules}
use Rattle.loopback.proofs.udp.UdpLinkLink.poll.Goals as goal

pub returns-in-Ok-clause-bound : goal.returns-in-Ok-clause-bound
returns-in-Ok-clause-bound c = search rules

pub returns-then-is_silence-clause-bound : goal.returns-then-is_silence-clause-bound
returns-then-is_silence-clause-bound c = tt

pub returns-then-is_silence-clause-unfailed : goal.returns-then-is_silence-clause-unfailed
returns-then-is_silence-clause-unfailed c = refl
