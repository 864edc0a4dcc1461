use Rattle.std.proofs.Common.{arith}
use Rattle.frame_making.proofs.Elements.{mobility_answered}
use Rattle.frame_making.proofs.sending.put_response_mobility.Goals as goal

pub returns-clause-octets : goal.returns-clause-octets
returns-clause-octets c = grind (arith, mobility_answered)
