use Rattle.std.proofs.Common.{rules}
use Rattle.loopback.proofs.udp.UdpAirAir.take_back.Goals as goal

pub returns-clause-cause : goal.returns-clause-cause
returns-clause-cause g c = search rules
