use Rattle.std.proofs.Common.{refl}
use Rattle.ccmp_guard.specs.Ccmp.{ccmp_header}
use Rattle.ccmp_guard.proofs.ccmp.header_octets.Goals as goal

pub returns : goal.returns
unfolding ccmp_header
returns c = rw (c.to_le_bytes-number.ensures) refl
