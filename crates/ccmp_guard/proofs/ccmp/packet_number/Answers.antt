use Rattle.ccmp_guard.specs.Ccmp.{packet_number}
use Rattle.ccmp_guard.proofs.ccmp.packet_number.Goals as goal

pub returns-clause-value : goal.returns-clause-value
unfolding packet_number
returns-clause-value c = c.from_le_bytes.ensures
