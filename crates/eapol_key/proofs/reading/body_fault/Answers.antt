use Rattle.std.proofs.Common.{rules}
use Rattle.eapol_key.proofs.reading.body_fault.Goals as goal

pub returns-then-octets-ne2 : goal.returns-then-octets-ne2
returns-then-octets-ne2 c = search rules

pub returns-then-from-body : goal.returns-then-from-body
returns-then-from-body c = search rules

pub returns-else-from-body : goal.returns-else-from-body
returns-else-from-body c = search rules

pub big_u16_at-requires-else-octets-ne2 : goal.big_u16_at-requires-else-octets-ne2
big_u16_at-requires-else-octets-ne2 c = search rules
