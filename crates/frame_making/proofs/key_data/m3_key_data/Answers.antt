use Rattle.std.proofs.Common.{rules}
use Rattle.frame_making.proofs.key_data.m3_key_data.Goals as goal

pub returns-in-Some-clause-octets : goal.returns-in-Some-clause-octets
returns-in-Some-clause-octets c = search rules steps 500000
