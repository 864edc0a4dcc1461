use Rattle.std.proofs.Common.{rules}
use Rattle.frame_making.proofs.key_data.m2_key_data.Goals as goal

pub returns-in-None-clause-octets : goal.returns-in-None-clause-octets
returns-in-None-clause-octets c = search rules
