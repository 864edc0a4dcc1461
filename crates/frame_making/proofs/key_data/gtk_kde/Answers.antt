use Rattle.std.proofs.Common.{rules}
use Rattle.frame_making.proofs.key_data.gtk_kde.Goals as goal

pub returns-clause-octets : goal.returns-clause-octets
returns-clause-octets c = search rules steps 900000
