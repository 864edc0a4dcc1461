use Rattle.std.proofs.Common.{ap, sym}
use Rattle.mac_prf.specs.FteMic.{transaction_number}
use Rattle.mac_prf.proofs.reassociation.Reassociation.number.Goals as goal

pub returns-in-Response : goal.returns-in-Response
returns-in-Response c = ap transaction_number (sym c.in-Response.is)
