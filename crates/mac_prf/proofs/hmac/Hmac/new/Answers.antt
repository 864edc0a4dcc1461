use Rattle.std.proofs.Common.{rules}
use Rattle.mac_prf.proofs.hmac.Hmac.new.Goals as goal

pub returns : goal.returns
returns g c = search rules
