use Rattle.std.proofs.Common.{arith}
use Rattle.rsn_elements.proofs.FieldsRead.{list_read, list_short}
use Rattle.rsn_elements.proofs.security.list_at.Goals as goal

pub returns-then-octets-size : goal.returns-then-octets-size
returns-then-octets-size c = list_short c.args.n _ c.args.octets.now (omega (arith, c.if-octets-lt2.false)) c.list_size-size.ensures c.if-octets-size.true

pub returns : goal.returns
returns c = list_read c.args.n _ c.args.octets.now _ _ _ c.list_size-size.ensures c.if-octets-size.false c.split_at.ensures.front c.split_at.ensures.back c.split_at-2.ensures.back
