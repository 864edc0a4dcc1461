use Rattle.std.proofs.Common.{arith}
use Rattle.rsn_elements.proofs.FieldsRead.{suite_read, suite_short}
use Rattle.rsn_elements.proofs.security.suite_at.Goals as goal

pub returns : goal.returns
returns c = suite_read c.args.octets.now _ _ c.if-octets-lt4.false c.split_at.ensures.back c.array_at.ensures

pub returns-then-octets-lt4 : goal.returns-then-octets-lt4
returns-then-octets-lt4 c = suite_short c.args.octets.now (grind arith) c.if-octets-lt4.true
