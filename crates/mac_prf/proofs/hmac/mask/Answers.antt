use Rattle.std.proofs.Common.{add-one}
use Rattle.mac_prf.proofs.Lists.{masked-more}
use Rattle.mac_prf.proofs.hmac.mask.Goals as goal

pub loop-octet-preserved : goal.loop-octet-preserved
loop-octet-preserved c =
    rw (add-one, c.loop-octet.invariant) (masked-more c.args.pad c.args.block.now c.loop-octet.octet-index 0 c.loop-octet-test.true)
