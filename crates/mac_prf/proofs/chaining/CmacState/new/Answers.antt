use Rattle.std.proofs.Common.{refl}
use Rattle.mac_prf.specs.Cmac.{chained}
use Rattle.mac_prf.proofs.chaining.CmacState.new.Goals as goal

pub returns : goal.returns
unfolding chained
returns c = record { keyed = c.new-cipher.ensures.value; before = refl; counted = refl; last = refl }
