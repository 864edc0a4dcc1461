use Rattle.std.proofs.Common.{◌∙◌, ap₂}
use Rattle.aes_block.specs.Octets.{exclusive_or}
use Rattle.aes_block.specs.Cipher.{cipher}
use Rattle.mac_prf.specs.Cmac.{cmac}
use Rattle.mac_prf.proofs.chaining.CmacState.finalize.Goals as goal

pub returns : goal.returns
unfolding cmac
returns c key text h =
    c.encrypt_sum.ensures ∙ ap₂ cipher h.keyed (ap₂ exclusive_or h.before (c.last_block-last.ensures key text h))
