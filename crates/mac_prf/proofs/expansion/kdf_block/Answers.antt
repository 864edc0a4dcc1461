use Rattle.std.proofs.Common.{◌∙◌, ap, append_assoc}
use Rattle.sha2.specs.Sha256.{sha256}
use Rattle.mac_prf.specs.Hmac.{hmac}
use Rattle.mac_prf.proofs.expansion.kdf_block.Goals as goal

pub returns : goal.returns
returns c key held =
    let bits = c.update-3.ensures key _ (c.update-2.ensures key _ (c.update.ensures key _ (c.fork-state.ensures key _ held))) in
    c.finalize.ensures key _ (c.update-4.ensures key _ bits)
    ∙ ap (hmac sha256 key) (simp (c.to_le_bytes.ensures, c.to_le_bytes-2.ensures, append_assoc))
