use Rattle.std.proofs.Common.{◌∙◌, ◌++◌, ℕ, List, ap}
use Rattle.aes_block.specs.Cipher.{cipher}
use Rattle.ccmp_guard.proofs.Blocks.{begun-made}
use Rattle.ccmp_guard.proofs.ccm.begin.Goals as goal

pub returns : goal.returns
returns c =
    c.absorb.ensures
    ∙ begun-made c.args.key.now c.args.nonce.now c.args.aad.now c.encrypt.result _ c.args.len c.requires.some
    (c.encrypt.ensures ∙ ap (cipher c.args.key.now) c.framed.ensures)
    (c.put-end.ensures.front ∙ ap (λ (w : List ℕ). w ++ c.args.aad.now) (c.put-at.ensures.front ∙ c.to_be_bytes.ensures))
