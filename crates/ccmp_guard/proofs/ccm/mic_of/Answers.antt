use Rattle.std.proofs.Common.{◌∙◌, ap, take}
use Rattle.aes_block.specs.Octets.{exclusive_or}
use Rattle.ccmp_guard.specs.Ccm.{key_block}
use Rattle.ccmp_guard.proofs.Octets.{take-exclusive_or-first}
use Rattle.ccmp_guard.proofs.ccm.mic_of.Goals as goal

pub returns : goal.returns
returns c =
    c.array_at.ensures ∙ ap (take 8) (c.add.ensures ∙ ap (exclusive_or c.args.x) c.key_block.ensures)
    ∙ take-exclusive_or-first 8 c.args.x (key_block c.args.key.now c.args.nonce.now 0)
