use Rattle.std.proofs.Common.{◌∙◌, ap}
use Rattle.aes_block.specs.Cipher.{cipher}
use Rattle.ccmp_guard.specs.Ccm.{counter_block}
use Rattle.ccmp_guard.proofs.ccm.key_block.Goals as goal

pub returns : goal.returns
unfolding counter_block
returns c = c.encrypt.ensures ∙ ap (cipher c.args.key.now) c.framed.ensures
