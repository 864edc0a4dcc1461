use Rattle.std.proofs.Common.{◌∙◌, ap}
use Rattle.bip_guard.specs.Bip.{ipn_at}
use Rattle.bip_guard.proofs.frame.ipn_in.Goals as goal

pub returns : goal.returns
unfolding ipn_at
returns c = c.from_le_bytes.ensures ∙ ap ipn_at c.mme_of-mme.ensures.octets
