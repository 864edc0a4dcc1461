use Rattle.std.proofs.Common.{◌∙◌, ap}
use Rattle.std.specs.Int.{w16}
use Rattle.domain_base.specs.Places.{little_endian_at}
use Rattle.bip_guard.proofs.frame.key_id_in.Goals as goal

pub returns : goal.returns
returns c = c.little_u16_at.ensures ∙ ap (little_endian_at w16 2) c.mme_of.ensures.octets
