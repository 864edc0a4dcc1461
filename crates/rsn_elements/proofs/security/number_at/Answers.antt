use Rattle.rsn_elements.proofs.FieldsRead.{number_read}
use Rattle.rsn_elements.proofs.security.number_at.Goals as goal

pub returns : goal.returns
returns c = number_read c.args.octets.now _ _ c.if-octets-lt2.false c.split_at.ensures.back c.little_u16_at.ensures
