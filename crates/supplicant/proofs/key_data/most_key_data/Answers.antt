use Rattle.std.proofs.Common.{◌∙◌}
use Rattle.supplicant.proofs.KeyDataRead.{key_data_few}
use Rattle.supplicant.proofs.key_data.most_key_data.Goals as goal

pub returns-clause-most : goal.returns-clause-most
returns-clause-most c f s = key_data_few c.args.octets.now f c.from.result (c.from.ensures ∙ c.big_u16_at.ensures) s
