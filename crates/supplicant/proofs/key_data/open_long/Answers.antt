use Rattle.std.proofs.Common.{arith}
use Rattle.eapol_key.specs.Fields.{fields_of}
use Rattle.supplicant.proofs.KeyDataRead.{frame_long}
use Rattle.supplicant.proofs.key_data.open_long.Goals as goal

pub most_key_data-requires : goal.most_key_data-requires
most_key_data-requires c = record { long = frame_long c.args.frame.now.octets.now (fields_of c.args.frame.now) c.requires }

pub open_into-requires : goal.open_into-requires
open_into-requires c = omega (arith, c.most_key_data.ensures.most (fields_of c.args.frame.now) c.requires, c.split_at_mut-out.ensures.front_len)

pub split_at_mut-out-requires : goal.split_at_mut-out-requires
split_at_mut-out-requires c = c.most_key_data.ensures.few
