use Rattle.std.proofs.Common.{sym, ◌∙◌}
use Rattle.air_frame.proofs.Exact.{management_sound, data_long}
use Rattle.air_frame.proofs.reading.frame_of.Goals as goal

pub data-requires-clause-body : goal.data-requires-clause-body
data-requires-clause-body c = data_long c.args.octets.now c.requires (sym c.is_data.ensures ∙ c.if-is_data.true)

pub management-requires : goal.management-requires
management-requires c = (management_sound c.args.octets.now c.requires (sym c.is_management.ensures ∙ c.if-is_management.true)).long
