use Rattle.std.proofs.Common.{rules}
use Rattle.air_frame.proofs.control.data_header_length.Goals as goal

pub returns-then-is_qos : goal.returns-then-is_qos
returns-then-is_qos c = search rules
