use Rattle.std.proofs.Common.{sym, ap}
use Rattle.data_frames.specs.Taking.{reason_of}
use Rattle.data_frames.proofs.handing_up.reason.Goals as goal

pub returns-in-Replayed : goal.returns-in-Replayed
returns-in-Replayed c = sym (ap reason_of c.in-Replayed.is)
