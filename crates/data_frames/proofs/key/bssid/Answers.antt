use Rattle.std.proofs.Common.{rules}
use Rattle.data_frames.proofs.key.bssid.Goals as goal

pub returns-in-Sta-One : goal.returns-in-Sta-One
returns-in-Sta-One c = search rules
