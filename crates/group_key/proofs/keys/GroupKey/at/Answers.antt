use Rattle.std.proofs.Common.{rules}
use Rattle.group_key.proofs.keys.GroupKey.at.Goals as goal

pub returns : goal.returns
returns c = search rules
