use Rattle.look_audit.proofs.Own.{held}
use Rattle.look_audit.proofs.laws.holders_alone_tell.Goals as goal

pub returns : goal.returns
returns c = held
