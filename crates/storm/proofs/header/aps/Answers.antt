use Rattle.std.proofs.Common.{rules}
use Rattle.storm.proofs.Listed.{listing}
use Rattle.storm.proofs.header.aps.Goals as goal

pub loop-place-preserved : goal.loop-place-preserved
loop-place-preserved c = search (rules, listing) steps 300000
