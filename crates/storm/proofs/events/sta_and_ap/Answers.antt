use Rattle.std.proofs.Common.{rules}
use Rattle.storm.proofs.events.sta_and_ap.Goals as goal

pub returns-clause-ap : goal.returns-clause-ap
returns-clause-ap c = search rules steps 200000

pub returns-clause-sta : goal.returns-clause-sta
returns-clause-sta c = search rules steps 200000
