use Rattle.micro_bench.proofs.Loads.{octet_loads}
use Rattle.micro_bench.proofs.crew.pull.Goals as goal

pub returns-clause-found : goal.returns-clause-found
returns-clause-found c = octet_loads _ _ _ _ _ _ _ _ _ c.octet_of-2.ensures c.pull.ensures.pulled
