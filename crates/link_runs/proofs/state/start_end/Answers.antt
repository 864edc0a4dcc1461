use Rattle.std.proofs.Common.{refl}
use Rattle.link_runs.proofs.Doing.{begins_at}
use Rattle.link_runs.proofs.state.start_end.Goals as goal

pub returns-in-Ok-clause-began : goal.returns-in-Ok-clause-began
returns-in-Ok-clause-began g c = (c.in-Ok.running, refl, begins_at g.A.L.Link.told _ _ _ _ c.in-Ok.running _ _ c.end.ensures c.header.ensures.header c.in-Ok.ensures.began)
