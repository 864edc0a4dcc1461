use Rattle.link_runs.proofs.Doing.{begins}
use Rattle.link_runs.proofs.state.begin.Goals as goal

pub returns-in-Ok-attach-clause-began : goal.returns-in-Ok-attach-clause-began
returns-in-Ok-attach-clause-began g c =
    begins g.A.L.Link.told c.args.end c.args.header.now _ _ _ c.node.result c.in-Ok.ensures.ends c.in-Ok.ensures.one c.in-Ok.ensures.none c.node.ensures c.in-Ok-attach.ensures.attached
