use Rattle.domain_cli.proofs.Linked.{link_keeps}
use Rattle.domain_cli.proofs.linking.linked.Goals as goal

pub returns : goal.returns
returns g c port =
    let ran = c.link-found.ensures in
    link_keeps port c.args.end c.link-found.result _ _ c.link_status.result _ c.link_status.ensures ran.linked ran.source_laid ran.sink_laid ran.link_laid ran.draws_laid
