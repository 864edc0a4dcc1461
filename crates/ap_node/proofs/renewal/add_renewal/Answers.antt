use Rattle.domain_base.specs.declared.names.Node.TheVariants.{Sta}
use Rattle.ap_node.proofs.Added.{renewal_added}
use Rattle.ap_node.proofs.renewal.add_renewal.Goals as goal

pub returns : goal.returns
returns c = renewal_added c.args.out.now.acts _ _ _ (Sta c.args.station) c.args.anonce c.args.reply.now c.add.ensures.acts c.add-2.ensures.acts c.add_sent.ensures.acts
