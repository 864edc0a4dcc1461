use Rattle.domain_base.specs.declared.names.Node.TheVariants.{Sta}
use Rattle.ap_node.proofs.Requesting.{accepted_added}
use Rattle.ap_node.proofs.association.add_accepted.Goals as goal

pub returns : goal.returns
returns c =
    accepted_added c.args.out.now.acts c.add.new.self.acts c.close_attempt.new.out.acts c.open_attempt.new.out.acts c.add_sent.new.out.acts (Sta c.args.station) c.args.had_attempt _ _ _ _ _
    c.add.ensures.acts c.close_attempt.ensures.acts c.open_attempt.ensures.acts c.add_sent.ensures.acts
