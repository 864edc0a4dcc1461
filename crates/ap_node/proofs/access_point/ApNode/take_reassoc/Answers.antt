use Rattle.domain_rules.specs.Rows.{Take}
use Rattle.ap_node.proofs.Ending.{ends_as}
use Rattle.ap_node.proofs.access_point.ApNode.take_reassoc.Goals as goal

pub returns-clause-taken : goal.returns-clause-taken
returns-clause-taken c =
    ends_as c.args.here.domain.now (Take c.args.octets.now) c.args.self.now c.move_over.new.self c.end.new.self c.args.out.now.acts c.move_over.new.out.acts c.end.new.out.acts c.in_ok-outcome.outcome c.end.result c.in_ok-outcome.ensures.done c.end.ensures.state c.end.ensures.acts c.end.ensures.outcome
