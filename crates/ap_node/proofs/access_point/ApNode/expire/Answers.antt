use Rattle.std.proofs.Common.{List, subst}
use Rattle.run_journal.specs.declared.acts.Act.{Act}
use Rattle.domain_rules.specs.Rows.{Expire}
use Rattle.node_base.specs.Events.{seen}
use Rattle.ap_node.specs.Takes.{IsDone}
use Rattle.ap_node.proofs.Ending.{ends_as}
use Rattle.ap_node.proofs.access_point.ApNode.expire.Goals as goal

pub returns-clause-taken : goal.returns-clause-taken
returns-clause-taken c =
    let d = c.args.here.domain.now in
    let new = c.drop_station-outcome.new.self in
    let outcome = c.drop_station-outcome.result in
    ends_as d (Expire c.args.station) c.args.self.now new c.end.new.self c.args.out.now.acts c.drop_station-outcome.new.out.acts c.end.new.out.acts outcome c.end.result
    (subst (λ (l : List Act). IsDone d (Expire c.args.station) c.args.self.now new (seen l c.drop_station-outcome.new.out.acts outcome)) c.in_ok-reserve.ensures.acts (c.drop_station-outcome.ensures.done d c.requires.form c.requires.station))
    c.end.ensures.state c.end.ensures.acts c.end.ensures.outcome
