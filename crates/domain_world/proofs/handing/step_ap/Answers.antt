use Rattle.std.proofs.Common.{sym, subst}
use Rattle.node_base.specs.declared.event.NodeEvent.{NodeEvent}
use Rattle.node_base.specs.Changing.{ButSecret}
use Rattle.node_base.specs.Events.{event_of}
use Rattle.ap_node.specs.Putting.{OneMove}
use Rattle.domain_world.proofs.handing.step_ap.Goals as goal

-- a payload that is sent is no changed key
pub returns-in-Send-default-Some-default-clause-one : goal.returns-in-Send-default-Some-default-clause-one
returns-in-Send-default-Some-default-clause-one g c =
    subst (λ (e : NodeEvent). ButSecret (event_of e) (OneMove (g.H.Holders.rows c.args.holders.now c.args.ap.now.number) (g.H.Holders.rows c.step.new.holders c.args.ap.now.number))) (sym c.in-Send-default-Some-default.is) c.step.ensures.one
