use Rattle.std.proofs.Common.{◌∙◌, ap}
use Rattle.ap_node.specs.State.{State, newest_announced}
use Rattle.ap_node.specs.Switching.{newest_beside}
use Rattle.ap_node.proofs.Carrying.{igtk_found, none_found, some_fits, none_fits}
use Rattle.ap_node.proofs.access_point.ApNode.newest_igtk.Goals as goal

pub returns-in-Some-clause-igtk : goal.returns-in-Some-clause-igtk
returns-in-Some-clause-igtk c =
    igtk_found c.args.self.now.group.igtk c.in-Some.igtk c.newest_announced-ipn.result (newest_announced c.args.self.now) (c.in-Some.ensures ∙ ap (λ (t : State). newest_beside t.group.igtk) c.self.view_is) c.newest_announced-ipn.ensures.uses

pub returns-in-Some-clause-few : goal.returns-in-Some-clause-few
returns-in-Some-clause-few c = some_fits _ c.newest_announced-ipn.ensures.few

pub returns-in-None-clause-igtk : goal.returns-in-None-clause-igtk
returns-in-None-clause-igtk c = none_found c.args.self.now.group.igtk (newest_announced c.args.self.now) (c.in-None.ensures ∙ ap (λ (t : State). newest_beside t.group.igtk) c.self.view_is)

pub returns-in-None-clause-few : goal.returns-in-None-clause-few
returns-in-None-clause-few c = none_fits
