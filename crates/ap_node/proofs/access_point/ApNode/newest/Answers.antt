use Rattle.std.proofs.Common.{◌∙◌, ap}
use Rattle.ap_node.specs.State.{State}
use Rattle.ap_node.proofs.Carrying.{newest_as, newest_fits}
use Rattle.ap_node.proofs.access_point.ApNode.newest.Goals as goal

pub returns-clause-news : goal.returns-clause-news
returns-clause-news c =
    newest_as c.args.self.now c.newest-gtk.result c.newest_uses-rsc.result c.newest_igtk-igtk.result (c.newest-gtk.ensures ∙ ap (λ (t : State). t.group.gtk.newest) c.self.view_is) c.newest_uses-rsc.ensures.uses c.newest_igtk-igtk.ensures.igtk

pub returns-clause-fits : goal.returns-clause-fits
returns-clause-fits c =
    newest_fits c.newest-gtk.result c.self.inside.group.gtk.newest c.newest_uses-rsc.result c.newest_igtk-igtk.result c.newest-gtk.ensures c.self.invariant.0 c.newest_uses-rsc.ensures.few c.newest_igtk-igtk.ensures.few
