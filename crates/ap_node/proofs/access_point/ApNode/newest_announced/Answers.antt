use Rattle.std.proofs.Common.{◌≡◌, ◌∙◌, suc, ap, subst}
use Rattle.ap_node.specs.InUse.{announced_in}
use Rattle.ap_node.specs.State.{State}
use Rattle.ap_node.proofs.Carrying.{pending_announced, current_announced}
use Rattle.ap_node.proofs.access_point.ApNode.newest_announced.Goals as goal

pub returns-then-is_pending-clause-uses : goal.returns-then-is_pending-clause-uses
returns-then-is_pending-clause-uses c =
    pending_announced c.args.self.now (subst (λ (t : State). t.group.gtk.newest.place ≡ suc t.group.gtk.current.place) c.self.view_is (c.is_pending.ensures.pending.0 c.if-is_pending.true))

pub returns-clause-uses : goal.returns-clause-uses
returns-clause-uses c =
    current_announced c.args.self.now c.announced.result (subst (λ (t : State). t.group.gtk.newest.place ≡ t.group.gtk.current.place) c.self.view_is (c.is_pending.ensures.in_use.0 c.if-is_pending.false))
    (c.announced.ensures.value ∙ ap (λ (t : State). announced_in t.sending.igtk) c.self.view_is)
