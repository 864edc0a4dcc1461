use Rattle.std.proofs.Common.{◌≡◌, ◌∙◌, suc, ap, subst}
use Rattle.ap_node.specs.State.{State}
use Rattle.ap_node.proofs.Carrying.{pending_uses, current_uses}
use Rattle.ap_node.proofs.access_point.ApNode.newest_uses.Goals as goal

pub returns-then-is_pending-clause-uses : goal.returns-then-is_pending-clause-uses
returns-then-is_pending-clause-uses c =
    pending_uses c.args.self.now (subst (λ (t : State). t.group.gtk.newest.place ≡ suc t.group.gtk.current.place) c.self.view_is (c.is_pending.ensures.pending.0 c.if-is_pending.true))

pub returns-clause-uses : goal.returns-clause-uses
returns-clause-uses c =
    current_uses c.args.self.now c.used.result (subst (λ (t : State). t.group.gtk.newest.place ≡ t.group.gtk.current.place) c.self.view_is (c.is_pending.ensures.in_use.0 c.if-is_pending.false))
    (c.used.ensures.value ∙ ap (λ (t : State). t.sending.gtk.used) c.self.view_is)
