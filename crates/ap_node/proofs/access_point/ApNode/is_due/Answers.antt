use Rattle.std.proofs.Common.{◌≡◌, ◌∙◌, ◌==◌, suc, ap, subst}
use Rattle.ap_node.specs.State.{State}
use Rattle.ap_node.proofs.Carrying.{not_pending, pending_due}
use Rattle.ap_node.proofs.access_point.ApNode.is_due.Goals as goal

pub returns-then-not-is_pending : goal.returns-then-not-is_pending
returns-then-not-is_pending c = not_pending c.args.self.now (subst (λ (t : State). t.group.gtk.newest.place ≡ t.group.gtk.current.place) c.self.view_is (c.is_pending.ensures.in_use.0 c.if-not-is_pending.true))

pub returns : goal.returns
returns c =
    ap (λ (t : State). t.owing == 0) c.self.view_is
    ∙ pending_due c.args.self.now (subst (λ (t : State). t.group.gtk.newest.place ≡ suc t.group.gtk.current.place) c.self.view_is (c.is_pending.ensures.pending.0 c.if-not-is_pending.false))
