use Rattle.std.proofs.Common.{◌≡◌, ◌∙◌, ◌<◌, ◌≤◌, true, sym, ap, ap₂, subst}
use Rattle.group_key.specs.declared.keys.GroupKey.{GroupKey}
use Rattle.group_key.specs.declared.keys.Pair.{Pair}
use Rattle.ap_node.specs.InUse.{made}
use Rattle.ap_node.specs.State.{State}
use Rattle.ap_node.specs.Switching.{is_due, newest_beside, switched}
use Rattle.ap_node.proofs.Carrying.{quiet_state, quiet_acts, switched_as, due_state, due_acts_are}
use Rattle.ap_node.proofs.Listed.{ap_listed}
use Rattle.ap_node.proofs.Messaging.{the_state}
use Rattle.ap_node.proofs.access_point.ApNode.switch.Goals as goal

pub returns-then-not-is_due-clause-state : goal.returns-then-not-is_due-clause-state
returns-then-not-is_due-clause-state c = quiet_state c.args.self.now (sym c.is_due.ensures ∙ c.if-not-is_due.true)

pub returns-then-not-is_due-clause-acts : goal.returns-then-not-is_due-clause-acts
returns-then-not-is_due-clause-acts c = quiet_acts c.args.here.domain.now c.args.self.now c.args.out.now.acts (sym c.is_due.ensures ∙ c.if-not-is_due.true)

pub returns-clause-state : goal.returns-clause-state
returns-clause-state c =
    let s : State = the_state c.self.inside.number c.self.inside.drawn c.self.inside.group c.self.inside.sending c.self.inside.stations.entries c.self.inside.owing in
    let due : is_due s ≡ true = ap is_due c.self.view_is ∙ sym c.is_due.ensures ∙ c.if-not-is_due.false in
    due_state s c.switch.new.self c.made-self-inside.result due (switched_as c.switch.new.self c.self.inside.group c.switch.ensures.gtk c.switch.ensures.igtk) (c.made-self-inside.ensures ∙ ap₂ made c.newest-gtk.ensures c.newest_igtk-igtk.ensures)
    ∙ ap switched c.self.view_is

pub returns-clause-acts : goal.returns-clause-acts
returns-clause-acts c =
    due_acts_are c.args.here.domain.now c.args.here.node c.args.self.now c.args.out.now.acts c.add_made.new.out.acts c.newest-gtk.result c.newest_igtk-igtk.result c.address.result (sym c.is_due.ensures ∙ c.if-not-is_due.false)
    (c.newest-gtk.ensures ∙ ap (λ (t : State). t.group.gtk.newest) c.self.view_is) (c.newest_igtk-igtk.ensures ∙ ap (λ (t : State). newest_beside t.group.igtk) c.self.view_is) c.address.ensures.mac c.requires.node c.add_made.ensures.acts

pub made-self-inside-requires : goal.made-self-inside-requires
made-self-inside-requires c = subst (λ (k : GroupKey). (1 ≤ k.id) × (k.id < 4)) (sym c.newest-gtk.ensures) (c.self.invariant.1, c.self.invariant.0)

pub address-requires : goal.address-requires
address-requires c = ap_listed c.args.here.domain.now c.args.here.node c.args.self.now.number c.requires.node c.requires.listed

pub invariant_of-self : goal.invariant_of-self
invariant_of-self c = subst (λ (p : Pair). (p.newest.id < 4) × (1 ≤ p.newest.id) × (p.newest.place < c.self.inside.drawn)) (sym c.switch.ensures.gtk) c.self.invariant
