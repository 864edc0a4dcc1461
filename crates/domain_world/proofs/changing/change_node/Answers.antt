use Rattle.std.proofs.Common.{ℕ, List, true≢false, sym, subst}
use Rattle.run_journal.specs.declared.acts.Act.{Act}
use Rattle.domain_base.specs.declared.names.Node.TheVariants.{Ap}
use Rattle.domain_rules.specs.Here.{here}
use Rattle.domain_rules.specs.Rows.{NodeEvent}
use Rattle.node_base.specs.Changing.{after, HasRoomFor}
use Rattle.node_base.specs.Events.{IsEventAt, Steps, seen}
use Rattle.holder_table.specs.Histories.{held_at}
use Rattle.ap_node.specs.Stands.{StandsWith as ApStands}
use Rattle.domain_world.specs.Changing.{change_of}
use Rattle.domain_world.proofs.ChangingNodes.{ap_by_step}
use Rattle.domain_world.proofs.changing.change_node.Goals as goal

pub step_ap-requires-clause-event : goal.step_ap-requires-clause-event
step_ap-requires-clause-event c = subst (IsEventAt c.args.change.domain.now (Ap c.args.node.now.number)) (sym c.secret_of-event.ensures) c.requires.sta

-- there is room
pub unreachable-requires : goal.unreachable-requires
unreachable-requires c = true≢false (sym (c.in-Err.ensures.always (subst (λ (e : NodeEvent). HasRoomFor c.args.change.domain.now e c.args.out.now.spare) (sym c.secret_of-event.ensures) c.requires.room)))

pub returns-clause-changed : goal.returns-clause-changed
returns-clause-changed c =
    let d = c.args.change.domain.now in
    let s = c.args.node.now in
    let old = c.args.holders.now.pass.knows.seen in
    let new = c.step_ap.new.holders.pass.knows.seen in
    ap_by_step d (change_of c.args.change) s c.step_ap.new.ap old new c.args.out.now.acts c.step_ap.new.out.acts c.in-Ok.field-0 c.requires.waiting
    (subst (λ (e : NodeEvent). (first : ℕ) (h : List Act) → ApStands d first s (held_at s.number old) h → Steps (here d first (Ap s.number)) e (ApStands (after d e) first c.step_ap.new.ap (held_at s.number new)) h (seen c.args.out.now.acts c.step_ap.new.out.acts c.in-Ok.field-0)) c.secret_of-event.ensures
    c.in-Ok.ensures.steps)

pub returns-clause-others : goal.returns-clause-others
returns-clause-others c = λ r other there. c.in-Ok.ensures.others.others r other there

pub returns-clause-spare : goal.returns-clause-spare
returns-clause-spare c = c.in-Ok.ensures.spare (subst (λ (e : NodeEvent). HasRoomFor c.args.change.domain.now e c.args.out.now.spare) (sym c.secret_of-event.ensures) c.requires.room)
