use Rattle.std.proofs.Common.{◌≡◌, ◌∙◌, ◌<◌, ℕ, suc, Bool, List, length, nat_lt, sym, ap, ap₂, subst, arith}
use Rattle.std.proofs.lemmas.Bool.{ltb-true}
use Rattle.run_journal.specs.declared.acts.Why.TheVariants as why
use Rattle.run_journal.specs.declared.acts.Outcome.TheVariants.{Done, Idle as IdleBy}
use Rattle.run_journal.specs.declared.acts.Act.{Act}
use Rattle.run_journal.specs.declared.domain.Domain.{Domain as AnyDomain}
use Rattle.domain_rules.specs.Network.{draw_end, InForm}
use Rattle.domain_rules.specs.Rows.{Rekey}
use Rattle.node_base.specs.Events.{seen}
use Rattle.act_memory.proofs.Returning.{if_settled}
use Rattle.ap_node.specs.Drawing.{last_of}
use Rattle.ap_node.specs.State.{State}
use Rattle.ap_node.specs.Takes.{IsDone, IsTaken}
use Rattle.ap_node.proofs.Idling.{takes_pending, takes_no_draw}
use Rattle.ap_node.proofs.Ending.{ends_as}
use Rattle.ap_node.proofs.access_point.ApNode.rekey.Goals as goal

pub returns-then-is_pending-clause-taken : goal.returns-then-is_pending-clause-taken
returns-then-is_pending-clause-taken c =
    let d = c.args.here.domain.now in
    let s = c.args.self.now in
    let waited = c.args.out.now.acts in
    let waits = c.idle.new.out.acts in
    if_settled c.idle.result (IdleBy why.RekeyPending) (λ outcome. IsTaken d Rekey s s (seen waited waits outcome)) _ c.idle.ensures.outcome c.idle.ensures.acts
    (λ waiting. takes_pending d s waited waits (subst (λ (t : State). t.group.gtk.newest.place ≡ suc t.group.gtk.current.place) c.self.view_is (c.is_pending.ensures.pending.0 c.if-is_pending.true)) waiting)

pub returns-then-not-can_draw-clause-taken : goal.returns-then-not-can_draw-clause-taken
returns-then-not-can_draw-clause-taken c =
    let d = c.args.here.domain.now in
    let s = c.args.self.now in
    let waited = c.args.out.now.acts in
    let waits = c.idle-then-not-can_draw.new.out.acts in
    if_settled c.idle-then-not-can_draw.result (IdleBy why.Spent) (λ outcome. IsTaken d Rekey s s (seen waited waits outcome)) _ c.idle-then-not-can_draw.ensures.outcome c.idle-then-not-can_draw.ensures.acts
    (λ waiting. takes_no_draw d s waited waits (subst (λ (t : State). t.group.gtk.newest.place ≡ t.group.gtk.current.place) c.self.view_is (c.is_pending.ensures.in_use.0 c.if-is_pending.false))
    (sym (ap₂ (λ (b : Bool) (n : ℕ). nat_lt (last_of b n) draw_end) c.has_igtk-protects.ensures (ap (λ (t : State). t.drawn) c.self.view_is)) ∙ sym c.can_draw.ensures ∙ c.if-not-can_draw.true) waiting)

pub returns-clause-taken : goal.returns-clause-taken
returns-clause-taken c =
    let d = c.args.here.domain.now in
    ends_as d Rekey c.args.self.now c.renew.new.self c.end.new.self c.args.out.now.acts c.renew.new.out.acts c.end.new.out.acts Done c.end.result
    (subst (λ (l : List Act). IsDone d Rekey c.args.self.now c.renew.new.self (seen l c.renew.new.out.acts Done)) c.in_ok-reserve.ensures.acts c.renew.ensures.done)
    c.end.ensures.state c.end.ensures.acts c.end.ensures.outcome

pub renew-requires-clause-in_use : goal.renew-requires-clause-in_use
renew-requires-clause-in_use c = subst (λ (t : State). t.group.gtk.newest.place ≡ t.group.gtk.current.place) c.self.view_is (c.is_pending.ensures.in_use.0 c.if-is_pending.false)

pub renew-requires-clause-draw : goal.renew-requires-clause-draw
renew-requires-clause-draw c =
    let protects = c.has_igtk-protects.result in
    ltb-true (last_of protects c.args.self.now.drawn) draw_end (sym (ap (λ (t : State). nat_lt (last_of protects t.drawn) draw_end) c.self.view_is) ∙ sym c.can_draw.ensures ∙ c.if-not-can_draw.false)

pub renew-requires-clause-protects : goal.renew-requires-clause-protects
renew-requires-clause-protects c = c.has_igtk-protects.ensures

small : (d : AnyDomain) → InForm d → length d.stas < 65536
small d form = omega (arith, form.few_stas)

pub overflow_cast-count : goal.overflow_cast-count
overflow_cast-count c = omega (arith, c.len-count.ensures, small c.args.here.domain.now c.requires.form)

pub renew-requires-clause-rooms : goal.renew-requires-clause-rooms
renew-requires-clause-rooms c = omega (arith, c.in_ok-rooms.ensures, c.from.ensures)

pub renew-requires-clause-room : goal.renew-requires-clause-room
renew-requires-clause-room c = omega (arith, c.in_ok-reserve.ensures.spare, c.from-2.ensures)

pub renew-requires-clause-listed : goal.renew-requires-clause-listed
renew-requires-clause-listed c = c.requires.listed

pub end-requires-clause-listed : goal.end-requires-clause-listed
end-requires-clause-listed c = subst (λ (n : ℕ). n < length c.args.here.domain.now.aps) (sym c.renew.ensures.number) c.requires.listed
