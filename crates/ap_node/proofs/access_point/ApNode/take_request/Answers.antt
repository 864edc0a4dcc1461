use Rattle.std.proofs.Common.{◌≤◌, ◌<◌, ℕ, refl, sym, ap, subst}
use Rattle.ap_node.proofs.AtPlaces.{err_at}
use Rattle.std.specs.Option.{option_copied}
use Rattle.run_journal.specs.declared.acts.Outcome.TheVariants.{Accepted, Refused}
use Rattle.run_journal.specs.declared.acts.Reason.TheVariants as reason
use Rattle.domain_rules.specs.Network.{draw_end}
use Rattle.domain_rules.specs.Rows.{Take}
use Rattle.node_base.specs.Events.{seen}
use Rattle.act_memory.proofs.Returning.{if_settled}
use Rattle.ap_node.specs.State.{State}
use Rattle.ap_node.specs.Takes.{IsTaken}
use Rattle.ap_node.proofs.Refusing.{Stays}
use Rattle.ap_node.proofs.Requesting.{takes_status, takes_spent, takes_associated, if_begun}
use Rattle.ap_node.proofs.access_point.ApNode.take_request.Goals as goal

pub returns-in-Some-clause-taken : goal.returns-in-Some-clause-taken
returns-in-Some-clause-taken c =
    let d = c.args.here.domain.now in
    let waited = c.args.out.now.acts in
    let waits = c.refuse.new.out.acts in
    if_settled c.refuse.result (Refused (reason.Status c.in-Some.status)) (λ outcome. Stays d c.args.self.now c.args.octets.now waited waits outcome) _ c.refuse.ensures.outcome c.refuse.ensures.acts
    (λ waiting. takes_status d c.args.self.now c.args.octets.now c.args.station c.args.elements.now c.in-Some.status c.args.here.node waited waits c.requires.frame (sym c.in-Some.ensures) c.requires.node waiting)

pub returns-then-self-ge-DRAW_END-clause-taken : goal.returns-then-self-ge-DRAW_END-clause-taken
returns-then-self-ge-DRAW_END-clause-taken c =
    let d = c.args.here.domain.now in
    let waited = c.args.out.now.acts in
    let waits = c.settle.new.out.acts in
    if_settled c.settle.result (Refused reason.Spent) (λ outcome. Stays d c.args.self.now c.args.octets.now waited waits outcome) _ c.settle.ensures.outcome c.settle.ensures.acts
    (λ waiting. takes_spent d c.args.self.now c.args.octets.now c.args.station c.args.elements.now waited waits c.requires.frame
    (sym c.in_default.ensures) (subst (λ (n : ℕ). draw_end ≤ n) (ap (λ (s : State). s.drawn) c.self.view_is) c.if-self-ge-DRAW_END.true) waiting)

pub returns-clause-taken : goal.returns-clause-taken
returns-clause-taken c =
    let d = c.args.here.domain.now in
    let old = c.args.self.now in
    let new = c.associate.new.self in
    let waited = c.args.out.now.acts in
    let waits = c.associate.new.out.acts in
    if_begun c.associate.result Accepted (λ outcome. IsTaken d (Take c.args.octets.now) old new (seen waited waits outcome)) _ _ c.associate.ensures.outcome c.associate.ensures.begun c.associate.ensures.acts
    (λ now waiting. takes_associated d old new c.args.octets.now c.args.station c.args.elements.now c.whole_element.result.now c.in-Some-rsne_octets.rsne.now waited waits c.requires.frame
    (sym c.in_default.ensures) (subst (λ (n : ℕ). n < draw_end) (ap (λ (s : State). s.drawn) c.self.view_is) c.if-self-ge-DRAW_END.false) (ap option_copied c.in-Some-rsne_octets.is) c.whole_element.ensures.same now waiting)

pub returns-then-self-ge-DRAW_END-clause-same : goal.returns-then-self-ge-DRAW_END-clause-same
returns-then-self-ge-DRAW_END-clause-same c = err_at c.settle.result _ refl
