use Rattle.std.proofs.Common.{◌≡◌, sym, ap, subst, ◌∙◌}
use Rattle.domain_base.specs.declared.names.Node.{Node}
use Rattle.domain_base.specs.declared.names.Node.TheVariants.{Ap, Sta}
use Rattle.domain_rules.specs.Replies.{IsMessageFrom}
use Rattle.domain_rules.specs.Rows.{Take}
use Rattle.frame_intake.specs.Views.{message_fields}
use Rattle.station_node.specs.State.{State}
use Rattle.station_node.specs.Parts.{next_drawn, opens_by}
use Rattle.station_node.specs.Steps.{IsTaken, turn}
use Rattle.station_node.specs.Handed.{IsRenewed, renewal}
use Rattle.station_node.specs.contracts.station.StationNode.{the_view}
use Rattle.station_node.proofs.BegunRenewals.{ready_there, none_there, opened_state, handed-opened}
use Rattle.station_node.proofs.station.StationNode.begin_renewal.Goals as goal

pub hand_first-requires-clause-message : goal.hand_first-requires-clause-message
hand_first-requires-clause-message c = (ready_there c.args.here.domain.now (the_view c.self.inside) c.args.ap c.args.heard.now.message.message c.in-Some.field-0 (ap (λ (y : State). opens_by c.args.here.domain.now y.attempt y.session c.args.ap c.args.heard.now.message.message) c.self.view_is ∙ c.requires.opens) c.in-Some.is).1.1

pub hand_first-requires-clause-ready : goal.hand_first-requires-clause-ready
hand_first-requires-clause-ready c = (ready_there c.args.here.domain.now (the_view c.self.inside) c.args.ap c.args.heard.now.message.message c.in-Some.field-0 (ap (λ (y : State). opens_by c.args.here.domain.now y.attempt y.session c.args.ap c.args.heard.now.message.message) c.self.view_is ∙ c.requires.opens) c.in-Some.is).1.0

pub unreachable-requires : goal.unreachable-requires
unreachable-requires c = none_there c.args.here.domain.now (the_view c.self.inside) c.args.ap c.args.heard.now.message.message (ap (λ (y : State). opens_by c.args.here.domain.now y.attempt y.session c.args.ap c.args.heard.now.message.message) c.self.view_is ∙ c.requires.opens) c.in-None.is

pub returns : goal.returns
returns c =
    let d = c.args.here.domain.now in
    let s = the_view c.self.inside in
    let m = c.args.heard.now in
    let x = c.in-Some.field-0 in
    let outcome = c.in_ok-outcome-in-Some.outcome in
    let node_is : c.args.here.node ≡ Sta s.number = c.requires.node ∙ ap (λ (y : State). Sta y.number) (sym c.self.view_is) in
    let v_is : c.next_nonce-snonce.result ≡ next_drawn d (Sta s.number) s.drawn = c.next_nonce-snonce.ensures ∙ ap (λ (n : Node). next_drawn d n s.drawn) node_is in
    let renewed = subst (λ (n : Node). IsRenewed d n (Ap c.args.ap) m c.next_nonce-snonce.result (renewal x.supplicant c.hand_first.new.supplicant c.args.out.now.acts c.hand_first.new.out.acts) outcome) node_is c.in_ok-outcome-in-Some.ensures.renewed in
    subst (λ (y : State). IsTaken d (Take m.octets.now) (turn y (opened_state s c.drawn_after-self-inside.result x.ap c.hand_first.new.supplicant x.key) c.args.out.now.acts c.hand_first.new.out.acts) outcome) c.self.view_is
    (handed-opened d s c.args.ap m x c.hand_first.new.supplicant c.next_nonce-snonce.result c.drawn_after-self-inside.result c.args.out.now.acts c.hand_first.new.out.acts outcome
    (ap (λ (y : State). opens_by d y.attempt y.session c.args.ap m.message.message) c.self.view_is ∙ c.requires.opens) c.in-Some.is
    (subst (λ (y : State). IsMessageFrom d (Sta y.number) (Ap c.args.ap) m.octets.now (message_fields m.message)) (sym c.self.view_is) c.requires.message)
    v_is c.drawn_after-self-inside.ensures renewed)
