use Rattle.std.proofs.Common.{◌++◌, ◌∷◌, [], ◌≡◌, sym, ap, ◌∙◌, subst, arith, refl}
use Rattle.domain_base.specs.declared.names.Node.{Node}
use Rattle.domain_base.specs.declared.names.Node.TheVariants.{Ap, Sta}
use Rattle.run_journal.specs.declared.acts.Act.TheVariants.{Opened, Drew}
use Rattle.run_journal.specs.declared.acts.Drawn.TheVariants.{Nonce}
use Rattle.run_journal.specs.declared.acts.Start.TheVariants.{Connect}
use Rattle.run_journal.specs.declared.acts.Outcome.TheVariants.{Done, Idle as IdleBy}
use Rattle.run_journal.specs.declared.acts.Why.TheVariants.{Spent}
use Rattle.domain_rules.specs.Frames.{sent_assoc_req}
use Rattle.domain_rules.specs.Network.{nonce}
use Rattle.run_journal.specs.Events.{IsListed}
use Rattle.domain_rules.specs.Rows.{Begin}
use Rattle.domain_rules.specs.Closing.{close_pending, close_associated}
use Rattle.station_node.specs.State.{State}
use Rattle.station_node.specs.Parts.{peer_of_session, peer_pending}
use Rattle.station_node.specs.Steps.{IsTaken, turn}
use Rattle.station_node.specs.contracts.station.StationNode.{the_view}
use Rattle.station_node.proofs.Beginning.{asked_state}
use Rattle.station_node.proofs.Taken.{takes_by, taken-spent, taken-asked}
use Rattle.station_node.proofs.station.StationNode.connect.Goals as goal

pub returns-then-self-ge-DRAW_END : goal.returns-then-self-ge-DRAW_END
returns-then-self-ge-DRAW_END c =
    let d = c.args.here.domain.now in
    takes_by d (Begin c.args.ap) (turn c.args.self.now c.args.self.now c.args.out.now.acts c.idle.new.out.acts) c.idle.result (IdleBy Spent) _ c.idle.ensures.outcome c.idle.ensures.acts c.idle.ensures.kept refl
    (λ is. subst (λ (t : State). IsTaken d (Begin c.args.ap) (turn t t c.args.out.now.acts c.idle.new.out.acts) (IdleBy Spent)) c.self.view_is (taken-spent d (the_view c.self.inside) c.args.ap c.args.out.now.acts c.idle.new.out.acts c.if-self-ge-DRAW_END.true is))

pub returns : goal.returns
returns c =
    let d = c.args.here.domain.now in
    let s = the_view c.self.inside in
    let node_is : c.args.here.node ≡ Sta s.number = c.requires.node ∙ ap (λ (t : State). Sta t.number) (sym c.self.view_is) in
    let v = c.nonce-snonce.result in
    let request = sent_assoc_req d (Sta s.number) (Ap c.args.ap) in
    let closed = (c.args.out.now.acts ++ close_pending (peer_pending s.attempt s.session)) ++ close_associated (peer_of_session s.session) in
    let opened = closed ++ Opened (Ap c.args.ap) Connect ∷ [] in
    let drew = opened ++ Drew (Nonce v) ∷ [] in
    subst (λ (t : State). IsTaken d (Begin c.args.ap) (turn t (asked_state s c.args.ap v) c.args.out.now.acts c.ask.new.out.acts) Done) c.self.view_is
    (taken-asked d s _ c.args.ap v request c.args.out.now.acts closed opened drew c.ask.new.out.acts c.requires.ap (omega arith)
    (c.nonce-snonce.ensures ∙ ap (λ (n : Node). nonce d n s.drawn) node_is) refl refl refl refl refl
    (c.in_ok-ask.ensures.acts ∙ ap (λ (n : Node). drew ++ sent_assoc_req d n (Ap c.args.ap) ∷ []) node_is))

pub ask-requires-clause-station : goal.ask-requires-clause-station
ask-requires-clause-station c = subst (λ (n : Node). IsListed c.args.here.domain.now n) (sym c.requires.node) c.requires.listed
