use Rattle.std.proofs.Common.{◌++◌, List, sym, ap, ◌∙◌, subst, refl}
use Rattle.run_journal.specs.declared.acts.Act.{Act as AnyAct}
use Rattle.run_journal.specs.declared.acts.Outcome.TheVariants.{Done, Idle as IdleBy}
use Rattle.run_journal.specs.declared.acts.Why.TheVariants.{Nothing}
use Rattle.domain_rules.specs.Rows.{Leave}
use Rattle.domain_rules.specs.Closing.{close_pending, close_associated}
use Rattle.station_node.specs.State.{State}
use Rattle.station_node.specs.Parts.{peer_of_session, peer_pending}
use Rattle.station_node.specs.Steps.{IsTaken, turn}
use Rattle.station_node.specs.contracts.station.StationNode.{the_view}
use Rattle.station_node.proofs.Leaving.{left_state}
use Rattle.station_node.proofs.Taken.{takes_by, taken-nothing, taken-left}
use Rattle.station_node.proofs.station.StationNode.leave.Goals as goal

pub returns-then-has_neither : goal.returns-then-has_neither
returns-then-has_neither c = λ d.
    takes_by d Leave (turn c.args.self.now c.args.self.now c.args.out.now.acts c.idle.new.out.acts) c.idle.result (IdleBy Nothing) _ c.idle.ensures.outcome c.idle.ensures.acts c.idle.ensures.kept refl
    (λ is. subst (λ (t : State). IsTaken d Leave (turn t t c.args.out.now.acts c.idle.new.out.acts) (IdleBy Nothing)) c.self.view_is
    (taken-nothing d (the_view c.self.inside) c.args.out.now.acts c.idle.new.out.acts (sym c.has_neither.ensures ∙ c.if-has_neither.true) is))

pub returns : goal.returns
returns c =
    let s = the_view c.self.inside in
    λ d. subst (λ (t : State). IsTaken d Leave (turn t (left_state s) c.args.out.now.acts c.close.new.out.acts) Done) c.self.view_is
    (taken-left d s (left_state s) c.args.out.now.acts c.close.new.out.acts (sym c.has_neither.ensures ∙ c.if-has_neither.false) refl
    (c.close.ensures.acts ∙ ap (λ (l : List AnyAct). (l ++ close_pending (peer_pending s.attempt s.session)) ++ close_associated (peer_of_session s.session)) c.in_ok-reserve.ensures.acts))
