use Rattle.std.proofs.Common.{◌∷◌, ◌++◌, List, [], ap, ◌∙◌, subst}
use Rattle.domain_base.specs.declared.names.Node.TheVariants.{Sta}
use Rattle.run_journal.specs.declared.acts.Act.{Act as AnyAct}
use Rattle.run_journal.specs.declared.acts.Act.TheVariants as act
use Rattle.run_journal.specs.declared.acts.Outcome.TheVariants.{Done}
use Rattle.domain_rules.specs.Closing.{close_pending, close_associated}
use Rattle.station_node.specs.State.{State}
use Rattle.station_node.specs.Parts.{peer_of_session, peer_pending}
use Rattle.station_node.specs.Steps.{IsRekeyed, turn}
use Rattle.station_node.specs.contracts.station.StationNode.{the_view}
use Rattle.station_node.proofs.Leaving.{left_state}
use Rattle.station_node.proofs.Rekeyed.{taken-keyed}
use Rattle.station_node.proofs.station.StationNode.change.Goals as goal

pub returns-clause-taken : goal.returns-clause-taken
returns-clause-taken c =
    let s = the_view c.self.inside in
    λ d named. subst (λ (t : State). IsRekeyed d named c.args.psk.now (turn t (left_state s) c.args.out.now.acts c.add.new.self.acts) Done) c.self.view_is
    (taken-keyed d named c.args.psk.now s c.args.out.now.acts c.add.new.self.acts
    (c.add.ensures.acts ∙ ap (λ (l : List AnyAct). l ++ act.Secret (Sta s.number) c.args.psk.now ∷ [])
    (c.close.ensures.acts ∙ ap (λ (l : List AnyAct). (l ++ close_pending (peer_pending s.attempt s.session)) ++ close_associated (peer_of_session s.session)) c.in_ok-reserve.ensures.acts)))
