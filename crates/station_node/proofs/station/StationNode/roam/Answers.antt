use Rattle.std.proofs.Common.{refl, sym, ap, ◌∙◌}
use Rattle.run_journal.specs.declared.acts.Outcome.TheVariants.{Idle as IdleBy}
use Rattle.domain_rules.specs.Rows.{Roam}
use Rattle.station_node.specs.State.{State}
use Rattle.station_node.specs.Parts.{roams_from}
use Rattle.station_node.specs.Steps.{turn}
use Rattle.station_node.proofs.Taken.{takes_by}
use Rattle.station_node.proofs.RoamRows.{taken-roams_not}
use Rattle.station_node.proofs.station.StationNode.roam.Goals as goal

pub returns-in-Err : goal.returns-in-Err
returns-in-Err c =
    let d = c.args.here.domain.now in
    let s = c.args.self.now in
    takes_by d (Roam c.args.ap) (turn s s c.args.out.now.acts c.idle.new.out.acts) c.idle.result (IdleBy c.in-Err.why) _ c.idle.ensures.outcome c.idle.ensures.acts c.idle.ensures.kept refl
    (λ is. taken-roams_not d s c.args.ap c.in-Err.why c.args.out.now.acts c.idle.new.out.acts
    (ap (λ (t : State). roams_from t.session c.args.ap t.drawn) (sym c.self.view_is) ∙ sym c.roams_from.ensures ∙ c.in-Err.is) is)

pub roam_from-requires-clause-from : goal.roam_from-requires-clause-from
roam_from-requires-clause-from c = ap (λ (t : State). roams_from t.session c.args.ap t.drawn) (sym c.self.view_is) ∙ sym c.roams_from.ensures ∙ c.in-Ok.is
