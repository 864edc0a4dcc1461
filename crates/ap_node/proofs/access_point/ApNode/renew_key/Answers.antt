use Rattle.std.proofs.Common.{◌≡◌, ◌∙◌, ◌++◌, None, Some, List, sym, ap}
use Rattle.run_journal.specs.declared.acts.Outcome.TheVariants.{Idle as IdleBy}
use Rattle.run_journal.specs.declared.acts.Act.{Act}
use Rattle.domain_rules.specs.Rows.{Renew}
use Rattle.node_base.specs.Events.{seen}
use Rattle.act_memory.proofs.Returning.{if_settled}
use Rattle.ap_node.specs.State.{State, station_at}
use Rattle.ap_node.specs.Renewing.{obstacle}
use Rattle.ap_node.specs.Takes.{IsTaken}
use Rattle.ap_node.proofs.Renewals.{no_obstacle, takes_obstacle, takes_renewal}
use Rattle.ap_node.proofs.access_point.ApNode.renew_key.Goals as goal

pub returns-in-Some-clause-taken : goal.returns-in-Some-clause-taken
returns-in-Some-clause-taken c =
    let d = c.args.here.domain.now in
    let sta = c.args.station in
    let s = c.args.self.now in
    let waited = c.args.out.now.acts in
    let waits = c.idle.new.out.acts in
    let is : obstacle s.drawn (station_at s.stations sta) ≡ Some c.in-Some.why = sym (ap (λ (t : State). obstacle t.drawn (station_at t.stations sta)) c.self.view_is) ∙ sym c.in-Some.ensures in
    if_settled c.idle.result (IdleBy c.in-Some.why) (λ outcome. IsTaken d (Renew sta) s s (seen waited waits outcome)) _ c.idle.ensures.outcome c.idle.ensures.acts
    (λ waiting. takes_obstacle d s sta c.in-Some.why waited waits c.requires.renews is waiting)

pub returns-clause-taken : goal.returns-clause-taken
returns-clause-taken c =
    let d = c.args.here.domain.now in
    let sta = c.args.station in
    let old = c.args.self.now in
    let none : obstacle old.drawn (station_at old.stations sta) ≡ None = sym (ap (λ (t : State). obstacle t.drawn (station_at t.stations sta)) c.self.view_is) ∙ sym c.in_default.ensures in
    let begins = c.begin_renewal.ensures.begun in
    takes_renewal d old c.begin_renewal.new.self sta begins.0 c.args.out.now.acts c.begin_renewal.new.out.acts c.requires.renews (no_obstacle old.drawn (station_at old.stations sta) none) begins.2
    (begins.1 ∙ ap (λ (l : List Act). l ++ begins.0) c.in_ok-reserve.ensures.acts)

pub begin_renewal-requires-clause-renewable : goal.begin_renewal-requires-clause-renewable
begin_renewal-requires-clause-renewable c =
    let sta = c.args.station in
    let old = c.args.self.now in
    let none : obstacle old.drawn (station_at old.stations sta) ≡ None = sym (ap (λ (t : State). obstacle t.drawn (station_at t.stations sta)) c.self.view_is) ∙ sym c.in_default.ensures in
    (no_obstacle old.drawn (station_at old.stations sta) none).able

pub begin_renewal-requires-clause-draw : goal.begin_renewal-requires-clause-draw
begin_renewal-requires-clause-draw c =
    let sta = c.args.station in
    let old = c.args.self.now in
    let none : obstacle old.drawn (station_at old.stations sta) ≡ None = sym (ap (λ (t : State). obstacle t.drawn (station_at t.stations sta)) c.self.view_is) ∙ sym c.in_default.ensures in
    (no_obstacle old.drawn (station_at old.stations sta) none).low
