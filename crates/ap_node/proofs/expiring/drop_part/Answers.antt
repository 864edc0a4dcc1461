use Rattle.std.proofs.Common.{Option, Some, sym, ap, ◌∙◌}
use Rattle.std.specs.Prelude.{unwrap_or}
use Rattle.ap_node.specs.declared.station.Station.{Station}
use Rattle.ap_node.specs.State.{no_station, has_attempt, has_session}
use Rattle.ap_node.proofs.AtPlaces.{at_other, read_some, read_none}
use Rattle.ap_node.proofs.expiring.drop_part.Goals as goal

pub returns-in-Some-clause-left : goal.returns-in-Some-clause-left
returns-in-Some-clause-left c = ap (λ (o : Option Station). unwrap_or o no_station) c.remove.ensures.updates.1

pub returns-in-None-clause-left : goal.returns-in-None-clause-left
returns-in-None-clause-left c = ap (λ (o : Option Station). unwrap_or o no_station) c.remove.ensures.updates.1

pub returns-in-Some-clause-others : goal.returns-in-Some-clause-others
returns-in-Some-clause-others c k other = ap (λ (o : Option Station). unwrap_or o no_station) (c.remove.ensures.updates.2 k (at_other c.args.station k (λ e. other (sym e))))

pub returns-in-None-clause-others : goal.returns-in-None-clause-others
returns-in-None-clause-others c k other = ap (λ (o : Option Station). unwrap_or o no_station) (c.remove.ensures.updates.2 k (at_other c.args.station k (λ e. other (sym e))))

pub returns-in-Some-clause-attempt : goal.returns-in-Some-clause-attempt
returns-in-Some-clause-attempt c =
    let found = ap Some c.station-place.ensures ∙ c.in-Some.ensures.value in
    c.has_attempt.ensures ∙ sym (ap has_attempt (read_some c.args.stations.now.entries c.args.station c.station-place.result.now found))

pub returns-in-Some-clause-session : goal.returns-in-Some-clause-session
returns-in-Some-clause-session c =
    let found = ap Some c.station-place.ensures ∙ c.in-Some.ensures.value in
    c.is_some.ensures ∙ sym (ap has_session (read_some c.args.stations.now.entries c.args.station c.station-place.result.now found))

pub returns-in-None-clause-attempt : goal.returns-in-None-clause-attempt
returns-in-None-clause-attempt c = sym (ap has_attempt (read_none c.args.stations.now.entries c.args.station c.in-None.ensures.value))

pub returns-in-None-clause-session : goal.returns-in-None-clause-session
returns-in-None-clause-session c = sym (ap has_session (read_none c.args.stations.now.entries c.args.station c.in-None.ensures.value))
