use Rattle.std.proofs.Common.{◌∙◌, Some, sym, ap}
use Rattle.ap_node.specs.declared.station.Station.{Station}
use Rattle.ap_node.specs.State.{has_attempt, begun_over}
use Rattle.ap_node.proofs.AtPlaces.{read_some, put_there, put_others}
use Rattle.ap_node.proofs.stations.begin.Goals as goal

pub returns-clause-had : goal.returns-clause-had
returns-clause-had c =
    let found = ap Some c.station_mut.ensures.value ∙ c.in-Some.ensures.value in
    c.begin.ensures.had ∙ sym (ap has_attempt (read_some c.args.stations.now.entries c.args.station c.station_mut.result.now found))

pub returns-clause-begun : goal.returns-clause-begun
returns-clause-begun c =
    let found = ap Some c.station_mut.ensures.value ∙ c.in-Some.ensures.value in
    let es = c.args.stations.now.entries in
    let k = c.args.station in
    let x = c.station_mut.result.now in
    let w = c.begin.new.self in
    put_there k es (c.get_mut.follows.lender w).entries x w found (c.get_mut.follows.holds w).0 ∙ c.begin.ensures.begun ∙ sym (ap (λ (s : Station). begun_over s c.args.part) (read_some es k x found))

pub returns-clause-others : goal.returns-clause-others
returns-clause-others c = let w = c.begin.new.self in put_others c.args.station c.args.stations.now.entries (c.get_mut.follows.lender w).entries w (c.get_mut.follows.holds w).0
