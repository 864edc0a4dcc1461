use Rattle.std.proofs.Common.{◌∙◌, Some, sym, ap}
use Rattle.ap_node.specs.Renewing.{obstacle}
use Rattle.ap_node.proofs.AtPlaces.{read_some, read_none}
use Rattle.ap_node.proofs.renewal.obstacle.Goals as goal

pub returns-in-Some : goal.returns-in-Some
returns-in-Some c =
    let found = ap Some c.station.ensures ∙ c.in-Some.ensures.value in
    c.obstacle.ensures ∙ sym (ap (obstacle c.args.drawn) (read_some c.args.stations.now.entries c.args.station c.station.result.now found))

pub returns-in-None : goal.returns-in-None
returns-in-None c = sym (ap (obstacle c.args.drawn) (read_none c.args.stations.now.entries c.args.station c.in-None.ensures.value))
