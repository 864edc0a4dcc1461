use Rattle.std.proofs.Common.{◌∙◌, Some, sym, ap}
use Rattle.ap_node.specs.Renewing.{is_due_at}
use Rattle.ap_node.proofs.AtPlaces.{read_some, read_none}
use Rattle.ap_node.proofs.renewal.is_due.Goals as goal

pub returns-in-Some : goal.returns-in-Some
returns-in-Some c =
    let found = ap Some c.station.ensures ∙ c.in-Some.ensures.value in
    c.is_due.ensures ∙ sym (ap (is_due_at c.args.domain.now c.args.drawn) (read_some c.args.stations.now.entries c.args.station c.station.result.now found))

pub returns-in-None : goal.returns-in-None
returns-in-None c = sym (ap (is_due_at c.args.domain.now c.args.drawn) (read_none c.args.stations.now.entries c.args.station c.in-None.ensures.value))
