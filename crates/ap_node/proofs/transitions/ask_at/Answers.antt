use Rattle.std.proofs.Common.{Some, sym, ap, ◌∙◌}
use Rattle.std.specs.Map.{set_value}
use Rattle.ap_node.proofs.AtPlaces.{at, read_some, put_there, put_back, err_back}
use Rattle.ap_node.proofs.Asked.{asked_at, beside_at}
use Rattle.ap_node.proofs.transitions.ask_at.Goals as goal

pub returns-clause-taken : goal.returns-clause-taken
returns-clause-taken g c =
    let found = ap Some c.station_mut.ensures.value ∙ c.in-Some.ensures.value in
    let es = c.args.stations.now.entries in
    let k = c.args.station in
    let w = c.ask.new.place in
    asked_at c.ask.result _ _ _ _ _ _ _ c.station_mut.result.now w (read_some es k c.station_mut.result.now found)
    (put_there k es (c.get_mut.follows.lender w).entries c.station_mut.result.now w found (c.get_mut.follows.holds w).0) c.ask.ensures.taken

pub returns-clause-beside : goal.returns-clause-beside
returns-clause-beside g c =
    let found = ap Some c.station_mut.ensures.value ∙ c.in-Some.ensures.value in
    let es = c.args.stations.now.entries in
    let k = c.args.station in
    let w = c.ask.new.place in
    beside_at c.ask.result _ _ c.station_mut.result.now w (read_some es k c.station_mut.result.now found)
    (put_there k es (c.get_mut.follows.lender w).entries c.station_mut.result.now w found (c.get_mut.follows.holds w).0) c.ask.ensures.beside

pub returns-clause-set : goal.returns-clause-set
returns-clause-set g c =
    let found = ap Some c.station_mut.ensures.value ∙ c.in-Some.ensures.value in
    let es = c.args.stations.now.entries in
    let k = c.args.station in
    let w = c.ask.new.place in
    let held = (c.get_mut.follows.holds w).0 in
    held ∙ ap (set_value (at k) es) (sym (put_there k es (c.get_mut.follows.lender w).entries c.station_mut.result.now w found held))

pub returns-clause-same : goal.returns-clause-same
returns-clause-same g c =
    let found = ap Some c.station_mut.ensures.value ∙ c.in-Some.ensures.value in
    let es = c.args.stations.now.entries in
    let k = c.args.station in
    let w = c.ask.new.place in
    err_back c.ask.result _ _ (λ same. put_back k es (c.get_mut.follows.lender w).entries c.station_mut.result.now w found (c.get_mut.follows.holds w).0 same) c.ask.ensures.same
