use Rattle.std.proofs.Common.{◌∙◌, ℕ, Some, ap}
use Rattle.std.specs.BTreeMap.{BTreeMap}
use Rattle.domain_base.specs.declared.names.Node.TheVariants.{Ap, Sta}
use Rattle.rsn_elements.specs.Fields.{element_fields}
use Rattle.targets.specs.Steps.{request}
use Rattle.ap_node.specs.declared.station.Station.{Station}
use Rattle.ap_node.specs.State.{station_at}
use Rattle.ap_node.proofs.AtPlaces.{read_some, read_none, put_there, put_others, put_back, err_back, err_at}
use Rattle.ap_node.proofs.Moved.{moved_at, moved_none, refused_at, always_at}
use Rattle.ap_node.proofs.transitions.take_move.Goals as goal

pub returns-in-Some-clause-moved : goal.returns-in-Some-clause-moved
returns-in-Some-clause-moved c =
    let found = ap Some c.station_mut.ensures.value ∙ c.in-Some.ensures.value in
    let es = c.args.stations.now.entries in
    let k = c.args.station in
    let x = c.station_mut.result.now in
    let w = c.move_place.new.place in
    moved_at (request c.args.here.domain.now c.args.ap k c.args.octets.now (element_fields c.args.elements.now)) c.args.newest.now c.args.out.now.acts c.move_place.new.out.acts c.args.here.domain.now (Ap c.args.ap) (Sta k)
    c.move_place.result _ _ x w (read_some es k x found) (put_there k es (c.get_mut.follows.lender w).entries x w found (c.get_mut.follows.holds w).0) c.move_place.ensures.moved

pub returns-in-Some-clause-others : goal.returns-in-Some-clause-others
returns-in-Some-clause-others c = let w = c.move_place.new.place in put_others c.args.station c.args.stations.now.entries (c.get_mut.follows.lender w).entries w (c.get_mut.follows.holds w).0

pub returns-in-Some-clause-refused : goal.returns-in-Some-clause-refused
returns-in-Some-clause-refused c =
    let found = ap Some c.station_mut.ensures.value ∙ c.in-Some.ensures.value in
    let w = c.move_place.new.place in
    refused_at c.move_place.result _ _ (put_back c.args.station c.args.stations.now.entries (c.get_mut.follows.lender w).entries c.station_mut.result.now w found (c.get_mut.follows.holds w).0) c.move_place.ensures.refused

pub returns-in-Some-clause-same : goal.returns-in-Some-clause-same
returns-in-Some-clause-same c =
    let found = ap Some c.station_mut.ensures.value ∙ c.in-Some.ensures.value in
    let w = c.move_place.new.place in
    err_back c.move_place.result _ _ (put_back c.args.station c.args.stations.now.entries (c.get_mut.follows.lender w).entries c.station_mut.result.now w found (c.get_mut.follows.holds w).0) c.move_place.ensures.same

pub returns-in-None-clause-moved : goal.returns-in-None-clause-moved
returns-in-None-clause-moved c =
    let k = c.args.station in
    let none = read_none c.args.stations.now.entries k c.in-None.ensures.value in
    let q = request c.args.here.domain.now c.args.ap k c.args.octets.now (element_fields c.args.elements.now) in
    moved_at q c.args.newest.now c.args.out.now.acts c.move_nothing.new.out.acts c.args.here.domain.now (Ap c.args.ap) (Sta k) c.move_nothing.result _ _ _ _ none
    (ap (λ (m : BTreeMap ℕ Station). station_at m.entries k) c.get_mut.follows.holds-at-none ∙ none)
    (moved_none q c.args.newest.now c.args.out.now.acts c.move_nothing.new.out.acts c.args.here.domain.now (Ap c.args.ap) (Sta k) c.move_nothing.result c.move_nothing.ensures.moved)

pub returns-in-None-clause-others : goal.returns-in-None-clause-others
returns-in-None-clause-others c k other = ap (λ (m : BTreeMap ℕ Station). station_at m.entries k) c.get_mut.follows.holds-at-none

pub returns-in-None-clause-refused : goal.returns-in-None-clause-refused
returns-in-None-clause-refused c = always_at c.move_nothing.result _ (ap (λ (m : BTreeMap ℕ Station). m.entries) c.get_mut.follows.holds-at-none)

pub returns-in-None-clause-same : goal.returns-in-None-clause-same
returns-in-None-clause-same c = err_at c.move_nothing.result _ (ap (λ (m : BTreeMap ℕ Station). m.entries) c.get_mut.follows.holds-at-none)
