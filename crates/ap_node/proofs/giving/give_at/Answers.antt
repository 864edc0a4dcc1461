use Rattle.ap_node.proofs.AtPlaces.{read_some, read_none, put_there, put_others}
use Rattle.std.proofs.Common.{ℕ, Some, sym, ap, ◌∙◌}
use Rattle.std.specs.BTreeMap.{BTreeMap}
use Rattle.ap_node.specs.declared.station.Station.{Station}
use Rattle.ap_node.specs.State.{station_at}
use Rattle.ap_node.specs.Counts.{owes_part}
use Rattle.ap_node.proofs.EachGiven.{given_here, given_none}
use Rattle.ap_node.proofs.giving.give_at.Goals as goal

pub returns-in-Some-clause-given : goal.returns-in-Some-clause-given
returns-in-Some-clause-given c =
    let found = ap Some c.station_mut.ensures.value ∙ c.in-Some.ensures.value in
    let es = c.args.stations.now.entries in
    let k = c.args.station in
    let w = c.give.new.place in
    given_here k c.args.newest.now _ _ _ _ c.args.out.now.acts c.give.new.out.acts (read_some es k c.station_mut.result.now found)
    (put_there k es (c.get_mut.follows.lender w).entries c.station_mut.result.now w found (c.get_mut.follows.holds w).0) c.give.ensures.given

pub returns-in-Some-clause-owes : goal.returns-in-Some-clause-owes
returns-in-Some-clause-owes c =
    let found = ap Some c.station_mut.ensures.value ∙ c.in-Some.ensures.value in
    let es = c.args.stations.now.entries in
    let k = c.args.station in
    let w = c.give.new.place in
    c.give.ensures.owes ∙ sym (ap (owes_part c.args.newest.now.gtk.place) (put_there k es (c.get_mut.follows.lender w).entries c.station_mut.result.now w found (c.get_mut.follows.holds w).0))

pub returns-in-Some-clause-others : goal.returns-in-Some-clause-others
returns-in-Some-clause-others c = let w = c.give.new.place in put_others c.args.station c.args.stations.now.entries (c.get_mut.follows.lender w).entries w (c.get_mut.follows.holds w).0

pub returns-in-None-clause-given : goal.returns-in-None-clause-given
returns-in-None-clause-given c =
    let k = c.args.station in
    let none = read_none c.args.stations.now.entries k c.in-None.ensures.value in
    given_none k c.args.newest.now _ _ c.args.out.now.acts none (ap (λ (m : BTreeMap ℕ Station). station_at m.entries k) c.get_mut.follows.holds-at-none ∙ none)

pub returns-in-None-clause-owes : goal.returns-in-None-clause-owes
returns-in-None-clause-owes c =
    let k = c.args.station in
    sym (ap (owes_part c.args.newest.now.gtk.place) (ap (λ (m : BTreeMap ℕ Station). station_at m.entries k) c.get_mut.follows.holds-at-none ∙ read_none c.args.stations.now.entries k c.in-None.ensures.value))

pub returns-in-None-clause-others : goal.returns-in-None-clause-others
returns-in-None-clause-others c k other = ap (λ (m : BTreeMap ℕ Station). station_at m.entries k) c.get_mut.follows.holds-at-none
