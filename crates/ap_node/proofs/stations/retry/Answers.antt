use Rattle.std.proofs.Common.{ℕ, Some, ap, ◌∙◌}
use Rattle.std.specs.BTreeMap.{BTreeMap}
use Rattle.ap_node.specs.declared.station.Station.{Station}
use Rattle.ap_node.specs.State.{station_at}
use Rattle.ap_node.proofs.AtPlaces.{read_some, read_none, put_there, put_others, put_back, err_back, err_at}
use Rattle.ap_node.proofs.Retried.{idles_at, resent_at}
use Rattle.ap_node.proofs.stations.retry.Goals as goal

pub returns-in-Some-clause-resent : goal.returns-in-Some-clause-resent
returns-in-Some-clause-resent c =
    let found = ap Some c.station_mut.ensures.value ∙ c.in-Some.ensures.value in
    let es = c.args.stations.now.entries in
    let sta = c.args.station in
    let w = c.send_again.new.place in
    resent_at c.send_again.result sta c.args.newest.now _ _ c.station_mut.result.now w c.args.out.now.acts c.send_again.new.out.acts (read_some es sta c.station_mut.result.now found)
    (put_there sta es (c.get_mut.follows.lender w).entries c.station_mut.result.now w found (c.get_mut.follows.holds w).0) c.send_again.ensures.resent

pub returns-in-Some-clause-others : goal.returns-in-Some-clause-others
returns-in-Some-clause-others c = let w = c.send_again.new.place in put_others c.args.station c.args.stations.now.entries (c.get_mut.follows.lender w).entries w (c.get_mut.follows.holds w).0

pub returns-in-Some-clause-same : goal.returns-in-Some-clause-same
returns-in-Some-clause-same c =
    let found = ap Some c.station_mut.ensures.value ∙ c.in-Some.ensures.value in
    let w = c.send_again.new.place in
    err_back c.send_again.result _ _ (λ same. put_back c.args.station c.args.stations.now.entries (c.get_mut.follows.lender w).entries c.station_mut.result.now w found (c.get_mut.follows.holds w).0 same) c.send_again.ensures.same

pub returns-in-None-clause-resent : goal.returns-in-None-clause-resent
returns-in-None-clause-resent c =
    let es = c.args.stations.now.entries in
    let sta = c.args.station in
    let none = read_none es sta c.in-None.ensures.value in
    idles_at c.idle_again.result sta c.args.newest.now _ _ c.args.out.now.acts c.idle_again.new.out.acts none (ap (λ (m : BTreeMap ℕ Station). station_at m.entries sta) c.get_mut.follows.holds-at-none ∙ none) c.idle_again.ensures.outcome c.idle_again.ensures.acts

pub returns-in-None-clause-others : goal.returns-in-None-clause-others
returns-in-None-clause-others c k other = ap (λ (m : BTreeMap ℕ Station). station_at m.entries k) c.get_mut.follows.holds-at-none

pub returns-in-None-clause-same : goal.returns-in-None-clause-same
returns-in-None-clause-same c = err_at c.idle_again.result _ (ap (λ (m : BTreeMap ℕ Station). m.entries) c.get_mut.follows.holds-at-none)
