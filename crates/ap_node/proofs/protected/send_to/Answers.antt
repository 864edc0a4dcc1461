use Rattle.std.proofs.Common.{◌≡◌, ◌++◌, ◌∙◌, ℕ, Option, Some, sym, ap, subst}
use Rattle.std.specs.Prelude.{IfOk, OnOk}
use Rattle.std.specs.BTreeMap.{BTreeMap}
use Rattle.domain_base.specs.declared.names.Node.TheVariants.{Sta}
use Rattle.domain_base.specs.declared.names.Peer.TheVariants.{One}
use Rattle.ccmp_guard.specs.Held.{Held}
use Rattle.domain_rules.specs.Rows.{outcome_of}
use Rattle.ap_node.specs.declared.station.Station.{Station}
use Rattle.ap_node.specs.State.{station_at, key_in}
use Rattle.ap_node.specs.Keys.{sent_under}
use Rattle.ap_node.proofs.InUse.{the_station, station_as, none_as, used_as}
use Rattle.ap_node.proofs.AtPlaces.{read_some, read_none, put_there, put_others, put_back, err_back, ok_then, ok_at, err_at}
use Rattle.ap_node.proofs.protected.send_to.Goals as goal

pub returns-in-Some-clause-others : goal.returns-in-Some-clause-others
returns-in-Some-clause-others c k other =
    let w = the_station c.station_mut.result.now.attempt c.send_under.new.session in
    put_others c.args.station c.args.stations.now.entries (c.get_mut.follows.lender w).entries w (c.get_mut.follows.holds w).0 k other

pub returns-in-Some-clause-same : goal.returns-in-Some-clause-same
returns-in-Some-clause-same c =
    let found = ap Some c.station_mut.ensures.value ∙ c.in-Some.ensures.value in
    let x = c.station_mut.result.now in
    let w = the_station x.attempt c.send_under.new.session in
    err_back c.send_under.result _ _ (λ same. put_back c.args.station c.args.stations.now.entries (c.get_mut.follows.lender w).entries x w found (c.get_mut.follows.holds w).0 (station_as x _ same)) c.send_under.ensures.same

pub returns-in-Some-clause-used : goal.returns-in-Some-clause-used
returns-in-Some-clause-used c =
    let found = ap Some c.station_mut.ensures.value ∙ c.in-Some.ensures.value in
    let es = c.args.stations.now.entries in
    let k = c.args.station in
    let x = c.station_mut.result.now in
    let w = the_station x.attempt c.send_under.new.session in
    used_as c.send_under.result _ _ x c.send_under.new.session (put_there k es (c.get_mut.follows.lender w).entries x w found (c.get_mut.follows.holds w).0) (read_some es k x found) c.send_under.ensures.used

pub returns-in-Some-clause-acts : goal.returns-in-Some-clause-acts
returns-in-Some-clause-acts c =
    let found = ap Some c.station_mut.ensures.value ∙ c.in-Some.ensures.value in
    let was = ap key_in (read_some c.args.stations.now.entries c.args.station c.station_mut.result.now found) in
    subst (λ (k : Option Held). OnOk c.send_under.result (c.send_under.new.out.acts ≡ c.args.out.now.acts ++ sent_under c.args.here.domain.now c.args.here.node (One (Sta c.args.station)) c.args.tid c.args.payload.now k)) (sym was) c.send_under.ensures.acts

pub returns-in-Some-clause-outcome : goal.returns-in-Some-clause-outcome
returns-in-Some-clause-outcome c =
    let found = ap Some c.station_mut.ensures.value ∙ c.in-Some.ensures.value in
    let was = ap key_in (read_some c.args.stations.now.entries c.args.station c.station_mut.result.now found) in
    subst (λ (k : Option Held). IfOk c.send_under.result (λ came. came ≡ outcome_of (sent_under c.args.here.domain.now c.args.here.node (One (Sta c.args.station)) c.args.tid c.args.payload.now k))) (sym was) c.send_under.ensures.outcome

pub returns-in-None-clause-used : goal.returns-in-None-clause-used
returns-in-None-clause-used c =
    let k = c.args.station in
    let none = read_none c.args.stations.now.entries k c.in-None.ensures.value in
    ok_at c.idle.result _ (none_as _ _ _ (ap (λ (m : BTreeMap ℕ Station). station_at m.entries k) c.get_mut.follows.holds-at-none ∙ none) none)

pub returns-in-None-clause-others : goal.returns-in-None-clause-others
returns-in-None-clause-others c k other = ap (λ (m : BTreeMap ℕ Station). station_at m.entries k) c.get_mut.follows.holds-at-none

pub returns-in-None-clause-acts : goal.returns-in-None-clause-acts
returns-in-None-clause-acts c =
    let was = ap key_in (read_none c.args.stations.now.entries c.args.station c.in-None.ensures.value) in
    subst (λ (k : Option Held). OnOk c.idle.result (c.idle.new.out.acts ≡ c.args.out.now.acts ++ sent_under c.args.here.domain.now c.args.here.node (One (Sta c.args.station)) c.args.tid c.args.payload.now k)) (sym was) c.idle.ensures.acts

pub returns-in-None-clause-outcome : goal.returns-in-None-clause-outcome
returns-in-None-clause-outcome c =
    let was = ap key_in (read_none c.args.stations.now.entries c.args.station c.in-None.ensures.value) in
    subst (λ (k : Option Held). IfOk c.idle.result (λ came. came ≡ outcome_of (sent_under c.args.here.domain.now c.args.here.node (One (Sta c.args.station)) c.args.tid c.args.payload.now k))) (sym was) c.idle.ensures.outcome

pub returns-in-None-clause-same : goal.returns-in-None-clause-same
returns-in-None-clause-same c = err_at c.idle.result _ (ap (λ (m : BTreeMap ℕ Station). m.entries) c.get_mut.follows.holds-at-none)

pub returns-in-Some-clause-spare : goal.returns-in-Some-clause-spare
returns-in-Some-clause-spare c =
    let found = ap Some c.station_mut.ensures.value ∙ c.in-Some.ensures.value in
    let was = ap key_in (read_some c.args.stations.now.entries c.args.station c.station_mut.result.now found) in
    ok_then c.send_under.result _ _ (λ few k is. few k (sym was ∙ is)) c.send_under.ensures.spare

pub returns-in-None-clause-spare : goal.returns-in-None-clause-spare
returns-in-None-clause-spare c =
    let none = ap key_in (read_none c.args.stations.now.entries c.args.station c.in-None.ensures.value) in
    ok_at c.idle.result _ (λ k is low. absurd (cc (none, is)))
