use Rattle.std.proofs.Common.{◌∙◌, Some, sym, ap, subst}
use Rattle.ap_node.specs.declared.station.Station.{Station}
use Rattle.ap_node.specs.State.{station_at}
use Rattle.ap_node.specs.Renewing.{renewable, RenewsAt}
use Rattle.ap_node.proofs.AtPlaces.{read_some, put_there, put_others}
use Rattle.ap_node.proofs.renewal.renew.Goals as goal

pub returns-clause-renewed : goal.returns-clause-renewed
returns-clause-renewed c =
    let found = ap Some c.station_mut.ensures.value ∙ c.in-Some.ensures.value in
    let es = c.args.stations.now.entries in
    let k = c.args.station in
    let x = c.station_mut.result.now in
    let w = c.renew.new.self in
    subst (λ (s : Station). RenewsAt s (station_at (c.get_mut.follows.lender w).entries k) c.args.anonce.now c.renew.new.reply) (sym (read_some es k x found))
    (subst (λ (s : Station). RenewsAt x s c.args.anonce.now c.renew.new.reply) (sym (put_there k es (c.get_mut.follows.lender w).entries x w found (c.get_mut.follows.holds w).0)) c.renew.ensures.renewed)

pub returns-clause-others : goal.returns-clause-others
returns-clause-others c = let w = c.renew.new.self in put_others c.args.station c.args.stations.now.entries (c.get_mut.follows.lender w).entries w (c.get_mut.follows.holds w).0

pub renew-requires : goal.renew-requires
renew-requires c =
    let found = ap Some c.station_mut.ensures.value ∙ c.in-Some.ensures.value in
    sym (ap (λ (s : Station). renewable s.session) (read_some c.args.stations.now.entries c.args.station c.station_mut.result.now found)) ∙ c.requires
