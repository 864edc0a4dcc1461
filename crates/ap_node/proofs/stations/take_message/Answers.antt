use Rattle.std.proofs.Common.{ℕ, Some, false, refl, ap, ◌∙◌}
use Rattle.std.specs.BTreeMap.{BTreeMap}
use Rattle.domain_rules.specs.Replies.{replied_acts, taken_as}
use Rattle.node_base.specs.Pairs.{pair_at}
use Rattle.act_memory.specs.Rooms.{between_of}
use Rattle.authenticator.specs.Judged.{frame_of}
use Rattle.authenticator.specs.Taken.{given}
use Rattle.ap_node.specs.declared.station.Station.{Station}
use Rattle.ap_node.specs.State.{station_at}
use Rattle.ap_node.specs.Parts.{is_final_at}
use Rattle.ap_node.proofs.AtPlaces.{read_some, read_none, put_there, put_others, put_back}
use Rattle.ap_node.proofs.Handing.{handed_so, in_nothing}
use Rattle.ap_node.proofs.stations.take_message.Goals as goal

pub returns-in-Some-clause-handed : goal.returns-in-Some-clause-handed
returns-in-Some-clause-handed c d id n p octets k room_is =
    let found = ap Some c.station_mut.ensures.value ∙ c.in-Some.ensures.value in
    let es = c.args.stations.now.entries in
    let sta = c.args.station in
    let w = c.hand.new.place in
    let x = c.hand.ensures.handed d id n p octets k room_is in (
      x.0,
      x.1,
      handed_so (pair_at d id n p) (given c.args.message.now.message (frame_of c.args.message.now.frame) c.args.newest.now) (taken_as octets k c.hand.result) (between_of c.args.ready.between)
          (station_at es sta) _ c.station_mut.result.now w x.0 (read_some es sta c.station_mut.result.now found)
          (put_there sta es (c.get_mut.follows.lender w).entries c.station_mut.result.now w found (c.get_mut.follows.holds w).0) x.2,
    )

pub returns-in-Some-clause-others : goal.returns-in-Some-clause-others
returns-in-Some-clause-others c = let w = c.hand.new.place in put_others c.args.station c.args.stations.now.entries (c.get_mut.follows.lender w).entries w (c.get_mut.follows.holds w).0

pub returns-in-Some-clause-refused : goal.returns-in-Some-clause-refused
returns-in-Some-clause-refused c why is =
    let found = ap Some c.station_mut.ensures.value ∙ c.in-Some.ensures.value in
    let w = c.hand.new.place in
    put_back c.args.station c.args.stations.now.entries (c.get_mut.follows.lender w).entries c.station_mut.result.now w found (c.get_mut.follows.holds w).0 (c.hand.ensures.refused why is)

pub returns-in-None-clause-handed : goal.returns-in-None-clause-handed
returns-in-None-clause-handed c d id n p octets k room_is =
    let es = c.args.stations.now.entries in
    let sta = c.args.station in
    let none = read_none es sta c.in-None.ensures.value in
    let x = c.unawaited.ensures.acts d id n p octets k room_is in (
      replied_acts (pair_at d id n p) false (taken_as octets k c.unawaited.result) x.0 (between_of c.args.ready.between),
      x.2,
      in_nothing (pair_at d id n p) (given c.args.message.now.message (frame_of c.args.message.now.frame) c.args.newest.now) (taken_as octets k c.unawaited.result) (between_of c.args.ready.between)
          (station_at es sta) _ x.0 _ none (ap (λ (m : BTreeMap ℕ Station). station_at m.entries sta) c.get_mut.follows.holds-at-none ∙ none) c.unawaited.ensures.outcome x.1 refl,
    )

pub returns-in-None-clause-others : goal.returns-in-None-clause-others
returns-in-None-clause-others c k other = ap (λ (m : BTreeMap ℕ Station). station_at m.entries k) c.get_mut.follows.holds-at-none

pub returns-in-None-clause-refused : goal.returns-in-None-clause-refused
returns-in-None-clause-refused c why is = ap (λ (m : BTreeMap ℕ Station). m.entries) c.get_mut.follows.holds-at-none

pub hand-requires-clause-judged : goal.hand-requires-clause-judged
hand-requires-clause-judged c =
    let found = ap Some c.station_mut.ensures.value ∙ c.in-Some.ensures.value in
    c.requires.judged ∙ ap (λ (s : Station). is_final_at s c.args.message.now.message (frame_of c.args.message.now.frame)) (read_some c.args.stations.now.entries c.args.station c.station_mut.result.now found)
