use Rattle.std.proofs.Common.{false, refl}
use Rattle.domain_rules.specs.Replies.{replied_acts, taken_as}
use Rattle.node_base.specs.Pairs.{pair_at}
use Rattle.act_memory.specs.Rooms.{between_of}
use Rattle.authenticator.specs.Judged.{frame_of}
use Rattle.authenticator.specs.Taken.{given}
use Rattle.ap_node.proofs.Handing.{in_session_so, in_none_so}
use Rattle.ap_node.proofs.stations.hand_session.Goals as goal

pub returns-in-Some-clause-handed : goal.returns-in-Some-clause-handed
returns-in-Some-clause-handed c d id n p octets k room_is =
    let x = c.step_session.ensures.handed d id n p octets k room_is in (
      x.0,
      x.1,
      in_session_so (pair_at d id n p) (given c.args.message.now.message (frame_of c.args.message.now.frame) c.args.newest.now) (taken_as octets k c.step_session.result) (between_of c.args.ready.between)
          c.args.place.now _ c.in-Some.session c.step_session.new.session x.0 c.in-Some.is refl c.requires.which x.2 c.step_session.ensures.refused,
    )

pub returns-in-None-clause-handed : goal.returns-in-None-clause-handed
returns-in-None-clause-handed c d id n p octets k room_is =
    let x = c.unawaited.ensures.acts d id n p octets k room_is in (
      replied_acts (pair_at d id n p) false (taken_as octets k c.unawaited.result) x.0 (between_of c.args.ready.between),
      x.2,
      in_none_so (pair_at d id n p) (given c.args.message.now.message (frame_of c.args.message.now.frame) c.args.newest.now) (taken_as octets k c.unawaited.result) (between_of c.args.ready.between)
          c.args.place.now c.args.place.now x.0 _ c.in-None.is refl c.requires.which c.unawaited.ensures.outcome x.1 refl,
    )
