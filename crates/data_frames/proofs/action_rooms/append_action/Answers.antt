use Rattle.data_frames.proofs.Announced.{covers}
use Rattle.data_frames.proofs.action_rooms.append_action.Goals as goal

pub returns : goal.returns
returns c =
    covers c.args.octets.now.items c.args.header.now c.args.front.now c.args.rest.now c.aad_of.result _ _ _ _ _ c.aad_of.ensures c.append.ensures.items c.append-2.ensures.items c.append-3.ensures.items c.append-4.ensures.items c.append-5.ensures.items
