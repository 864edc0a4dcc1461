use Rattle.frame_intake.specs.Views.{action_fields}
use Rattle.data_frames.specs.Actions.{integrity}
use Rattle.data_frames.proofs.ActionsTaken.{handed_up}
use Rattle.data_frames.proofs.actions.hand_up.Goals as goal

pub returns-clause-acts : goal.returns-clause-acts
returns-clause-acts c =
    handed_up c.args.from c.args.octets.now (action_fields c.args.frame.now) (integrity c.args.igtk.now.key c.args.igtk.now.id) c.in_ok-room.room.taken.items c.in_ok-room.room.covered.items c.in_ok-room.room.content.items c.ipn_in-number.result _ _ _
    c.in_ok-room.ensures.taken c.in_ok-room.ensures.covered c.in_ok-room.ensures.content c.ipn_in-number.ensures c.in_ok-reserve.ensures.acts c.add_handed_up.ensures
