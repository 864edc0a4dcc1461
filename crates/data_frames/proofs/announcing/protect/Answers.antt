use Rattle.std.proofs.Common.{arith}
use Rattle.std.proofs.lemmas.Grind.{common_steps}
use Rattle.data_frames.proofs.Lengths.{behind_long}
use Rattle.data_frames.proofs.Announced.{body_behind}
use Rattle.data_frames.proofs.announcing.protect.Goals as goal

pub split_at_mut-body-requires : goal.split_at_mut-body-requires
split_at_mut-body-requires c = omega (arith, behind_long _ c.args.header.now c.args.frame.now c.requires.frame)

pub seal_frame-requires-clause-room : goal.seal_frame-requires-clause-room
seal_frame-requires-clause-room c = omega (arith, c.split_at_mut-body.ensures.back_len, behind_long _ c.args.header.now c.args.frame.now c.requires.frame)

pub returns-clause-frame : goal.returns-clause-frame
returns-clause-frame c =
    body_behind c.args.igtk.now c.args.header.now c.args.content.now _ c.seal_frame.new.out _ c.args.frame.now c.args.id c.args.ipn c.seal_frame.result c.requires.frame c.split_at_mut-body.ensures.front c.seal_frame.ensures.sealed.sealed
    (omega (arith, c.seal_frame.ensures.len, c.seal_frame.ensures.end, c.split_at_mut-body.ensures.back_len, behind_long _ c.args.header.now c.args.frame.now c.requires.frame))

pub returns-clause-len : goal.returns-clause-len
returns-clause-len c = grind (arith, common_steps)
