use Rattle.std.proofs.Common.{arith}
use Rattle.data_frames.proofs.Lengths.{behind_long}
use Rattle.std.proofs.lemmas.Grind.{common_steps}
use Rattle.data_frames.proofs.key.DataKey.protect.Goals as goal

pub split_at_mut-body-requires : goal.split_at_mut-body-requires
split_at_mut-body-requires c = omega (arith, behind_long _ c.args.header.now c.args.frame.now c.requires.frame)

pub protect-requires-clause-room : goal.protect-requires-clause-room
protect-requires-clause-room c = omega (arith, c.split_at_mut-body.ensures.back_len, behind_long _ c.args.header.now c.args.frame.now c.requires.frame)

pub returns-clause-len : goal.returns-clause-len
returns-clause-len c = grind (arith, common_steps)

pub unreachable-requires : goal.unreachable-requires
unreachable-requires c = grind (arith, common_steps)
