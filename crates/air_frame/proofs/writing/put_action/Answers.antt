use Rattle.std.proofs.Common.{[], refl}
use Rattle.air_frame.proofs.Lengths.{put_size, put_room}
use Rattle.air_frame.proofs.writing.put_action.Goals as goal

pub put_frame-requires : goal.put_frame-requires
put_frame-requires c = put_room _ [] [] _ _ refl c.requires

pub returns-clause-size : goal.returns-clause-size
returns-clause-size c = put_size _ [] [] _ _ refl c.put_frame.ensures.size
