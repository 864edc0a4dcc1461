use Rattle.held_rows.proofs.Putting.{put_told, behind_put}
use Rattle.held_rows.proofs.laws.put_is_told.Goals as goal

pub returns : goal.returns
returns c = record { answer = put_told; rows = λ d n xs h id name k answer. behind_put d n xs h id name k answer }
