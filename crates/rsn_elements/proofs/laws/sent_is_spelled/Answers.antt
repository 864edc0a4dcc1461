use Rattle.rsn_elements.proofs.PiecesTell.{pieces_spelled}
use Rattle.rsn_elements.proofs.laws.sent_is_spelled.Goals as goal

pub returns : goal.returns
returns c = pieces_spelled
