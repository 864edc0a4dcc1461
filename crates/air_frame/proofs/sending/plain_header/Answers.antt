use Rattle.std.proofs.Common.{[], ◌∷◌, arith}
use Rattle.air_frame.proofs.Lengths.{header_written}
use Rattle.air_frame.proofs.sending.plain_header.Goals as goal

pub returns : goal.returns
returns c =
    header_written (c.args.first ∷ c.args.second ∷ 0 ∷ 0 ∷ []) c.args.a1.0 c.args.a2.0 c.args.a3.0 (0 ∷ 0 ∷ []) _ _ _ _ _ _ c.put-at.ensures.front c.put-at-2.ensures.front c.put-at-3.ensures.front c.put-at-4.ensures.front c.put.ensures.front (omega arith)
