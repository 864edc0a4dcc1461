use Rattle.std.proofs.Common.{take}
use Rattle.std.specs.List.{flat_map}
use Rattle.mac_prf.specs.HoldsBlocks.{HoldsBlocks}
use Rattle.mac_prf.proofs.chaining.cmac_of_pieces.Given as goal

-- the pieces so far are taken in
abbrev pub invariant-loop-piece : goal.invariant-loop-piece
invariant-loop-piece l =
    HoldsBlocks l.state.cipher l.state.chain l.state.block l.state.count l.key (flat_map (λ p. p.now) (take l.piece-index l.pieces))
