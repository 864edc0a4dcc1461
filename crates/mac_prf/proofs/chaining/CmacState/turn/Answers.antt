use Rattle.std.proofs.Common.{take, arith}
use Rattle.std.proofs.lemmas.List.{length-take}
use Rattle.mac_prf.proofs.Chains.{holds-next}
use Rattle.mac_prf.proofs.chaining.CmacState.turn.Goals as goal

pub returns-clause-holds : goal.returns-clause-holds
returns-clause-holds c key text h =
    rw (c.encrypt_sum-next.ensures, c.filled-self.ensures)
    (holds-next _ _ _ key text (take c.min-count.result c.args.piece.now) _ c.min-count.result h c.requires.whole
    (omega (arith, length-take c.min-count.result c.args.piece.now)) (omega arith) (omega arith))
