use Rattle.std.proofs.Common.{take, arith}
use Rattle.std.proofs.lemmas.List.{length-take}
use Rattle.mac_prf.proofs.Chains.{holds-more}
use Rattle.mac_prf.proofs.chaining.CmacState.fill.Goals as goal

pub returns-clause-holds : goal.returns-clause-holds
returns-clause-holds c key text h =
    holds-more _ _ _ key text (take c.min-count.result c.args.piece.now) _ _ c.min-count.result h
    (omega (arith, length-take c.min-count.result c.args.piece.now)) c.copy_from_slice.ensures.after (omega arith) (omega arith)
