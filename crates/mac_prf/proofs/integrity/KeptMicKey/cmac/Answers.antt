use Rattle.std.proofs.Common.{ℕ, List, [], subst}
use Rattle.mac_prf.specs.HoldsBlocks.{HoldsBlocks}
use Rattle.mac_prf.proofs.integrity.KeptMicKey.cmac.Goals as goal

pub returns-in-Some : goal.returns-in-Some
returns-in-Some c =
    let s = c.cmac.result in
    subst (λ (k : List ℕ). HoldsBlocks s.cipher s.chain s.block s.count k []) c.in-Some.ensures c.cmac.ensures
