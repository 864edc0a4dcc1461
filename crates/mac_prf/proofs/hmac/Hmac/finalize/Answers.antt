use Rattle.std.proofs.Common.{◌∙◌, ℕ, List, ap, ◌++◌}
use Rattle.mac_prf.specs.Hmac.{hmac, masked, block_key}
use Rattle.mac_prf.proofs.hmac.Hmac.finalize.Goals as goal

pub returns : goal.returns
unfolding hmac
returns g c key text held =
    let inner = c.finish.ensures _ held.inner_holds in
    c.finish-2.ensures _ (c.take.ensures _ held.outer_holds)
    ∙ ap (λ (w : List ℕ). g.H.BlockHash.digest (masked 0x5c (block_key g.H.BlockHash.digest key) ++ w)) inner
