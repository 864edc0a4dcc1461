use Rattle.std.proofs.Common.{ℕ, List, subst}
use Rattle.mac_prf.specs.HoldsBlocks.{HoldsBlocks}
use Rattle.mac_prf.proofs.Parts.{without_mic_field-parts}
use Rattle.mac_prf.proofs.reassociation.take_fte.Goals as goal

pub returns : goal.returns
returns c key text held =
    let all = c.update-3.ensures key _ (c.update-2.ensures key _ (c.update.ensures key text held)) in
    let state = c.update-3.new.self in
    subst (λ (w : List ℕ). HoldsBlocks state.cipher state.chain state.block state.count key w)
    (without_mic_field-parts text c.args.fte.now _ _ c.around_field.ensures.front c.around_field.ensures.behind) all
