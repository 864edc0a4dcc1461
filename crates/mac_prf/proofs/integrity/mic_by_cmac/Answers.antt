use Rattle.std.proofs.Common.{◌∙◌, ap}
use Rattle.mac_prf.specs.Cmac.{cmac}
use Rattle.mac_prf.specs.Mic.{mic_cmac}
use Rattle.mac_prf.proofs.Parts.{without_mic-parts}
use Rattle.mac_prf.proofs.integrity.mic_by_cmac.Goals as goal

pub returns : goal.returns
unfolding mic_cmac
returns c kck held =
    let text = c.finalize.ensures _ _ (c.update-3.ensures _ _ (c.update-2.ensures _ _ (c.update.ensures _ _ held))) in
    text ∙ ap (cmac kck) (without_mic-parts _ _ _ c.around_mic.ensures.front c.around_mic.ensures.behind)
