use Rattle.std.proofs.Common.{◌∙◌, List, ℕ, ap, take}
use Rattle.sha1.specs.Sha1.{sha1}
use Rattle.mac_prf.specs.Hmac.{hmac}
use Rattle.mac_prf.specs.Mic.{mic_sha1}
use Rattle.mac_prf.proofs.Parts.{without_mic-parts}
use Rattle.mac_prf.proofs.integrity.mic_by_hmac.Goals as goal

pub returns : goal.returns
unfolding mic_sha1
returns c kck held =
    let text = c.finalize.ensures _ _ (c.update-3.ensures _ _ (c.update-2.ensures _ _ (c.update.ensures _ _ held))) in
    let parts = without_mic-parts _ _ _ c.around_mic.ensures.front c.around_mic.ensures.behind in
    c.first_half.ensures ∙ ap (λ (w : List ℕ). take 16 w) (text ∙ ap (λ (w : List ℕ). hmac sha1 kck w) parts)
