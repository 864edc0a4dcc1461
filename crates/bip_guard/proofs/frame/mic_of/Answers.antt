use Rattle.std.proofs.Common.{◌∙◌, ◌++◌, ℕ, List, ap, take, replicate}
use Rattle.mac_prf.specs.Cmac.{cmac}
use Rattle.bip_guard.specs.Bip.{bip_mic}
use Rattle.bip_guard.proofs.frame.mic_of.Goals as goal

pub returns : goal.returns
unfolding bip_mic
returns c =
    c.array_at.ensures
    ∙ ap (take 8) (c.cmac_of_pieces-code.ensures ∙ ap (λ (w : List ℕ). cmac c.args.igtk.now (w ++ (c.args.front.now ++ replicate 8 0))) c.aad_of.ensures)
