use Rattle.std.proofs.Common.{◌∙◌, ap}
use Rattle.mac_prf.specs.Cmac.{cmac}
use Rattle.mac_prf.specs.FteMic.{fte_mic_input}
use Rattle.mac_prf.proofs.Parts.{fte_mic_input-parts}
use Rattle.mac_prf.proofs.reassociation.fte_mic.Goals as goal

pub returns : goal.returns
returns c =
    let covered = c.args.covered.now in
    let addresses = c.update-2.ensures _ _ (c.update.ensures _ _ c.cmac-state.ensures) in
    let elements = c.update-5.ensures _ _ (c.update-4.ensures _ _ (c.update-3.ensures _ _ addresses)) in
    c.finalize.ensures _ _ (c.take_fte.ensures _ _ elements)
    ∙ ap (cmac c.args.kck.now) (fte_mic_input-parts covered.station.0 covered.bssid.0 covered.rsne.now covered.mde.now covered.fte.now c.number.result)
    ∙ ap (λ n. cmac c.args.kck.now (fte_mic_input covered.station.0 covered.bssid.0 n covered.rsne.now covered.mde.now covered.fte.now)) c.number.ensures
