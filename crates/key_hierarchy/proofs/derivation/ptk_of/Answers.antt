use Rattle.std.proofs.Common.{rules, List, ℕ, sym, ap, ◌∙◌}
use Rattle.key_hierarchy.specs.declared.fast_transition.PmkR0.{PmkR0}
use Rattle.key_hierarchy.specs.declared.fast_transition.PmkR1.{PmkR1}
use Rattle.key_hierarchy.specs.FastTransition.{pmk_r0, pmk_r1, ft_ptk}
use Rattle.key_hierarchy.proofs.Suites.{ptk-pairwise, ptk-ft}
use Rattle.key_hierarchy.proofs.derivation.ptk_of.Goals as goal

pub returns-in-FtPsk : goal.returns-in-FtPsk
returns-in-FtPsk c =
    let i = c.args.inputs.now in
    let r0 = c.derive-r0.ensures
    ∙ ap (λ (w : List ℕ). pmk_r0 i.psk w i.mdid c.as_slice-in-FtPsk.result.now i.spa) c.as_slice.ensures
    ∙ ap (λ (w : List ℕ). pmk_r0 i.psk i.ssid i.mdid w i.spa) c.as_slice-in-FtPsk.ensures in
    let r1 = c.r1.ensures.r1 ∙ ap (λ (w : PmkR0). pmk_r1 w i.aa i.spa) r0 in
    c.ptk_from_r1.ensures ∙ ap (λ (w : PmkR1). ft_ptk w i.snonce i.anonce i.aa i.spa) r1 ∙ sym (ptk-ft i c.in-FtPsk.is)

pub returns-in-Psk : goal.returns-in-Psk
returns-in-Psk c = c.pairwise_ptk.ensures ∙ sym (ptk-pairwise c.args.inputs.now (search rules))
