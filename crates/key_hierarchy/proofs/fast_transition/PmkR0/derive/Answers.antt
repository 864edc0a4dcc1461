use Rattle.std.proofs.Common.{◌≡◌, List, ℕ, ap, ◌∙◌}
use Rattle.std.specs.Prelude.{codes}
use Rattle.mac_prf.specs.Prf.{kdf}
use Rattle.domain_base.specs.Places.{part}
use Rattle.key_hierarchy.specs.FastTransition.{r0_key_data, pmk_r0}
use Rattle.key_hierarchy.proofs.fast_transition.PmkR0.derive.Goals as goal

pub returns : goal.returns
unfolding pmk_r0 r0_key_data
returns c =
    let key_data : c.kdf.new.out ≡ r0_key_data c.args.psk.now c.args.ssid.now c.args.mdid c.args.r0kh_id.now c.args.sta =
    c.kdf.ensures ∙ ap (λ (w : List ℕ). kdf c.args.psk.now (codes "FT-R0") w 48) c.put_r0_context-end.ensures.front in
    let key = c.array_at.ensures ∙ ap (λ (w : List ℕ). part 0 32 w) key_data in
    let salt = c.array_at-2.ensures ∙ ap (λ (w : List ℕ). part 32 16 w) key_data in
    λ i. record { key = key i; salt = salt i }
