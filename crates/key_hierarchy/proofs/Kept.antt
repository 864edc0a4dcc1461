-- What was derived from the same is the same.
use Rattle.std.proofs.Common.{◌≡◌, ℕ, List, ap, sym, ◌∙◌}
use Rattle.domain_base.specs.declared.names.Mac.{Mac}
use Rattle.key_hierarchy.specs.declared.fast_transition.PmkR0.{PmkR0}
use Rattle.key_hierarchy.specs.declared.fast_transition.PmkR1.{PmkR1}
use Rattle.key_hierarchy.specs.declared.last_derived.DerivedR0.{DerivedR0}
use Rattle.key_hierarchy.specs.declared.last_derived.DerivedR1.{DerivedR1}
use Rattle.key_hierarchy.specs.FastTransition.{pmk_r0, pmk_r0_name, pmk_r1, pmk_r1_of}

pub r0_again : (d : DerivedR0) (psk ssid mdid r0kh_id : List ℕ) (sta : Mac)
    → (d.sta ≡ sta) × (d.psk ≡ psk) × (d.mdid ≡ mdid) × (d.ssid ≡ ssid) × (d.r0kh_id ≡ r0kh_id)
    → d.r0 ≡ pmk_r0 psk ssid mdid r0kh_id sta
r0_again d psk ssid mdid r0kh_id sta same =
    d.derived
    ∙ ap (λ (a : Mac). pmk_r0 d.psk d.ssid d.mdid d.r0kh_id a) same.0
    ∙ ap (λ (w : List ℕ). pmk_r0 w d.ssid d.mdid d.r0kh_id sta) same.1
    ∙ ap (λ (w : List ℕ). pmk_r0 psk d.ssid w d.r0kh_id sta) same.2
    ∙ ap (λ (w : List ℕ). pmk_r0 psk w mdid d.r0kh_id sta) same.3
    ∙ ap (λ (w : List ℕ). pmk_r0 psk ssid mdid w sta) same.4

pub r1_again : (d : DerivedR1) (r0 : PmkR0) (r1kh sta : Mac)
    → (d.r1kh ≡ r1kh) × (d.sta ≡ sta) × (d.key ≡ r0.key) × (d.name ≡ pmk_r0_name r0)
    → d.r1 ≡ pmk_r1 r0 r1kh sta
unfolding pmk_r1
r1_again d r0 r1kh sta same =
    d.derived
    ∙ ap (λ (a : Mac). pmk_r1_of d.key d.name a d.sta) same.0
    ∙ ap (λ (a : Mac). pmk_r1_of d.key d.name r1kh a) same.1
    ∙ ap (λ (w : List ℕ). pmk_r1_of w d.name r1kh sta) same.2
    ∙ ap (λ (w : List ℕ). pmk_r1_of r0.key w r1kh sta) same.3

pub r1_kept : (r0 k : PmkR0) (name : List ℕ) (r1kh sta : Mac) (r1 : PmkR1)
    → r1 ≡ pmk_r1 r0 r1kh sta → k ≡ r0 → name ≡ pmk_r0_name r0 → r1 ≡ pmk_r1_of k.key name r1kh sta
unfolding pmk_r1
r1_kept r0 k name r1kh sta r1 is same named =
    is
    ∙ ap (λ (it : PmkR0). pmk_r1_of it.key (pmk_r0_name r0) r1kh sta) (sym same)
    ∙ ap (λ (w : List ℕ). pmk_r1_of k.key w r1kh sta) (sym named)
