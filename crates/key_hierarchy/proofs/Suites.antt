-- The key of the inputs, suite by suite.
use Rattle.std.proofs.Common.{◌≡◌, ◌≢◌, refl}
use Rattle.domain_base.specs.declared.names.Akm.{Akm}
use Rattle.domain_base.specs.declared.names.Akm.TheVariants.{Psk, PskSha256, FtPsk}
use Rattle.domain_base.specs.declared.names.Mac.{Mac}
use Rattle.key_hierarchy.specs.declared.fast_transition.PmkR0.{PmkR0}
use Rattle.key_hierarchy.specs.declared.inputs.Inputs.{Inputs}
use Rattle.key_hierarchy.specs.FastTransition.{pmk_r0, pmk_r0_name, pmk_r1, pmk_r1_name, ft_ptk}
use Rattle.key_hierarchy.specs.Keys.{pairwise_ptk, ptk_by, ptk}

ptk_by-pairwise : (akm : Akm) (i : Inputs) → akm ≢ FtPsk → ptk_by akm i ≡ pairwise_ptk akm i.psk i.aa i.spa i.anonce i.snonce
ptk_by-pairwise Psk i h = refl
ptk_by-pairwise PskSha256 i h = refl
ptk_by-pairwise FtPsk i h = absurd (h refl)

-- with suites 2 and 6
pub ptk-pairwise : (i : Inputs) → i.akm ≢ FtPsk → ptk i ≡ pairwise_ptk i.akm i.psk i.aa i.spa i.anonce i.snonce
unfolding ptk
ptk-pairwise i h = ptk_by-pairwise i.akm i h

-- with suite 4
pub ptk-ft : (i : Inputs) → i.akm ≡ FtPsk → ptk i ≡ ft_ptk (pmk_r1 (pmk_r0 i.psk i.ssid i.mdid i.r0kh_id i.spa) i.aa i.spa) i.snonce i.anonce i.aa i.spa
unfolding ptk
ptk-ft i e = rw e refl

-- a PMK-R1 has the name that its PMK-R0 gives
pub name-pmk_r1 : (r0 : PmkR0) (r1kh sta : Mac) → (pmk_r1 r0 r1kh sta).name ≡ pmk_r1_name (pmk_r0_name r0) r1kh sta
unfolding pmk_r1
name-pmk_r1 r0 r1kh sta = refl
