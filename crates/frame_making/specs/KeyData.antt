-- The key data of M2 and M3 (IEEE Std 802.11-2020, 12.7.6.3, 12.7.6.4, 13.4.2).
use Rattle.std.specs.Prelude.{◌≡◌, ◌≢◌, ◌≤◌, ℕ, Bool, List, ◌++◌, length, Option, Some, None, if◌then◌else◌}
use Rattle.domain_base.specs.declared.names.Akm.{Akm}
use Rattle.domain_base.specs.declared.names.Akm.TheVariants.{FtPsk}
use Rattle.rsn_elements.specs.Sent.{rsne_octets, rsne_mfp_octets, mde_octets}
use Rattle.key_hierarchy.specs.declared.inputs.Inputs.{Inputs}
use Rattle.run_journal.specs.declared.domain.Domain.{Domain}
use Rattle.domain_rules.specs.FastTransition.{r1_name}
use Rattle.domain_rules.specs.Frames.{timeouts, group_kdes}
use Rattle.domain_rules.specs.GroupKeys.{News}
use Rattle.frame_making.specs.Mobile.{Mobility}

-- the RSNE of the suite, with a PMKID or without, where management frames are protected or not (9.4.2.24)
abbrev pub rsne_by : Bool → Akm → Option (List ℕ) → List ℕ
rsne_by protected akm name = if protected then rsne_mfp_octets akm name else rsne_octets akm name

-- the key data of M2 (12.7.6.3, 13.4.2)
abbrev pub m2_data : Bool → Akm → Option Mobility → List ℕ
m2_data protected akm None = rsne_by protected akm None
m2_data protected akm (Some m) = rsne_by protected akm (Some m.name) ++ mde_octets m.mdid ++ m.fte

-- of M3, with the group keys, before padding and wrap (12.7.6.4, 13.4.2)
abbrev pub m3_data : Bool → Akm → Option Mobility → News → List ℕ
m3_data protected akm None keys = rsne_by protected akm None ++ group_kdes keys
m3_data protected akm (Some m) keys =
    rsne_by protected akm (Some m.name) ++ mde_octets m.mdid ++ group_kdes keys ++ m.fte ++ timeouts

-- its FTE is as short as those that access points send, which name two key holders and have no keys (13.4.2)
abbrev pub HasShortFte : Option Mobility → Type 0
HasShortFte None = Unit {0}
HasShortFte (Some m) = length m.fte ≤ 142

-- it is what suite 4 adds where keys are made of those inputs, with that FTE; the other suites add nothing (13.4.2)
abbrev pub IsMobility : Domain → Inputs → List ℕ → Option Mobility → Type 0
IsMobility d i fte None = d.akm ≢ FtPsk
IsMobility d i fte (Some m) = (d.akm ≡ FtPsk) × (m.name ≡ r1_name i) × (m.mdid ≡ d.mdid) × (m.fte ≡ fte)
