-- The key data of M2 and M3 as the rules have it.
use Rattle.std.proofs.Common.{◌≡◌, ◌≢◌, ◌≤◌, ℕ, List, ◌++◌, length, Option, Some, None, refl, sym, ap, subst, ◌∙◌}
use Rattle.domain_base.specs.declared.names.Akm.{Akm}
use Rattle.domain_base.specs.declared.names.Akm.TheVariants.{Psk, PskSha256, FtPsk}
use Rattle.domain_base.specs.declared.names.Node.{Node}
use Rattle.rsn_elements.specs.Sent.{mde_octets, fte_octets}
use Rattle.eapol_key.specs.KeyData.{padded}
use Rattle.run_journal.specs.declared.domain.Domain.{Domain}
use Rattle.run_journal.specs.Acts.{Derivation}
use Rattle.run_journal.specs.Events.{protects}
use Rattle.domain_rules.specs.FastTransition.{r1_name, assoc_fte}
use Rattle.domain_rules.specs.Frames.{timeouts, group_kdes, sent_m2_key_data, m3_key_data, m3_key_data_by}
use Rattle.domain_rules.specs.Suites.{network_rsne}
use Rattle.domain_rules.specs.GroupKeys.{News}
use Rattle.frame_making.specs.Mobile.{Mobility}
use Rattle.frame_making.specs.KeyData.{m2_data, m3_data, HasShortFte, IsMobility}

-- by its parts
abbrev mobility_of : List ℕ → List ℕ → List ℕ → Mobility
mobility_of name mdid fte = record { name = name; mdid = mdid; fte = fte }

pub same_mobility : (m : Mobility) (name mdid fte : List ℕ) → m.name ≡ name → m.mdid ≡ mdid → m.fte ≡ fte → m ≡ record { name = name; mdid = mdid; fte = fte }
same_mobility m name mdid fte name_is mdid_is fte_is =
    ap (λ (x : List ℕ). mobility_of x m.mdid m.fte) name_is ∙ ap (λ (x : List ℕ). mobility_of name x m.fte) mdid_is ∙ ap (λ (x : List ℕ). mobility_of name mdid x) fte_is

-- the FTE of access points is short
pub short_fte : (o : Option Mobility) (m : Mobility) → o ≡ Some m → HasShortFte o → length m.fte ≤ 142
short_fte o m is short = subst HasShortFte is short

-- with suites 2 and 6
m2_plain : (akm : Akm) (d : Domain) (x : Derivation) (fte : List ℕ) → akm ≢ FtPsk → network_rsne d None ≡ sent_m2_key_data akm d x fte
m2_plain Psk d x fte other = refl
m2_plain PskSha256 d x fte other = refl
m2_plain FtPsk d x fte other = absurd (other refl)

m3_plain : (akm : Akm) (d : Domain) (n : Node) (x : Derivation) (keys : News) → akm ≢ FtPsk → padded (network_rsne d None ++ group_kdes keys) ≡ m3_key_data_by akm d n x keys
m3_plain Psk d n x keys other = refl
m3_plain PskSha256 d n x keys other = refl
m3_plain FtPsk d n x keys other = absurd (other refl)

pub m2_data_is : (d : Domain) (x : Derivation) (fte : List ℕ) (m : Option Mobility) → IsMobility d x.inputs fte m → m2_data (protects d) d.akm m ≡ sent_m2_key_data d.akm d x fte
m2_data_is d x fte None other = m2_plain d.akm d x fte other
m2_data_is d x fte (Some m) is =
    ap (λ (a : List ℕ). network_rsne d (Some a) ++ mde_octets m.mdid ++ m.fte) is.1
    ∙ ap (λ (a : List ℕ). network_rsne d (Some (r1_name x.inputs)) ++ mde_octets a ++ m.fte) is.2
    ∙ ap (λ (a : List ℕ). network_rsne d (Some (r1_name x.inputs)) ++ mde_octets d.mdid ++ a) is.3
    ∙ sym (ap (λ (akm : Akm). sent_m2_key_data akm d x fte) is.0)

pub m3_data_is : (d : Domain) (n : Node) (x : Derivation) (keys : News) (m : Option Mobility) → IsMobility d x.inputs (fte_octets (assoc_fte d n)) m → padded (m3_data (protects d) d.akm m keys) ≡ m3_key_data d n x keys
m3_data_is d n x keys None other = m3_plain d.akm d n x keys other
m3_data_is d n x keys (Some m) is =
    ap (λ (a : List ℕ). padded (network_rsne d (Some a) ++ mde_octets m.mdid ++ group_kdes keys ++ m.fte ++ timeouts)) is.1
    ∙ ap (λ (a : List ℕ). padded (network_rsne d (Some (r1_name x.inputs)) ++ mde_octets a ++ group_kdes keys ++ m.fte ++ timeouts)) is.2
    ∙ ap (λ (a : List ℕ). padded (network_rsne d (Some (r1_name x.inputs)) ++ mde_octets d.mdid ++ group_kdes keys ++ a ++ timeouts)) is.3
    ∙ sym (ap (λ (akm : Akm). m3_key_data_by akm d n x keys) is.0)
