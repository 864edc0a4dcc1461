-- Pairwise transient keys by their inputs (IEEE Std 802.11-2020, 12.7.1.3, 12.7.1.6).
use Rattle.std.specs.Prelude.{ℕ, List, ◌++◌, codes}
use Rattle.std.specs.Ordering.{nat_cmp}
use Rattle.std.specs.declared.cmp.Ordering.{Ordering}
use Rattle.std.specs.declared.cmp.Ordering.TheVariants.{Less, Equal, Greater}
use Rattle.std.specs.Cmp.Lexicographic.{slice_cmp}
use Rattle.domain_base.specs.declared.names.Akm.{Akm}
use Rattle.domain_base.specs.declared.names.Akm.TheVariants.{Psk, PskSha256, FtPsk}
use Rattle.domain_base.specs.declared.names.Mac.{Mac}
use Rattle.mac_prf.specs.Prf.{prf, kdf}
use Rattle.key_hierarchy.specs.declared.inputs.Inputs.{Inputs}
use Rattle.key_hierarchy.specs.declared.inputs.Ptk.{Ptk}
use Rattle.key_hierarchy.specs.FastTransition.{pmk_r0, pmk_r1, ft_ptk}
pub use Rattle.key_hierarchy.specs.Parts.{split_ptk}

-- the first of the two where it is less, as octet strings (12.7.1.3)
abbrev pub choose : {A : Type 0} → Ordering → A → A → A
choose Less a b = a
choose Equal a b = a
choose Greater a b = b

-- Min and Max of two octet strings of one length, as numbers whose first octet is the highest (12.7.1.3)
abbrev pub lesser : List ℕ → List ℕ → List ℕ
lesser a b = choose (slice_cmp nat_cmp a b) a b

abbrev pub greater : List ℕ → List ℕ → List ℕ
greater a b = choose (slice_cmp nat_cmp a b) b a

-- Min(AA,SPA) || Max(AA,SPA) || Min(ANonce,SNonce) || Max(ANonce,SNonce) (12.7.1.3)
abbrev pub pairwise_context : Mac → Mac → List ℕ → List ℕ → List ℕ
pairwise_context aa spa anonce snonce =
    lesser aa.0 spa.0 ++ greater aa.0 spa.0 ++ lesser anonce snonce ++ greater anonce snonce

-- the function by which a suite expands keys: PRF with suite 2, KDF-SHA-256 with suites 4 and 6 (12.7.1.2, 9.4.2.24.3)
abbrev pub expansion : Akm → List ℕ → List ℕ → List ℕ → ℕ → List ℕ
expansion Psk = prf
expansion PskSha256 = kdf
expansion FtPsk = kdf

-- PTK = PRF-384(PSK, "Pairwise key expansion", context), by the suite's function (12.7.1.3)
unfoldable pub pairwise_ptk : Akm → List ℕ → Mac → Mac → List ℕ → List ℕ → Ptk
pairwise_ptk akm psk aa spa anonce snonce =
    split_ptk (expansion akm psk (codes "Pairwise key expansion") (pairwise_context aa spa anonce snonce) 48)

-- with suites 2 and 6 the pairwise key hierarchy, with suite 4 the FT key hierarchy, whose R1KH-ID is the
-- authenticator's address (profile)
abbrev pub ptk_by : Akm → Inputs → Ptk
ptk_by Psk i = pairwise_ptk Psk i.psk i.aa i.spa i.anonce i.snonce
ptk_by PskSha256 i = pairwise_ptk PskSha256 i.psk i.aa i.spa i.anonce i.snonce
ptk_by FtPsk i =
    ft_ptk (pmk_r1 (pmk_r0 i.psk i.ssid i.mdid i.r0kh_id i.spa) i.aa i.spa) i.snonce i.anonce i.aa i.spa

-- the PTK of the inputs (12.7.1.3, 12.7.1.6, profile)
unfoldable pub ptk : Inputs → Ptk
ptk i = ptk_by i.akm i
