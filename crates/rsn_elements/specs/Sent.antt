-- Elements as they are sent: which fields and values is this project's choice (IEEE Std 802.11-2020, 9.4.2.2, 9.4.2.3,
-- 9.4.2.24, 9.4.2.46 to 9.4.2.48, 12.7.2, profile).
use Rattle.std.specs.Prelude.{ℕ, List, [], ◌∷◌, ◌++◌, length, take, Option, None, Some}
use Rattle.std.specs.Int.{w16, w32, w64, to_le_bytes}
use Rattle.domain_base.specs.declared.names.Akm.{Akm}
use Rattle.domain_base.specs.declared.names.Akm.TheVariants.{Psk, PskSha256, FtPsk}
use Rattle.domain_base.specs.Padding.{padding, padding_octets}
use Rattle.rsn_elements.specs.Transition.{WrappedGtkFields, WrappedIgtkFields, FteFields}

-- the network's name (9.4.2.2)
abbrev pub ssid_octets : List ℕ → List ℕ
ssid_octets ssid = 0x00 ∷ length ssid ∷ ssid

-- the rates 1, 2, 5.5 and 11 Mbit/s, all of them basic (9.4.2.3, profile)
abbrev pub rates_octets : List ℕ
rates_octets = 0x01 ∷ 0x04 ∷ 0x82 ∷ 0x84 ∷ 0x8b ∷ 0x96 ∷ []

-- the type of the suite of the AKM (9.4.2.24.3)
abbrev pub akm_type : Akm → ℕ
akm_type Psk = 2
akm_type PskSha256 = 6
akm_type FtPsk = 4

-- version 1, group and pairwise CCMP-128, the AKM, capabilities with this lowest octet (9.4.2.24, profile)
abbrev pub rsne_with : ℕ → Akm → List ℕ
rsne_with capabilities akm =
    0x01 ∷ 0x00 ∷ 0x00 ∷ 0x0f ∷ 0xac ∷ 0x04 ∷ 0x01 ∷ 0x00 ∷ 0x00 ∷ 0x0f ∷ 0xac ∷ 0x04 ∷ 0x01 ∷ 0x00 ∷ 0x00 ∷ 0x0f ∷ 0xac ∷ akm_type akm ∷ capabilities ∷ 0x00 ∷ []

-- with no protection of management frames (9.4.2.24.4, profile)
abbrev pub rsne_start : Akm → List ℕ
rsne_start akm = rsne_with 0x0c akm

-- and with a name of 16 octets a list of that one PMKID (9.4.2.24, profile)
abbrev pub rsne_octets : Akm → Option (List ℕ) → List ℕ
rsne_octets akm None = 0x30 ∷ 0x14 ∷ rsne_start akm
rsne_octets akm (Some pmkid) = 0x30 ∷ 0x26 ∷ (rsne_start akm ++ 0x01 ∷ 0x00 ∷ pmkid)

-- with management frame protection capable, bit 7 (9.4.2.24.4, profile)
abbrev pub rsne_mfp_start : Akm → List ℕ
rsne_mfp_start akm = rsne_with 0x8c akm

-- and in any case a list of PMKIDs, none or that one, and as group management cipher suite BIP-CMAC-128 (9.4.2.24,
-- profile)
abbrev pub rsne_mfp_octets : Akm → Option (List ℕ) → List ℕ
rsne_mfp_octets akm None = 0x30 ∷ 0x1a ∷ (rsne_mfp_start akm ++ 0x00 ∷ 0x00 ∷ 0x00 ∷ 0x0f ∷ 0xac ∷ 0x06 ∷ [])
rsne_mfp_octets akm (Some pmkid) = 0x30 ∷ 0x2a ∷ (rsne_mfp_start akm ++ 0x01 ∷ 0x00 ∷ (pmkid ++ 0x00 ∷ 0x0f ∷ 0xac ∷ 0x06 ∷ []))

-- a mobility domain with capability 0 (9.4.2.46, profile)
abbrev pub mde_octets : List ℕ → List ℕ
mde_octets mdid = 0x36 ∷ 0x03 ∷ (mdid ++ 0x00 ∷ [])

-- a timeout interval: the type, and the value with its lowest octet first (9.4.2.48)
abbrev pub timeout_octets : ℕ → ℕ → List ℕ
timeout_octets kind value = 0x38 ∷ 0x05 ∷ kind ∷ to_le_bytes w32 value

-- a GTK of 16 octets, with Tx clear (12.7.2)
abbrev pub gtk_kde_octets : ℕ → List ℕ → List ℕ
gtk_kde_octets id key = 0xdd ∷ 0x16 ∷ 0x00 ∷ 0x0f ∷ 0xac ∷ 0x01 ∷ id ∷ 0x00 ∷ key

-- the six octets of an IPN, lowest first (12.7.2)
abbrev pub ipn_octets : ℕ → List ℕ
ipn_octets ipn = take 6 (to_le_bytes w64 ipn)

-- an IGTK of 16 octets, with its key id and the number used last under it (12.7.2)
abbrev pub igtk_kde_octets : ℕ → ℕ → List ℕ → List ℕ
igtk_kde_octets id ipn key = 0xdd ∷ 0x1c ∷ 0x00 ∷ 0x0f ∷ 0xac ∷ 0x09 ∷ (to_le_bytes w16 id ++ (ipn_octets ipn ++ key))

-- a subelement, where there is one (9.4.2.47)
abbrev pub subelement_octets : ℕ → Option (List ℕ) → List ℕ
subelement_octets id None = []
subelement_octets id (Some body) = id ∷ length body ∷ body

-- a GTK under key wrap (9.4.2.47)
abbrev pub wrapped_gtk_octets : WrappedGtkFields → List ℕ
wrapped_gtk_octets g = to_le_bytes w16 g.information ++ (g.key_length ∷ (g.rsc ++ g.wrapped))

-- a wrapped GTK as subelement 2, where there is one (9.4.2.47)
abbrev pub wrapped_gtk_subelement : Option WrappedGtkFields → List ℕ
wrapped_gtk_subelement None = []
wrapped_gtk_subelement (Some g) = subelement_octets 2 (Some (wrapped_gtk_octets g))

-- an IGTK under key wrap (9.4.2.47)
abbrev pub wrapped_igtk_octets : WrappedIgtkFields → List ℕ
wrapped_igtk_octets g = to_le_bytes w16 g.id ++ (g.ipn ++ (g.key_length ∷ g.wrapped))

-- a wrapped IGTK as subelement 4, where there is one (9.4.2.47)
abbrev pub wrapped_igtk_subelement : Option WrappedIgtkFields → List ℕ
wrapped_igtk_subelement None = []
wrapped_igtk_subelement (Some g) = subelement_octets 4 (Some (wrapped_igtk_octets g))

-- the wrapped keys that are there, the IGTK last (9.4.2.47, profile)
abbrev pub wrapped_keys : Option WrappedGtkFields → Option WrappedIgtkFields → List ℕ
wrapped_keys gtk None = wrapped_gtk_subelement gtk
wrapped_keys gtk (Some g) = wrapped_gtk_subelement gtk ++ wrapped_igtk_subelement (Some g)

-- the subelements stand in the order 1, 3, 2, 4 (9.4.2.47)
abbrev pub fte_body : FteFields → List ℕ
fte_body f = f.mic_control ++ (f.mic ++ (f.anonce ++ (f.snonce ++ (subelement_octets 1 f.r1kh_id ++ (subelement_octets 3 f.r0kh_id ++ wrapped_keys f.gtk f.igtk)))))

-- the whole FTE (9.4.2.47)
abbrev pub fte_octets : FteFields → List ℕ
fte_octets f = 0x37 ∷ length (fte_body f) ∷ fte_body f

-- what is put after key data of this size (12.7.2)
abbrev pub pad_octets : ℕ → List ℕ
pad_octets size = padding_octets (padding size)
