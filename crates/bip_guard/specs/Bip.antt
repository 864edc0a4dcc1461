-- BIP-CMAC-128: bodies of management frames with a MAC header of 24 octets (IEEE Std 802.11-2020, 12.5.4).
use Rattle.std.specs.Prelude.{◌≡◌, ℕ, ◌-◌, ◌^◌, ◌<◌, ◌≤◌, Bool, List, [], ◌∷◌, ◌++◌, length, take, drop, replicate, slice_index, bit_and, bytes_eq}
use Rattle.std.specs.Int.{w16, w64, to_le_bytes, from_le_bytes}
use Rattle.domain_base.specs.Places.{part, little_endian_at}
use Rattle.mac_prf.specs.Cmac.{cmac}
use Rattle.replay_window.specs.Numbers.{last_number}

-- the additional authentication data: the Frame Control field with bits 11 (Retry), 12 (Power Management) and 13 (More Data)
-- zero, and Addresses 1, 2 and 3 (12.5.4.3)
unfoldable pub bip_aad : List ℕ → List ℕ
bip_aad header = slice_index header 0 ∷ bit_and (slice_index header 1) 0xc7 ∷ part 4 18 header

-- the Management MIC element (MME) before its MIC field: Element ID, Length, Key ID in two octets and IPN in six, each with its
-- low octet first (9.4.2.54)
unfoldable pub mme_front : ℕ → ℕ → List ℕ
mme_front id ipn = 0x4c ∷ 0x10 ∷ to_le_bytes w16 id ++ take 6 (to_le_bytes w64 ipn)

-- the MIC of a body, from what stands in it before its MIC field: the first 8 octets of AES-128-CMAC over the additional
-- authentication data and the body with zeros in its MIC field (12.5.4.5)
unfoldable pub bip_mic : List ℕ → List ℕ → List ℕ → List ℕ
bip_mic igtk header front = take 8 (cmac igtk (bip_aad header ++ (front ++ replicate 8 0)))

-- the content and the MME before its MIC, with their MIC (12.5.4.2, 12.5.4.5)
abbrev pub protected_body : List ℕ → List ℕ → ℕ → ℕ → List ℕ → List ℕ
protected_body igtk header id ipn content = front ++ bip_mic igtk header front where
  front : List ℕ
  front = content ++ mme_front id ipn

-- the body of a frame with that header carries the content under the IGTK, with that key id and IPN
pub record BipProtected (igtk header : List ℕ) (id ipn : ℕ) (content body : List ℕ) : Type 0 where
  pub mac_header : length header ≡ 24
  pub key_id : id < 2 ^ 16
  pub number : ipn ≤ last_number
  pub sealed : body ≡ protected_body igtk header id ipn content

-- ---- a body as it is received

-- the octets of the MME at the end of a body (9.4.2.54)
abbrev pub mme_of : List ℕ → List ℕ
mme_of body = drop (length body - 18) body

-- a body ends in an MME with a MIC of 8 octets: 18 octets before its end stands the Element ID, and then the Length (9.4.2.54)
abbrev pub EndsInMme : List ℕ → Type 0
EndsInMme body = (18 ≤ length body) × (slice_index body (length body - 18) ≡ 0x4c) × (slice_index body (length body - 17) ≡ 0x10)

-- what the MME of a body says: its key id, all 16 bits of that field, and its IPN (9.4.2.54)
abbrev pub key_id_in : List ℕ → ℕ
key_id_in body = little_endian_at w16 2 (mme_of body)

unfoldable pub ipn_at : List ℕ → ℕ
ipn_at mme =
    from_le_bytes w64 (slice_index mme 4 ∷ slice_index mme 5 ∷ slice_index mme 6 ∷ slice_index mme 7 ∷ slice_index mme 8 ∷ slice_index mme 9 ∷ 0 ∷ 0 ∷ [])

-- its packet number, lowest octet first (9.4.2.54)
abbrev pub ipn_in : List ℕ → ℕ
ipn_in body = ipn_at (mme_of body)

-- whether the MIC field of a body holds the MIC of it (12.5.4.6)
unfoldable pub mic_verifies : List ℕ → List ℕ → List ℕ → Bool
mic_verifies igtk header body = bytes_eq (part before 8 body) (bip_mic igtk header (take before body)) where
  before : ℕ
  before = length body - 8
