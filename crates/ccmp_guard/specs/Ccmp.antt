-- CCMP with a key of 128 bits, over a MAC header of 24 octets, or of 26 in a QoS data frame (IEEE Std 802.11-2020,
-- 12.5.3, profile).
use Rattle.std.specs.Prelude.{◌≡◌, ◌⊎◌, ℕ, ◌+◌, ◌*◌, ◌/◌, ◌%◌, ◌^◌, ◌==◌, List, [], ◌∷◌, ◌++◌, length, take, drop, slice_index, bit_and, bit_or, if◌then◌else◌}
use Rattle.std.specs.Int.{w64, bit_at, to_be_bytes, from_le_bytes}
use Rattle.domain_base.specs.Places.{part}
use Rattle.ccmp_guard.specs.Ccm.{Sealed}

-- a MAC header without Address 4 and HT Control (9.3.2.1)
abbrev pub IsHeader : List ℕ → Type 0
IsHeader header = (length header ≡ 24) ⊎ (length header ≡ 26)

-- the TID in bits 0 to 3 of the QoS Control field, and 0 in a header without one (9.2.4.5.2)
abbrev pub traffic_identifier : List ℕ → ℕ
traffic_identifier header = if length header == 26 then slice_index header 24 % 16 else 0

-- the CCM nonce: the priority, which is the TID, Address 2, and the packet number, high octet first (12.5.3.3.4)
unfoldable pub ccm_nonce : List ℕ → ℕ → List ℕ
ccm_nonce header pn = traffic_identifier header ∷ part 10 6 header ++ drop 2 (to_be_bytes w64 pn)

-- the additional authenticated data: the Frame Control field with bits 4 to 6, 11, 12 and 13 zero and bit 14 one, and
-- Addresses 1 to 3. Then the Sequence Control field with bits 4 to 15 zero, and in a QoS data frame the TID in two
-- octets (12.5.3.3.3)
unfoldable pub ccm_aad : List ℕ → List ℕ
ccm_aad header =
    bit_and (slice_index header 0) 0x8f ∷ bit_or (bit_and (slice_index header 1) 0xc7) 0x40 ∷ part 4 18 header
    ++ (slice_index header 22 % 16) ∷ 0 ∷ (if length header == 26 then (slice_index header 24 % 16) ∷ 0 ∷ [] else [])

-- the CCMP header as it is written: PN0, PN1, a reserved octet, the key id in bits 6 and 7 beside ExtIV in bit 5, PN2 to PN5,
-- PN0 being the lowest octet of the packet number (12.5.3.2)
unfoldable pub ccmp_header : ℕ → ℕ → List ℕ
ccmp_header id pn =
    (pn % 256) ∷ (pn / 2 ^ 8 % 256) ∷ 0 ∷ (id * 64 + 32) ∷ (pn / 2 ^ 16 % 256) ∷ (pn / 2 ^ 24 % 256) ∷ (pn / 2 ^ 32 % 256) ∷ (pn / 2 ^ 40 % 256) ∷ []

-- what the CCMP header of a body says: its packet number, key id and ExtIV (12.5.3.2)
unfoldable pub packet_number : List ℕ → ℕ
packet_number body =
    from_le_bytes w64 (slice_index body 0 ∷ slice_index body 1 ∷ slice_index body 4 ∷ slice_index body 5 ∷ slice_index body 6 ∷ slice_index body 7 ∷ 0 ∷ 0 ∷ [])

-- its key id: the two high bits of octet 3 (12.5.3.2)
abbrev pub key_id_in : List ℕ → ℕ
key_id_in body = slice_index body 3 / 64

-- whether ExtIV is set: bit 5 of octet 3 (12.5.3.2)
abbrev pub ext_iv : List ℕ → ℕ
ext_iv body = bit_at (slice_index body 3) 5

-- the body of a frame with that header carries the plain text under the temporal key, with that key id and packet
-- number: the CCMP header, and after it the plain text sealed. Octet 2 and bits 0 to 4 of octet 3 are not looked at
-- (12.5.3.2)
pub record Protected (tk header : List ℕ) (id pn : ℕ) (plain body : List ℕ) : Type 0 where
  pub mac_header : IsHeader header
  pub number : packet_number body ≡ pn
  pub key_id : key_id_in body ≡ id
  pub extended : ext_iv body ≡ 1
  pub sealed : Sealed tk (ccm_nonce header pn) (ccm_aad header) plain (drop 8 body)

-- what the seal of a frame covers, in a row: the nonce, the additional authenticated data, the plain text (profile)
abbrev pub sealed_octets : List ℕ → ℕ → List ℕ → List ℕ
sealed_octets header pn plain = ccm_nonce header pn ++ ccm_aad header ++ plain

-- two bodies that differ at most where they are not looked at, in octet 2 and in bits 0 to 4 of octet 3 (12.5.3.2)
pub record AgreeBodies (body other : List ℕ) : Type 0 where
  pub low : take 2 body ≡ take 2 other
  pub flags : slice_index body 3 / 32 ≡ slice_index other 3 / 32
  pub rest : drop 4 body ≡ drop 4 other
