-- The MAC header by the offsets of its fields (IEEE Std 802.11-2020, 9.2.3, 9.2.4).
use Rattle.std.specs.Prelude.{ℕ, ◌-◌, ◌/◌, ◌%◌, List, [], ◌∷◌, length, Bool, ◌&&◌, ◌||◌, ◌==◌, nat_le, slice_index, if◌then◌else◌}
use Rattle.std.specs.Int.{w16, bit_at}
use Rattle.domain_base.specs.Places.{little_endian_at}

-- the Frame Control field (9.2.4.1.1)
unfoldable pub frame_control : List ℕ → ℕ
frame_control octets = little_endian_at w16 0 octets

-- its version in bits 0 and 1, its type in bits 2 and 3, its subtype in bits 4 to 7 (9.2.4.1.2, 9.2.4.1.3)
abbrev pub protocol_version : List ℕ → ℕ
protocol_version octets = frame_control octets % 4

abbrev pub frame_type : List ℕ → ℕ
frame_type octets = frame_control octets / 4 % 4

abbrev pub frame_subtype : List ℕ → ℕ
frame_subtype octets = frame_control octets / 16 % 16

-- its flags in bits 8 to 15 (9.2.4.1.4 to 9.2.4.1.10)
abbrev pub has_flag : ℕ → List ℕ → Bool
has_flag bit octets = bit_at (frame_control octets) bit == 1

abbrev pub is_to_ds : List ℕ → Bool
is_to_ds = has_flag 8

abbrev pub is_from_ds : List ℕ → Bool
is_from_ds = has_flag 9

abbrev pub has_more_fragments : List ℕ → Bool
has_more_fragments = has_flag 10

abbrev pub is_protected : List ℕ → Bool
is_protected = has_flag 14

-- its flag +HTC: an HT Control field follows (9.2.4.1)
abbrev pub has_ht_control : List ℕ → Bool
has_ht_control = has_flag 15

-- the fragment number in the Sequence Control field (9.2.4.4.3)
abbrev pub fragment_number : List ℕ → ℕ
fragment_number octets = slice_index octets 22 % 16

-- A1 is there, and is a group address: the lowest bit of its first octet is set (9.2.4.3.2)
abbrev pub is_to_group : List ℕ → Bool
is_to_group octets = nat_le 10 (length octets) && slice_index octets 4 % 2 == 1

-- action frames that are read: those to a group (9.2.4.1.3, profile)
abbrev pub is_group_action : List ℕ → Bool
is_group_action octets = frame_subtype octets == 13 && is_to_group octets

-- management frames that are read: association and reassociation, both ways, authentication, and action frames to a
-- group (9.2.4.1.3, profile)
abbrev pub is_management : List ℕ → Bool
is_management octets = frame_type octets == 0 && ((nat_le (frame_subtype octets) 3 || frame_subtype octets == 11) || is_group_action octets)

-- Action frames of version 0, to whomever, by their first octet alone. A node that protects no management frames passes
-- them over, whatever else they say and however short they are (9.2.4.1.3, profile).
abbrev pub is_action : List ℕ → Bool
is_action octets = slice_index octets 0 == 0xd0

-- a body ends in a Management MIC element (MME) with a MIC of 8 octets: 18 octets before its end stand the Element ID
-- and then the Length (9.4.2.54)
abbrev pub ends_in_mme : List ℕ → Bool
ends_in_mme body = slice_index body (length body - 18) == 0x4c && slice_index body (length body - 17) == 0x10

-- data frames that are read: data and QoS data (9.2.4.1.3, profile)
abbrev pub is_data : List ℕ → Bool
is_data octets = frame_type octets == 2 && (frame_subtype octets == 0 || frame_subtype octets == 8)

-- QoS data has a QoS Control field: TID in bits 0 to 3, A-MSDU Present in bit 7 (9.2.4.5)
abbrev pub is_qos : List ℕ → Bool
is_qos octets = frame_subtype octets == 8

abbrev pub traffic_identifier : List ℕ → ℕ
traffic_identifier octets = slice_index octets 24 % 16

abbrev pub has_a_msdu : List ℕ → Bool
has_a_msdu octets = is_qos octets && bit_at (slice_index octets 24) 7 == 1

-- the header of a data frame (9.2.4.5)
abbrev pub data_header_length : List ℕ → ℕ
data_header_length octets = if is_qos octets then 26 else 24

-- the eight octets `aaaa03000000888e` before an EAPOL frame: its LLC and SNAP header (RFC 1042)
abbrev pub eapol_llc : List ℕ
eapol_llc = 0xaa ∷ 0xaa ∷ 0x03 ∷ 0x00 ∷ 0x00 ∷ 0x00 ∷ 0x88 ∷ 0x8e ∷ []
