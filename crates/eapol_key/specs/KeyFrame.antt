-- EAPOL-Key frames by the offsets of their fields, within an EAPOL PDU of IEEE Std 802.1X (IEEE Std 802.11-2020,
-- 12.7.2).
use Rattle.std.specs.Prelude.{◌≡◌, ℕ, ◌+◌, ◌-◌, ◌≤◌, List, length, Option, Some, None, ◌||◌, ◌==◌, not, nat_lt, slice_index, if◌then◌else◌}
use Rattle.std.specs.Int.{w16, w64}
use Rattle.domain_base.specs.Places.{part, big_endian_at}
use Rattle.eapol_key.specs.declared.frame.FaultKind.{FaultKind}
use Rattle.eapol_key.specs.declared.frame.FaultKind.TheVariants.{Short, PacketType, Descriptor, BodyLength, KeyDataLength}
use Rattle.eapol_key.specs.declared.frame.FrameFault.{FrameFault}

-- what a frame says, without where it lies in memory
pub record KeyFields : Type 0 where
  pub version : ℕ
  pub information : ℕ
  pub key_length : ℕ
  pub counter : ℕ
  pub nonce : List ℕ
  pub iv : List ℕ
  pub rsc : List ℕ
  pub reserved : List ℕ
  pub mic : List ℕ
  pub key_data : List ℕ

-- the fields of a frame of so many octets, each at its offset
abbrev pub fields_at : ℕ → List ℕ → KeyFields
fields_at used octets = record {
  version = slice_index octets 0;
  information = big_endian_at w16 5 octets;
  key_length = big_endian_at w16 7 octets;
  counter = big_endian_at w64 9 octets;
  nonce = part 17 32 octets;
  iv = part 49 16 octets;
  rsc = part 65 8 octets;
  reserved = part 73 8 octets;
  mic = part 81 16 octets;
  key_data = part 99 (used - 99) octets;
}

-- the octets begin with a frame of these fields, which takes so many of them: versions 1 to 3, packet type 3,
-- descriptor type 2, and lengths that agree. Whatever else its fields hold is taken
pub record SpellsKeyFrame (octets : List ℕ) (f : KeyFields) (used : ℕ) : Type 0 where
  pub fields : f ≡ fields_at used octets
  pub long : used ≤ length octets
  pub version_low : 1 ≤ slice_index octets 0
  pub version_high : slice_index octets 0 ≤ 3
  pub packet_type : slice_index octets 1 ≡ 3
  pub body_length : big_endian_at w16 2 octets + 4 ≡ used
  pub descriptor : slice_index octets 4 ≡ 2
  pub key_data_length : big_endian_at w16 97 octets + 99 ≡ used

-- why octets begin with no frame, and where: the first that applies, in this order (profile)
abbrev pub key_frame_fault : List ℕ → Option FrameFault
key_frame_fault octets =
    if nat_lt (length octets) 4 then Some (record { place = length octets; kind = Short })
    else if nat_lt (slice_index octets 0) 1 || nat_lt 3 (slice_index octets 0)
    then Some (record { place = 0; kind = PacketType })
    else if not (slice_index octets 1 == 3) then Some (record { place = 1; kind = PacketType })
    else if nat_lt (big_endian_at w16 2 octets) 95
    || nat_lt (length octets) (big_endian_at w16 2 octets + 4)
    then Some (record { place = 2; kind = BodyLength })
    else if not (slice_index octets 4 == 2) then Some (record { place = 4; kind = Descriptor })
    else if not (big_endian_at w16 97 octets + 95 == big_endian_at w16 2 octets)
    then Some (record { place = 97; kind = KeyDataLength })
    else None

-- the numbers of the kinds of faults, in reports (profile)
abbrev pub fault_code : FaultKind → ℕ
fault_code Short = 1
fault_code PacketType = 2
fault_code Descriptor = 3
fault_code BodyLength = 4
fault_code KeyDataLength = 5
