-- Why octets are no frame of the profile: the first fault in reading order. Of the codes outside the profile the least
-- that applies is given, but that code 20 stands after a short body (profile).
use Rattle.std.specs.Prelude.{ℕ, ◌+◌, List, length, drop, Option, Some, None, Bool, not, ◌==◌, ◌&&◌, ◌||◌, nat_eq, nat_lt, slice_index, if◌then◌else◌}
use Rattle.std.specs.Int.{bit_at}
use Rattle.std.specs.List.{starts_with}
use Rattle.air_frame.specs.declared.frame.AirFault.{AirFault}
use Rattle.air_frame.specs.declared.frame.AirFault.TheVariants.{Short, Version, OutOfProfile, Body}
use Rattle.air_frame.specs.Control.{protocol_version, frame_subtype, is_to_ds, is_from_ds, has_more_fragments, is_protected, has_ht_control, fragment_number, is_management, is_data, has_a_msdu, data_header_length, ends_in_mme, eapol_llc}

-- the octets of the fixed fields of a management frame; of an action frame to a group those of one octet and an MME
abbrev pub fixed_length : ℕ → ℕ
fixed_length subtype = if subtype == 0 then 4 else if subtype == 2 then 10 else if subtype == 13 then 19 else 6

-- an action frame to a group that does not end in an MME
abbrev pub lacks_mme : List ℕ → Bool
lacks_mme octets = frame_subtype octets == 13 && not (ends_in_mme (drop 24 octets))

-- the first fault of a management frame, in reading order, or none
abbrev pub management_fault : List ℕ → Option AirFault
management_fault octets =
    if nat_lt (length octets) 24 then Some (Short (length octets))
    else if is_to_ds octets || is_from_ds octets then Some (OutOfProfile 8)
    else if has_more_fragments octets then Some (OutOfProfile 10)
    else if is_protected octets then Some (OutOfProfile 14)
    else if has_ht_control octets then Some (OutOfProfile 15)
    else if not (fragment_number octets == 0) then Some (OutOfProfile 16)
    else if nat_lt (length octets) (24 + fixed_length (frame_subtype octets)) then Some (Body 24)
    else if lacks_mme octets then Some (Body 24)
    else None

-- the body begins with the LLC and SNAP header of EAPOL
abbrev pub begins_eapol : List ℕ → Bool
begins_eapol octets = starts_with nat_eq (drop (data_header_length octets) octets) eapol_llc

-- ExtIV is set in the CCMP header of a protected body
abbrev pub has_ext_iv : List ℕ → Bool
has_ext_iv octets = bit_at (slice_index octets (data_header_length octets + 3)) 5 == 1

-- the first fault of the body of a data frame, or none
abbrev pub body_fault : List ℕ → Option AirFault
body_fault octets =
    if not (is_protected octets) && not (begins_eapol octets) then Some (OutOfProfile 18)
    else if is_protected octets && nat_lt (length octets) (data_header_length octets + 16) then Some (Body (data_header_length octets))
    else if is_protected octets && not (has_ext_iv octets) then Some (OutOfProfile 20)
    else None

-- the first fault of a data frame, in reading order, or none
abbrev pub data_fault : List ℕ → Option AirFault
data_fault octets =
    if nat_lt (length octets) (data_header_length octets) then Some (Short (length octets))
    else if (is_to_ds octets && is_from_ds octets) || (not (is_to_ds octets) && not (is_from_ds octets)) then Some (OutOfProfile 8)
    else if has_more_fragments octets then Some (OutOfProfile 10)
    else if has_ht_control octets then Some (OutOfProfile 15)
    else if not (fragment_number octets == 0) then Some (OutOfProfile 16)
    else if has_a_msdu octets then Some (OutOfProfile 17)
    else body_fault octets

-- the first fault of octets in reading order, or none where they are a frame of the profile
abbrev pub air_fault : List ℕ → Option AirFault
air_fault octets =
    if nat_lt (length octets) 2 then Some (Short (length octets))
    else if not (protocol_version octets == 0) then Some Version
    else if is_management octets then management_fault octets
    else if is_data octets then data_fault octets
    else None
