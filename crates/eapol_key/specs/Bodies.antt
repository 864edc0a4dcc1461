-- Why octets with a header begin with no frame, from the length of the body on: the part of the order
-- of faults that is looked for by itself.
-- For the code alone: no public contract speaks of it.
use Rattle.std.specs.Prelude.{ℕ, ◌+◌, List, length, Option, Some, None, ◌||◌, ◌==◌, not, nat_lt, slice_index, if◌then◌else◌}
use Rattle.std.specs.Int.{w16}
use Rattle.domain_base.specs.Places.{big_endian_at}
use Rattle.eapol_key.specs.declared.frame.FaultKind.TheVariants.{BodyLength, Descriptor, KeyDataLength}
use Rattle.eapol_key.specs.declared.frame.FrameFault.{FrameFault}

-- the body, the descriptor type, the length of the key data
abbrev pub body_fault : List ℕ → Option FrameFault
body_fault octets =
    if nat_lt (big_endian_at w16 2 octets) 95
    || nat_lt (length octets) (big_endian_at w16 2 octets + 4)
    then Some (record { place = 2; kind = BodyLength })
    else if not (slice_index octets 4 == 2) then Some (record { place = 4; kind = Descriptor })
    else if not (big_endian_at w16 97 octets + 95 == big_endian_at w16 2 octets)
    then Some (record { place = 97; kind = KeyDataLength })
    else None
