-- Which RSNE a peer may ask for (IEEE Std 802.11-2020, 9.4.1.9, 9.4.2.24, profile).
use Rattle.std.specs.Prelude.{ℕ, Bool, true, false, not, ◌==◌, List, Option, Some, None, bytes_eq, if◌then◌else◌}
use Rattle.std.specs.Int.{bit_at}
use Rattle.domain_base.specs.declared.names.Akm.{Akm}
use Rattle.rsn_elements.specs.Rsne.{RsneFields}
use Rattle.rsn_elements.specs.Sent.{akm_type}
use Rattle.rsn_elements.specs.Pieces.{suite}

-- it is there, and is the suite 00-0F-AC of this number alone (9.4.2.24.2, 9.4.2.24.3)
abbrev pub is_suite : ℕ → Option (List ℕ) → Bool
is_suite number None = false
is_suite number (Some octets) = bytes_eq octets (suite number)

-- CCMP-128, also where nothing is said
abbrev pub is_ccmp : Option (List ℕ) → Bool
is_ccmp None = true
is_ccmp (Some octets) = bytes_eq octets (suite 4)

-- BIP-CMAC-128, also where nothing is said (9.4.2.24.2)
abbrev pub is_bip : Option (List ℕ) → Bool
is_bip None = true
is_bip (Some octets) = bytes_eq octets (suite 6)

-- a bit of the capabilities, where they are there; where they are not, each is clear (9.4.2.24.4)
abbrev pub has_capability : ℕ → Option ℕ → Bool
has_capability bit None = false
has_capability bit (Some capabilities) = bit_at capabilities bit == 1

-- management frame protection is required: bit 6 (9.4.2.24.4)
abbrev pub requires_protection : Option ℕ → Bool
requires_protection = has_capability 6

-- management frame protection is possible: bit 7 (9.4.2.24.4)
abbrev pub is_protection_capable : Option ℕ → Bool
is_protection_capable = has_capability 7

-- the status with which an RSNE is refused for what it says of the protection of management frames. Where a network
-- protects them: 31 robust management frame policy violation, where bit 7 is clear, then 46 cipher suite rejected by
-- policy, where the group management cipher is another than BIP-CMAC-128; bit 6 is not looked at. Where it does not: 43,
-- where bit 6 is set (9.4.1.9, profile)
abbrev pub protection_status : Bool → RsneFields → Option ℕ
protection_status true r =
    if not (is_protection_capable r.capabilities) then Some 31
    else if not (is_bip r.management) then Some 46
    else None
protection_status false r = if requires_protection r.capabilities then Some 43 else None

-- the status with which a network of that AKM refuses an RSNE: 41 invalid group cipher, also where there is no RSNE, 42
-- invalid pairwise cipher, 43 invalid AKMP, then what it says of protection (9.4.1.9, profile)
abbrev pub rsne_status : Bool → Akm → Option RsneFields → Option ℕ
rsne_status protects akm None = Some 41
rsne_status protects akm (Some r) =
    if not (is_ccmp r.group) then Some 41
    else if not (is_ccmp r.pairwise) then Some 42
    else if not (is_suite (akm_type akm) r.akms) then Some 43
    else protection_status protects r
