-- Which nodes can be listed (profile).
use Rattle.std.specs.Prelude.{◌≡◌, ℕ, ◌==◌, ◌&&◌, ◌%◌, not, nat_le, Bool, true, if◌then◌else◌, List, [], ◌∷◌, length, slice_index, bytes_eq, Option, Some, None}
use Rattle.std.specs.List.{list_any}
use Rattle.domain_base.specs.declared.names.Mac.{Mac}
use Rattle.run_journal.specs.Limits.{most_aps, most_stas}
use Rattle.run_journal.specs.declared.domain.Domain.{Domain}
use Rattle.run_journal.specs.declared.domain.ListedAp.{ListedAp}
use Rattle.run_journal.specs.declared.domain.ListedSta.{ListedSta}
use Rattle.embedded_node.specs.declared.untaken.Untaken.{Untaken}
use Rattle.embedded_node.specs.declared.untaken.Untaken.TheVariants.{Unfit, Full, NoMemory}

-- an address of one node: neither zero nor a group's (IEEE Std 802.11-2020, 9.2.2)
abbrev pub is_single : List ℕ → Bool
is_single octets = not (bytes_eq octets (0 ∷ 0 ∷ 0 ∷ 0 ∷ 0 ∷ 0 ∷ [])) && slice_index octets 0 % 2 == 0

-- they are one address
abbrev pub is_same : Mac → Mac → Bool
is_same address other = bytes_eq address.0 other.0

-- a listed node has the address
abbrev pub is_used : Domain → Mac → Bool
is_used d address = if list_any (λ (a : ListedAp). is_same a.address address) d.aps then true else
    list_any (λ (s : ListedSta). is_same s.address address) d.stas

-- a listed access point has the R0KH-ID
abbrev pub is_used_id : Domain → List ℕ → Bool
is_used_id d r0kh_id = list_any (λ (a : ListedAp). bytes_eq a.r0kh_id r0kh_id) d.aps

-- the octets of an R0KH-ID: 1 to 48 (IEEE Std 802.11-2020, 9.4.2.47)
abbrev pub is_id : List ℕ → Bool
is_id r0kh_id = nat_le 1 (length r0kh_id) && nat_le (length r0kh_id) 48

-- why an access point cannot be listed so, if it cannot: the first cause
abbrev pub ap_fault : Domain → Mac → List ℕ → Option Untaken
ap_fault d address r0kh_id =
    if nat_le most_aps (length d.aps) then Some Full
    else if not (is_single address.0) then Some Unfit
    else if not (is_id r0kh_id) then Some Unfit
    else if is_used d address then Some Unfit
    else if is_used_id d r0kh_id then Some Unfit
    else None

-- the same of a station
abbrev pub sta_fault : Domain → Mac → Option Untaken
sta_fault d address =
    if nat_le most_stas (length d.stas) then Some Full
    else if not (is_single address.0) then Some Unfit
    else if is_used d address then Some Unfit
    else None

-- a call that was not taken had that cause; where it had none, memory ran out
abbrev pub IsCause : Option Untaken → Untaken → Type 0
IsCause fault Unfit = fault ≡ Some Unfit
IsCause fault Full = fault ≡ Some Full
IsCause fault NoMemory = fault ≡ None
