-- The order of a network's nodes, and whom a frame is for (profile).
use Rattle.std.specs.Prelude.{ℕ, zero, suc, ◌+◌, ◌-◌, List, [], ◌∷◌, ◌++◌, length, Option, Some, None, if◌then◌else◌, nat_lt, position, bytes_eq}
use Rattle.domain_base.specs.declared.names.Node.{Node}
use Rattle.domain_base.specs.declared.names.Node.TheVariants.{Ap, Sta}
use Rattle.domain_base.specs.Places.{part}
use Rattle.run_journal.specs.declared.domain.Domain.{Domain}
use Rattle.run_journal.specs.declared.domain.ListedAp.{ListedAp}
use Rattle.run_journal.specs.declared.domain.ListedSta.{ListedSta}
use Rattle.run_journal.specs.Addresses.{is_group}
use Rattle.domain_links.specs.declared.node_order.Receiver.{Receiver}
use Rattle.domain_links.specs.declared.node_order.Receiver.TheVariants.{Stations, One, Nobody}

-- how many nodes are listed
abbrev pub count : Domain → ℕ
count d = length d.aps + length d.stas

-- the node at a place, from 0: access points, then stations
abbrev pub node_at : Domain → ℕ → Node
node_at d i = if nat_lt i (length d.aps) then Ap i else Sta (i - length d.aps)

-- where a listed node stands in that order
abbrev pub place_of : Domain → Node → ℕ
place_of d (Ap n) = n
place_of d (Sta n) = length d.aps + n

-- the first stations, in order
unfoldable pub stations : ℕ → List Node
stations zero = []
stations (suc n) = stations n ++ Sta n ∷ []

-- of two places, that of an access point goes before (IEEE Std 802.11-2020, 9.2.4.3, 9.2.4.3.4)
abbrev pub found_at : Option ℕ → Option ℕ → Receiver
found_at (Some i) sta = One (Ap i)
found_at None (Some i) = One (Sta i)
found_at None None = Nobody

-- the first listed node that has this address (IEEE Std 802.11-2020, 9.2.4.3, 9.2.4.3.4)
abbrev pub with_address : Domain → List ℕ → Receiver
with_address d address =
    found_at (position (λ (a : ListedAp). bytes_eq a.address.0 address) d.aps) (position (λ (s : ListedSta). bytes_eq s.address.0 address) d.stas)

-- whom address 1 of a frame names: a group's every station, else the node that has it. Octets that are too few to have
-- an address 1 are for nobody (IEEE Std 802.11-2020, 9.2.4.3.4)
abbrev pub receiver_of : Domain → List ℕ → Receiver
receiver_of d octets =
    if nat_lt (length octets) 10 then Nobody
    else if is_group (part 4 6 octets) then Stations
    else with_address d (part 4 6 octets)

-- the nodes among them, in order (IEEE Std 802.11-2020, 9.2.4.3, 9.2.4.3.4)
abbrev pub nodes_of : Domain → Receiver → List Node
nodes_of d Stations = stations (length d.stas)
nodes_of d (One node) = node ∷ []
nodes_of d Nobody = []
