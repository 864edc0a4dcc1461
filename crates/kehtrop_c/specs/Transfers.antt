-- PMK-R1s that key holders give one another (IEEE Std 802.11-2020, 12.7.1.6, profile).
use Rattle.std.specs.Prelude.{◌≡◌, ℕ, ◌==◌, ◌&&◌, nat_le, Bool, List, take, Option, Some}
use Rattle.std.specs.List.{list_any}
use Rattle.domain_base.specs.declared.names.Mac.{Mac}
use Rattle.key_hierarchy.specs.declared.fast_transition.PmkR0.{PmkR0}
use Rattle.key_hierarchy.specs.FastTransition.{pmk_r0, pmk_r0_name, pmk_r1}
use Rattle.run_journal.specs.declared.domain.ListedSta.{ListedSta}
use Rattle.embedded_node.specs.declared.untaken.Untaken.{Untaken}
use Rattle.embedded_node.specs.declared.untaken.Untaken.TheVariants.{Unfit}
use Rattle.embedded_node.specs.Free.{is_id, is_same}
use Rattle.embedded_node.specs.Pushed.{given, other_of, push_fault}
use Rattle.kehtrop_c.specs.declared.crossing.Config.{Config}
use Rattle.kehtrop_c.specs.declared.crossing.R1Key.{R1Key}
use Rattle.kehtrop_c.specs.declared.inner.Role.{Role}
use Rattle.kehtrop_c.specs.declared.inner.Role.TheVariants.{Station, Ap}

-- the address of six octets
abbrev pub mac_of : List ℕ → Mac
mac_of octets = record { 0 = octets }

-- a key is made of these: the configuration is of suite 4 and has the name of a network, and the R0KH-ID is one
abbrev pub makes_r1 : Config → List ℕ → Bool
makes_r1 c id = (c.akm == 4 && (nat_le 1 c.ssid_len && nat_le c.ssid_len 32)) && is_id id

-- the PMK-R0 of a station at the key holder of that R0KH-ID (12.7.1.6.3)
abbrev pub r0_in : Config → List ℕ → List ℕ → List ℕ → PmkR0
r0_in c psk id station = pmk_r0 psk (take c.ssid_len c.ssid) c.mdid id (mac_of station)

-- the PMK-R1 that it makes for an access point (12.7.1.6.4)
abbrev pub r1_in : Config → List ℕ → List ℕ → List ℕ → List ℕ → R1Key
r1_in c psk id station address = record {
  key = (pmk_r1 (r0_in c psk id station) (mac_of address) (mac_of station)).key;
  r0_name = pmk_r0_name (r0_in c psk id station);
  station = station;
}

-- why it cannot be given, if it cannot: a station takes none
abbrev pub unpushed : Role → List ℕ → Mac → Option Untaken
unpushed (Station s) id sta = Some Unfit
unpushed (Ap a) id sta = push_fault (other_of a.holders id) (list_any (λ (s : ListedSta). is_same s.address sta) a.domain.stas)

-- the access point has that key of the holder of the R0KH-ID, in the place of the one that the same holder gave for the station before
abbrev pub IsGiven : Role → Role → List ℕ → R1Key → Type 0
IsGiven (Station s) new id k = ⊥
IsGiven (Ap a) (Station t) id k = ⊥
IsGiven (Ap a) (Ap b) id k = b.holders ≡ given id k.r0_name (mac_of k.station) k.key a.holders
