-- The network: addresses, what is drawn, and what keys are made of. A node draws no more where the number of its next
-- draw is 2^60: the number with which it began and its draws since (profile).
use Rattle.std.specs.Prelude.{ℕ, ◌≡◌, ◌≢◌, ◌≤◌, ◌%◌, Bool, true, false, ◌&&◌, ◌==◌, List, [], ◌∷◌, ◌++◌, length, slice_index, Option, Some, None, option_map, unwrap_or, slice_get, position, bytes_eq, codes}
use Rattle.std.specs.List.{AllByRecursion}
use Rattle.std.specs.Int.{w64, to_be_bytes}
use Rattle.domain_base.specs.declared.names.Akm.{Akm}
use Rattle.domain_base.specs.declared.names.Akm.TheVariants.{FtPsk}
use Rattle.domain_base.specs.declared.names.Mac.{Mac}
use Rattle.domain_base.specs.declared.names.Node.{Node}
use Rattle.domain_base.specs.declared.names.Node.TheVariants.{Ap, Sta}
use Rattle.air_frame.specs.declared.frame.Direction.{Direction}
use Rattle.air_frame.specs.declared.frame.Direction.TheVariants.{ToDs, FromDs}
use Rattle.mac_prf.specs.Prf.{kdf}
use Rattle.key_hierarchy.specs.declared.inputs.Inputs.{Inputs}
use Rattle.run_journal.specs.declared.domain.Domain.{Domain}
use Rattle.run_journal.specs.declared.domain.ListedAp.{ListedAp}
use Rattle.run_journal.specs.declared.domain.ListedSta.{ListedSta}
pub use Rattle.run_journal.specs.Events.{has_renewals, renews}
use Rattle.run_journal.specs.Limits.{most_aps, most_stas}

-- a node's address: an access point's is its BSSID
abbrev pub mac : Domain → Node → Mac
mac d (Ap k) = unwrap_or (option_map (λ (a : ListedAp). a.address) (slice_get d.aps k)) (record { 0 = [] })
mac d (Sta k) = unwrap_or (option_map (λ (s : ListedSta). s.address) (slice_get d.stas k)) (record { 0 = [] })

-- the six octets of a node's address
abbrev pub address : Domain → Node → List ℕ
address d n = (mac d n).0

-- the first listed node of the other kind that has this address
abbrev pub peer_of : Domain → Node → List ℕ → Option Node
peer_of d (Ap k) octets = option_map (λ i. Sta i) (position (λ (s : ListedSta). bytes_eq s.address.0 octets) d.stas)
peer_of d (Sta k) octets = option_map (λ i. Ap i) (position (λ (a : ListedAp). bytes_eq a.address.0 octets) d.aps)

-- the node is an access point (IEEE Std 802.11-2020, 9.2.4.1.4)
abbrev pub is_ap : Node → Bool
is_ap (Ap k) = true
is_ap (Sta k) = false

-- the way in which a node sends data, to or from the distribution system (IEEE Std 802.11-2020, 9.2.4.1.4)
abbrev pub direction : Node → Direction
direction (Ap k) = FromDs
direction (Sta k) = ToDs

-- two frames go the same way (IEEE Std 802.11-2020, 9.2.4.1.4)
abbrev pub goes_like : Direction → Direction → Bool
goes_like ToDs ToDs = true
goes_like FromDs FromDs = true
goes_like ToDs FromDs = false
goes_like FromDs ToDs = false

-- of a node and its peer, the access point's BSSID
abbrev pub bssid : Domain → Node → Node → List ℕ
bssid d (Ap k) p = address d (Ap k)
bssid d (Sta k) p = address d p

-- the n-th value that a node draws, from 0: a nonce. Compare IEEE Std 802.11-2020, 12.7.5 and J.5
unfoldable pub nonce : Domain → Node → ℕ → List ℕ
nonce d n i = kdf d.seed (codes "Init Counter") (address d n ++ to_be_bytes w64 i) 32

-- the n-th value that a node draws, as a group key
unfoldable pub gtk : Domain → Node → ℕ → List ℕ
gtk d n i = kdf d.seed (codes "Group key expansion") (address d n ++ to_be_bytes w64 i) 16

-- the number of draws at which a node draws no more: 2^60
abbrev pub draw_end : ℕ
draw_end = 1152921504606846976

-- this is the packet number at which an access point begins to renew a pairwise key without being asked, where there is
-- one (profile)
abbrev pub is_number : Option ℕ → ℕ → Bool
is_number None number = false
is_number (Some at) number = at == number

-- an access point that uses that packet number of a pairwise key begins to renew the key without being asked (profile)
abbrev pub renews_at : Domain → ℕ → Bool
renews_at d number = renews d && is_number d.extras.renew_at number

-- the R0KH-ID of an access point
abbrev pub r0kh_id : Domain → Node → List ℕ
r0kh_id d (Ap k) = unwrap_or (option_map (λ (a : ListedAp). a.r0kh_id) (slice_get d.aps k)) []
r0kh_id d (Sta k) = []

-- the first listed access point that has this R0KH-ID
abbrev pub holder_of : Domain → List ℕ → Option Node
holder_of d id = option_map (λ i. Ap i) (position (λ (a : ListedAp). bytes_eq a.r0kh_id id) d.aps)

-- the pre-shared key of a station
abbrev pub psk_of : Domain → Node → List ℕ
psk_of d (Ap k) = []
psk_of d (Sta k) = unwrap_or (option_map (λ (s : ListedSta). s.psk) (slice_get d.stas k)) []

-- of a node and its peer, the one that is the station
abbrev pub station_of : Node → Node → Node
station_of (Ap k) p = p
station_of (Sta k) p = Sta k

-- what the pairwise keys of a station go back to: its pre-shared key, its mobility domain, and the R0KH-ID of its first
-- association (IEEE Std 802.11-2020, 12.7.1.3, 12.7.1.6)
pub record Root : Type 0 where
  pub psk : List ℕ
  pub mdid : List ℕ
  pub r0kh_id : List ℕ

-- with suites 2 and 6: the pre-shared key of station s, and neither mobility domain nor R0KH-ID (IEEE Std 802.11-2020,
-- 12.7.1.3, 12.7.1.6)
abbrev pub root : Domain → Node → Root
root d s = record { psk = psk_of d s; mdid = 0 ∷ 0 ∷ []; r0kh_id = [] }

-- with suite 4 the network's mobility domain and an R0KH-ID too (IEEE Std 802.11-2020, 12.7.1.6.3)
abbrev pub root_by : Akm → Domain → Node → List ℕ → Root
root_by FtPsk d s id = record { psk = psk_of d s; mdid = d.mdid; r0kh_id = id }
root_by _ d s id = root d s

-- what the pairwise key of a station goes back to: its pre-shared key, and with suite 4 the network's mobility domain
-- and an R0KH-ID (IEEE Std 802.11-2020, 12.7.1.3, 12.7.1.6)
abbrev pub root_at : Domain → Node → List ℕ → Root
root_at d s id = root_by d.akm d s id

-- what the pairwise key of a node with its peer is made of, by its root, its own nonce and the other's (IEEE Std
-- 802.11-2020, 12.7.1.3, 12.7.1.6)
abbrev pub inputs : Domain → Root → Node → Node → List ℕ → List ℕ → Inputs
inputs d r (Ap k) p own other = record {
  akm = d.akm;
  psk = r.psk;
  ssid = d.ssid;
  mdid = r.mdid;
  r0kh_id = r.r0kh_id;
  aa = mac d (Ap k);
  spa = mac d p;
  anonce = own;
  snonce = other;
}
inputs d r (Sta k) p own other = record {
  akm = d.akm;
  psk = r.psk;
  ssid = d.ssid;
  mdid = r.mdid;
  r0kh_id = r.r0kh_id;
  aa = mac d p;
  spa = mac d (Sta k);
  anonce = other;
  snonce = own;
}

-- and by an R0KH-ID: the station among the two says the rest of the root (IEEE Std 802.11-2020, 12.7.1.3, 12.7.1.6)
abbrev pub inputs_at : Domain → Node → Node → List ℕ → List ℕ → List ℕ → Inputs
inputs_at d n p id own other = inputs d (root_at d (station_of n p) id) n p own other

-- six octets that are an address of one node: neither zero nor a group's
abbrev pub IsUnicast : List ℕ → Type 0
IsUnicast octets = (octets ≢ 0 ∷ 0 ∷ 0 ∷ 0 ∷ 0 ∷ 0 ∷ []) × (slice_index octets 0 % 2 ≡ 0)

-- the address is in neither list
pub record IsNew (aps : List ListedAp) (stas : List ListedSta) (address : Mac) : Type 0 where
  pub no_ap : AllByRecursion (λ (a : ListedAp). a.address ≢ address) aps
  pub no_sta : AllByRecursion (λ (s : ListedSta). s.address ≢ address) stas

-- addresses are of one node each and differ, R0KH-IDs have 1 to 48 octets and differ
abbrev pub AreAps : List ListedAp → Type 0
AreAps [] = Unit {0}
AreAps (a ∷ aps) = IsUnicast a.address.0 × (1 ≤ length a.r0kh_id) × (length a.r0kh_id ≤ 48) × AllByRecursion (λ (b : ListedAp). b.address ≢ a.address) aps
    × AllByRecursion (λ (b : ListedAp). b.r0kh_id ≢ a.r0kh_id) aps × AreAps aps

-- such stations after such access points
abbrev pub AreStas : List ListedAp → List ListedSta → Type 0
AreStas aps [] = Unit {0}
AreStas aps (s ∷ stas) = IsUnicast s.address.0 × IsNew aps stas s.address × AreStas aps stas

-- listed nodes are told apart: addresses are of one node each and all differ, and so do R0KH-IDs. There may be any number of
-- nodes
pub record IsNamed (d : Domain) : Type 0 where
  pub aps : AreAps d.aps
  pub stas : AreStas d.aps d.stas

-- a network in form: an SSID of 1 to 32 octets, nodes that are told apart, and not too many of them (`Limits`)
pub record InForm (d : Domain) : Type 0 where
  pub some : 1 ≤ length d.ssid
  pub few : length d.ssid ≤ 32
  pub aps : AreAps d.aps
  pub stas : AreStas d.aps d.stas
  pub few_aps : length d.aps ≤ most_aps
  pub few_stas : length d.stas ≤ most_stas
