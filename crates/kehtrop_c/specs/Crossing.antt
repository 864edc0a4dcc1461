-- What the numbers of `kehtrop.h` stand for (profile).
use Rattle.std.specs.Prelude.{◌≡◌, ◌≤◌, ℕ, suc, ◌==◌, ◌&&◌, nat_lt, nat_le, not, ◌||◌, Bool, true, if◌then◌else◌, List, [], ◌∷◌, length, take, Option, Some, None, is_some, option_map, bytes_eq}
use Rattle.domain_base.specs.declared.names.Akm.{Akm}
use Rattle.domain_base.specs.declared.names.Akm.TheVariants.{Psk, PskSha256, FtPsk}
use Rattle.domain_base.specs.declared.names.Node.{Node}
use Rattle.domain_base.specs.declared.names.Node.TheVariants.{Ap, Sta}
use Rattle.domain_base.specs.declared.names.Peer.{Peer}
use Rattle.domain_base.specs.declared.names.Peer.TheVariants.{One, All}
use Rattle.run_journal.specs.declared.domain.Domain.{Domain}
use Rattle.run_journal.specs.declared.domain.Extras.{Extras}
use Rattle.run_journal.specs.declared.domain.Version.TheVariants as version
use Rattle.run_journal.specs.declared.acts.Outcome.{Outcome}
use Rattle.run_journal.specs.declared.acts.Outcome.TheVariants.{Refused, Idle}
use Rattle.domain_rules.specs.Network.{draw_end, peer_of}
use Rattle.domain_rules.specs.Rows.{NodeEvent, Take, Begin, Roam, Retry, Rekey, Send, Expire, Revoke, Leave, Secret, Renew, Announce}
use Rattle.embedded_node.specs.declared.untaken.Untaken.{Untaken}
use Rattle.embedded_node.specs.declared.untaken.Untaken.TheVariants.{Unfit, Full, NoMemory}
use Rattle.embedded_node.specs.declared.header.Header.{Header}
use Rattle.embedded_node.specs.Free.{is_single, is_id}
use Rattle.embedded_node.specs.Headers.{mdid_by}
use Rattle.embedded_node.specs.Starts.{is_ssid}
use Rattle.kehtrop_c.specs.declared.crossing.Config.{Config}

-- ---- statuses

-- the status of an event that was done, by what came of it: REFUSED, IDLE or OK
abbrev pub status_of : Outcome → ℕ
status_of (Refused why) = 5
status_of (Idle why) = 6
status_of _ = 0

-- the status of a call that did nothing: UNFIT, FULL or NO_MEMORY
abbrev pub status_untaken : Untaken → ℕ
status_untaken Unfit = 2
status_untaken Full = 4
status_untaken NoMemory = 3

-- ---- events

-- the number of an access point that was found
abbrev pub ap_number : Option Node → Option ℕ
ap_number None = None
ap_number (Some (Ap k)) = Some k
ap_number (Some (Sta k)) = None

-- the number of a station that was found
abbrev pub sta_number : Option Node → Option ℕ
sta_number None = None
sta_number (Some (Ap k)) = None
sta_number (Some (Sta k)) = Some k

-- whom a payload goes to: all, by the broadcast address, or the node that was found
abbrev pub receiver : List ℕ → Option Node → Option Peer
receiver address peer =
    if bytes_eq address (255 ∷ 255 ∷ 255 ∷ 255 ∷ 255 ∷ 255 ∷ []) then Some All else option_map (λ n. One n) peer

-- a TID from 0 to 15; any other number is none (IEEE Std 802.11-2020, 9.2.4.5.2)
abbrev pub tid_of : ℕ → Option ℕ
tid_of number = if nat_lt number 16 then Some number else None

-- which stations have another key: all, by the broadcast address, or the station that was found
abbrev pub named : List ℕ → Option ℕ → Option (Option ℕ)
named address station =
    if bytes_eq address (255 ∷ 255 ∷ 255 ∷ 255 ∷ 255 ∷ 255 ∷ []) then Some None else option_map (λ k. Some k) station

-- another key of these stations: 32 octets
abbrev pub changing : Option (Option ℕ) → List ℕ → Option NodeEvent
changing stations octets = if length octets == 32 then option_map (λ s. Secret s octets) stations else None

-- the event of that number with that peer
abbrev pub event_with : ℕ → List ℕ → Option Node → ℕ → List ℕ → Option NodeEvent
event_with what address peer tid octets =
    if what == 1 then Some (Take octets)
    else if what == 2 then option_map (λ k. Begin k) (ap_number peer)
    else if what == 3 then option_map (λ k. Roam k) (ap_number peer)
    else if what == 4 then option_map (λ k. Retry k) (sta_number peer)
    else if what == 5 then Some Rekey
    else if what == 6 then option_map (λ q. Send q (tid_of tid) octets) (receiver address peer)
    else if what == 7 then option_map (λ k. Expire k) (sta_number peer)
    else if what == 8 then option_map (λ k. Revoke k) (sta_number peer)
    else if what == 9 then Some Leave
    else if what == 10 then changing (named address (sta_number peer)) octets
    else if what == 11 then option_map (λ k. Renew k) (sta_number peer)
    else if what == 12 then Some (Announce octets)
    else None

-- the event that is asked for of a node: the peer is the listed node of the other kind that has the address
abbrev pub asked : Domain → Node → ℕ → List ℕ → ℕ → List ℕ → Option NodeEvent
asked d n what address tid octets = event_with what address (peer_of d n address) tid octets

-- ---- configurations

-- the suite of that number (IEEE Std 802.11-2020, 9.4.2.24.3)
abbrev pub akm_of : ℕ → Option Akm
akm_of number =
    if number == 2 then Some Psk
    else if number == 6 then Some PskSha256
    else if number == 4 then Some FtPsk
    else None

-- a network of that suite can be one that protects management frames, or does not: with suite 2 it does not (profile)
abbrev pub has_mfp : ℕ → ℕ → Bool
has_mfp akm mfp = (mfp == 0) || not (akm == 2)

-- whether pairwise keys are renewed, the packet number at which an access point begins to renew one by itself, 0 for none,
-- and whether management frames are protected
abbrev pub extras_of : ℕ → ℕ → ℕ → Extras
extras_of renewals at mfp = record {
  version = if renewals == 0 then version.One else version.Two;
  renew_at = if at == 0 then None else Some at;
  mfp = not (mfp == 0);
}

-- the name of the network is not longer than its room, the suite is one, and with it management frames are protected or
-- not, as the configuration says
abbrev pub is_config : Config → Bool
is_config c = nat_le c.ssid_len 32 && has_mfp c.akm c.mfp && is_some (akm_of c.akm)

-- the number of the last draw of an access point as it starts: it draws a GTK, and an IGTK where management frames are
-- protected
abbrev pub last_of : Config → ℕ → ℕ
last_of c first = if not (c.mfp == 0) then suc first else first

-- a station can start so, from that draw on
abbrev pub can_station : Config → ℕ → Bool
can_station c first = is_config c && (nat_lt first draw_end && is_ssid (take c.ssid_len c.ssid) && is_single c.address)

-- an access point can
abbrev pub can_access_point : Config → List ℕ → ℕ → Bool
can_access_point c r0kh_id first =
    is_config c && (nat_lt first draw_end && is_ssid (take c.ssid_len c.ssid) && is_single c.address && is_id r0kh_id && nat_lt (last_of c first) draw_end)

-- what a node is told as it starts is what the configuration says
pub record IsHeaderOf (c : Config) (h : Header) : Type 0 where
  pub room : c.ssid_len ≤ 32
  pub mfp : has_mfp c.akm c.mfp ≡ true
  pub seed : h.seed.now ≡ c.seed
  pub ssid : h.ssid.now ≡ take c.ssid_len c.ssid
  pub akm : akm_of c.akm ≡ Some h.akm
  pub mdid : h.mdid ≡ c.mdid
  pub extras : h.extras ≡ extras_of c.renewals c.renew_at c.mfp

-- the network is that of the configuration
pub record IsNetworkOf (c : Config) (d : Domain) : Type 0 where
  pub seed : d.seed ≡ c.seed
  pub ssid : d.ssid ≡ take c.ssid_len c.ssid
  pub akm : akm_of c.akm ≡ Some d.akm
  pub mdid : d.mdid ≡ mdid_by d.akm c.mdid
  pub extras : d.extras ≡ extras_of c.renewals c.renew_at c.mfp
