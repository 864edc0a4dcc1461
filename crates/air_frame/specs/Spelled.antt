-- Which octets are which air frame (IEEE Std 802.11-2020, 9.3.2, 9.3.3, profile).
use Rattle.std.specs.Prelude.{◌≡◌, ◌≢◌, ◌⊎◌, ℕ, ◌+◌, ◌≤◌, List, length, drop, true, false, not, slice_index}
use Rattle.std.specs.Int.{bit_at}
use Rattle.domain_base.specs.Octets.{AreOctets}
use Rattle.domain_base.specs.Places.{part}
use Rattle.air_frame.specs.Control.{protocol_version, frame_type, frame_subtype, is_to_ds, is_from_ds, has_more_fragments, is_protected, has_ht_control, fragment_number, is_to_group, is_management, is_data, has_a_msdu, data_header_length, ends_in_mme, eapol_llc}
use Rattle.air_frame.specs.Fields.{AirFields, assoc_req, assoc_resp, ft_req, ft_resp, re_req, re_resp, action, eapol, protected, ignored, assoc_req_at, assoc_resp_at, ft_req_at, ft_resp_at, re_req_at, re_resp_at, action_at, eapol_at, protected_at, algorithm, transaction}

-- one fragment that is the whole frame, with no HT Control field (9.3, 12.5.3.2, profile)
pub record IsWhole (octets : List ℕ) : Type 0 where
  pub last : has_more_fragments octets ≡ false
  pub first : fragment_number octets ≡ 0
  pub no_ht_control : has_ht_control octets ≡ false

-- a management frame of that subtype, unprotected, with at least that many octets after the header (9.3, 12.5.3.2,
-- profile)
pub record IsManagement (octets : List ℕ) (subtype fixed : ℕ) : Type 0 where
  pub version : protocol_version octets ≡ 0
  pub management : frame_type octets ≡ 0
  pub kind : frame_subtype octets ≡ subtype
  pub not_to_ds : is_to_ds octets ≡ false
  pub not_from_ds : is_from_ds octets ≡ false
  pub unprotected : is_protected octets ≡ false
  pub whole : IsWhole octets
  pub long : 24 + fixed ≤ length octets

-- an authentication frame of a fast transition (algorithm 2), of that transaction sequence number (9.4.1.1)
pub record IsFtAuthentication (octets : List ℕ) (number : ℕ) : Type 0 where
  pub authentication : IsManagement octets 11 6
  pub ft : algorithm octets ≡ 2
  pub sequence : transaction octets ≡ number

-- an action frame to a group, with a body of one octet at least before the MME in which it ends (9.3.3.13, 12.5.4.2,
-- profile)
pub record IsGroupAction (octets : List ℕ) : Type 0 where
  pub frame : IsManagement octets 13 19
  pub group : is_to_group octets ≡ true
  pub mme : ends_in_mme (drop 24 octets) ≡ true

-- data or QoS data that goes one way, with at least that many octets after the header, no A-MSDU (9.3, 12.5.3.2,
-- profile)
pub record IsData (octets : List ℕ) (least : ℕ) : Type 0 where
  pub version : protocol_version octets ≡ 0
  pub kind : is_data octets ≡ true
  pub one_way : is_from_ds octets ≡ not (is_to_ds octets)
  pub whole : IsWhole octets
  pub one_msdu : has_a_msdu octets ≡ false
  pub long : data_header_length octets + least ≤ length octets

-- an EAPOL frame in unprotected data (9.3, 12.5.3.2, profile)
pub record IsEapolData (octets : List ℕ) : Type 0 where
  pub frame : IsData octets 8
  pub unprotected : is_protected octets ≡ false
  pub llc : part (data_header_length octets) 8 octets ≡ eapol_llc

-- a protected body: CCMP header, with the bit ExtIV set, and MIC at least (12.5.3.2)
pub record IsProtectedData (octets : List ℕ) : Type 0 where
  pub frame : IsData octets 16
  pub covered : is_protected octets ≡ true
  pub ext_iv : bit_at (slice_index octets (data_header_length octets + 3)) 5 ≡ 1

-- frames of other types and subtypes, whatever follows the Frame Control field (9.3, 12.5.3.2, profile)
pub record IsOther (octets : List ℕ) : Type 0 where
  pub long : 2 ≤ length octets
  pub version : protocol_version octets ≡ 0
  pub not_management : is_management octets ≡ false
  pub not_data : is_data octets ≡ false

-- authentication other than the request and the response of a fast transition (9.3, 12.5.3.2, profile)
pub record IsOtherAuthentication (octets : List ℕ) : Type 0 where
  pub authentication : IsManagement octets 11 6
  pub other : (algorithm octets ≢ 2) ⊎ ((transaction octets ≢ 1) × (transaction octets ≢ 2))

-- the octets are this frame: the fields, each where the table of its kind has it, and the tests (9.3, 12.5.3.2,
-- profile)
abbrev pub SpellsAir : List ℕ → AirFields → Type 0
SpellsAir octets (assoc_req header capability listen_interval elements) =
    (assoc_req header capability listen_interval elements ≡ assoc_req_at octets) × IsManagement octets 0 4
SpellsAir octets (assoc_resp header capability status aid elements) =
    (assoc_resp header capability status aid elements ≡ assoc_resp_at octets) × IsManagement octets 1 6
SpellsAir octets (re_req header capability listen_interval current_ap elements) =
    (re_req header capability listen_interval current_ap elements ≡ re_req_at octets) × IsManagement octets 2 10
SpellsAir octets (re_resp header capability status aid elements) =
    (re_resp header capability status aid elements ≡ re_resp_at octets) × IsManagement octets 3 6
SpellsAir octets (ft_req header status elements) =
    (ft_req header status elements ≡ ft_req_at octets) × IsFtAuthentication octets 1
SpellsAir octets (ft_resp header status elements) =
    (ft_resp header status elements ≡ ft_resp_at octets) × IsFtAuthentication octets 2
SpellsAir octets (action header body) =
    (action header body ≡ action_at octets) × IsGroupAction octets
SpellsAir octets (eapol header direction tid body) =
    (eapol header direction tid body ≡ eapol_at octets) × IsEapolData octets
SpellsAir octets (protected header direction tid body) =
    (protected header direction tid body ≡ protected_at octets) × IsProtectedData octets
SpellsAir octets ignored = IsOther octets ⊎ IsOtherAuthentication octets

-- some octets are this frame (profile)
pub record IsSpelled (frame : AirFields) : Type 0 where
  pub octets : List ℕ
  pub bound : AreOctets octets
  pub spelled : SpellsAir octets frame
