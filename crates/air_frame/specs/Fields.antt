-- What air frames say, and where they say it (IEEE Std 802.11-2020, 9.3.2, 9.3.3).
use Rattle.std.specs.Prelude.{ℕ, ◌+◌, List, take, drop, Option, Some, None, not, ◌==◌, if◌then◌else◌}
use Rattle.std.specs.Int.{w16}
use Rattle.domain_base.specs.Places.{part, little_endian_at}
use Rattle.air_frame.specs.declared.frame.Direction.{Direction}
use Rattle.air_frame.specs.declared.frame.Direction.TheVariants.{ToDs, FromDs}
use Rattle.air_frame.specs.Control.{frame_subtype, is_management, is_data, is_protected, is_to_ds, is_qos, traffic_identifier, data_header_length}

-- a header: its octets, and of these the three addresses
pub record HeaderFields : Type 0 where
  pub octets : List ℕ
  pub a1 : List ℕ
  pub a2 : List ℕ
  pub a3 : List ℕ

-- a frame, without where it lies in memory
pub data AirFields : Type 0 where
  assoc_req : (header : HeaderFields) (capability listen_interval : ℕ) (elements : List ℕ) → AirFields
  assoc_resp : (header : HeaderFields) (capability status aid : ℕ) (elements : List ℕ) → AirFields
  ft_req : (header : HeaderFields) (status : ℕ) (elements : List ℕ) → AirFields
  ft_resp : (header : HeaderFields) (status : ℕ) (elements : List ℕ) → AirFields
  re_req : (header : HeaderFields) (capability listen_interval : ℕ) (current_ap elements : List ℕ) → AirFields
  re_resp : (header : HeaderFields) (capability status aid : ℕ) (elements : List ℕ) → AirFields
  action : (header : HeaderFields) (body : List ℕ) → AirFields
  eapol : (header : HeaderFields) (direction : Direction) (tid : Option ℕ) (octets : List ℕ) → AirFields
  protected : (header : HeaderFields) (direction : Direction) (tid : Option ℕ) (body : List ℕ) → AirFields
  ignored : AirFields

-- the header of a frame that is not passed over
abbrev pub header_in : AirFields → Option HeaderFields
header_in (assoc_req header capability listen_interval elements) = Some header
header_in (assoc_resp header capability status aid elements) = Some header
header_in (ft_req header status elements) = Some header
header_in (ft_resp header status elements) = Some header
header_in (re_req header capability listen_interval current_ap elements) = Some header
header_in (re_resp header capability status aid elements) = Some header
header_in (action header body) = Some header
header_in (eapol header direction tid octets) = Some header
header_in (protected header direction tid body) = Some header
header_in ignored = None

-- a header of that many octets (9.2.3)
abbrev pub header_at : ℕ → List ℕ → HeaderFields
header_at size octets = record {
  octets = take size octets;
  a1 = part 4 6 octets;
  a2 = part 10 6 octets;
  a3 = part 16 6 octets;
}

-- association request: capability, listen interval, elements (9.3.3.5)
abbrev pub assoc_req_at : List ℕ → AirFields
assoc_req_at octets =
    assoc_req (header_at 24 octets) (little_endian_at w16 24 octets) (little_endian_at w16 26 octets) (drop 28 octets)

-- association response: capability, status, AID, elements (9.3.3.6)
abbrev pub assoc_resp_at : List ℕ → AirFields
assoc_resp_at octets =
    assoc_resp (header_at 24 octets) (little_endian_at w16 24 octets) (little_endian_at w16 26 octets) (little_endian_at w16 28 octets) (drop 30 octets)

-- reassociation request: capability, listen interval, current AP address, elements (9.3.3.7)
abbrev pub re_req_at : List ℕ → AirFields
re_req_at octets =
    re_req (header_at 24 octets) (little_endian_at w16 24 octets) (little_endian_at w16 26 octets) (part 28 6 octets) (drop 34 octets)

-- reassociation response: as the association response (9.3.3.8)
abbrev pub re_resp_at : List ℕ → AirFields
re_resp_at octets =
    re_resp (header_at 24 octets) (little_endian_at w16 24 octets) (little_endian_at w16 26 octets) (little_endian_at w16 28 octets) (drop 30 octets)

-- authentication: algorithm, transaction sequence number, status, elements (9.3.3.11)
abbrev pub algorithm : List ℕ → ℕ
algorithm octets = little_endian_at w16 24 octets

abbrev pub transaction : List ℕ → ℕ
transaction octets = little_endian_at w16 26 octets

abbrev pub ft_req_at : List ℕ → AirFields
ft_req_at octets = ft_req (header_at 24 octets) (little_endian_at w16 28 octets) (drop 30 octets)

abbrev pub ft_resp_at : List ℕ → AirFields
ft_resp_at octets = ft_resp (header_at 24 octets) (little_endian_at w16 28 octets) (drop 30 octets)

-- action to a group: its body, which ends in an MME (9.3.3.13, 12.5.4.2)
abbrev pub action_at : List ℕ → AirFields
action_at octets = action (header_at 24 octets) (drop 24 octets)

-- data: which way it goes, its TID where it is QoS data, and its body (9.3.2.1)
abbrev pub direction_at : List ℕ → Direction
direction_at octets = if is_to_ds octets then ToDs else FromDs

abbrev pub tid_at : List ℕ → Option ℕ
tid_at octets = if is_qos octets then Some (traffic_identifier octets) else None

abbrev pub eapol_at : List ℕ → AirFields
eapol_at octets =
    eapol (header_at (data_header_length octets) octets) (direction_at octets) (tid_at octets) (drop (data_header_length octets + 8) octets)

abbrev pub protected_at : List ℕ → AirFields
protected_at octets =
    protected (header_at (data_header_length octets) octets) (direction_at octets) (tid_at octets) (drop (data_header_length octets) octets)

-- what octets say that are a frame of the profile, by their kind (9.3, profile)
abbrev pub authentication_at : List ℕ → AirFields
authentication_at octets =
    if not (algorithm octets == 2) then ignored
    else if transaction octets == 1 then ft_req_at octets
    else if transaction octets == 2 then ft_resp_at octets
    else ignored

-- what the octets of a management frame say, by its subtype (9.3, profile)
abbrev pub management_at : List ℕ → AirFields
management_at octets =
    if frame_subtype octets == 0 then assoc_req_at octets
    else if frame_subtype octets == 1 then assoc_resp_at octets
    else if frame_subtype octets == 2 then re_req_at octets
    else if frame_subtype octets == 3 then re_resp_at octets
    else if frame_subtype octets == 13 then action_at octets
    else authentication_at octets

-- what the octets of a data frame say (9.3, profile)
abbrev pub data_at : List ℕ → AirFields
data_at octets = if is_protected octets then protected_at octets else eapol_at octets

-- what octets say that are a frame of the profile (9.3, profile)
unfoldable pub air_at : List ℕ → AirFields
air_at octets =
    if is_management octets then management_at octets
    else if is_data octets then data_at octets
    else ignored
