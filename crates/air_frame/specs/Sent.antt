-- Frames as they are sent, octet by octet (IEEE Std 802.11-2020, 9.3, profile).
use Rattle.std.specs.Prelude.{◌≡◌, length, ℕ, ◌+◌, ◌*◌, List, [], ◌∷◌, ◌++◌, Bool, true, false, Option, Some, None, if◌then◌else◌}
use Rattle.std.specs.Int.{w16, to_le_bytes}
use Rattle.air_frame.specs.declared.frame.Direction.{Direction}
use Rattle.air_frame.specs.declared.frame.Direction.TheVariants.{ToDs, FromDs}
use Rattle.air_frame.specs.Control.{eapol_llc}
use Rattle.air_frame.specs.Fields.{HeaderFields, AirFields, assoc_req, assoc_resp, ft_req, ft_resp, re_req, re_resp, action, eapol, protected, ignored}

-- the octets of a frame: its header, its fixed fields, low octet first, and what is after them (9.3)
abbrev pub air_octets : AirFields → List ℕ
air_octets (assoc_req header capability listen_interval elements) =
    header.octets ++ (to_le_bytes w16 capability ++ (to_le_bytes w16 listen_interval ++ elements))
air_octets (assoc_resp header capability status aid elements) =
    header.octets ++ (to_le_bytes w16 capability ++ (to_le_bytes w16 status ++ (to_le_bytes w16 aid ++ elements)))
air_octets (re_req header capability listen_interval current_ap elements) =
    header.octets ++ (to_le_bytes w16 capability ++ (to_le_bytes w16 listen_interval ++ (current_ap ++ elements)))
air_octets (re_resp header capability status aid elements) =
    header.octets ++ (to_le_bytes w16 capability ++ (to_le_bytes w16 status ++ (to_le_bytes w16 aid ++ elements)))
air_octets (ft_req header status elements) =
    header.octets ++ (to_le_bytes w16 2 ++ (to_le_bytes w16 1 ++ (to_le_bytes w16 status ++ elements)))
air_octets (ft_resp header status elements) =
    header.octets ++ (to_le_bytes w16 2 ++ (to_le_bytes w16 2 ++ (to_le_bytes w16 status ++ elements)))
air_octets (action header body) = header.octets ++ body
air_octets (eapol header direction tid octets) = header.octets ++ (eapol_llc ++ octets)
air_octets (protected header direction tid body) = header.octets ++ body
air_octets ignored = []

-- A header as it is sent: no bit of the Frame Control field but those named, duration and sequence control zero
-- (profile).
abbrev pub header_octets : ℕ → ℕ → List ℕ → List ℕ → List ℕ → List ℕ → List ℕ
header_octets first second a1 a2 a3 qos_control = first ∷ second ∷ 0 ∷ 0 ∷ (a1 ++ (a2 ++ (a3 ++ (0 ∷ 0 ∷ qos_control))))

-- type 0, and the subtype in bits 4 to 7 (9.2.4.1.3)
abbrev pub management_header_octets : ℕ → List ℕ → List ℕ → List ℕ → List ℕ
management_header_octets subtype a1 a2 a3 = header_octets (16 * subtype) 0 a1 a2 a3 []

-- To DS is bit 8, From DS bit 9 and Protected Frame bit 14, so bits 0, 1 and 6 of the second octet (9.2.4.1.4,
-- 9.2.4.1.9)
abbrev pub data_flags : Direction → Bool → ℕ
data_flags ToDs covered = 1 + (if covered then 64 else 0)
data_flags FromDs covered = 2 + (if covered then 64 else 0)

-- type 2: subtype 0, or with a TID subtype 8 and the QoS Control field (9.2.4.1.3, 9.2.4.5.2)
abbrev pub data_header_octets : Direction → Bool → Option ℕ → List ℕ → List ℕ → List ℕ → List ℕ
data_header_octets direction covered None a1 a2 a3 = header_octets 0x08 (data_flags direction covered) a1 a2 a3 []
data_header_octets direction covered (Some tid) a1 a2 a3 = header_octets 0x88 (data_flags direction covered) a1 a2 a3 (tid ∷ 0 ∷ [])

-- The frames as they are sent: capability 0x0011, listen interval 10 (9.3.3.5, profile).
abbrev pub assoc_req_octets : List ℕ → List ℕ → List ℕ → List ℕ → List ℕ
assoc_req_octets a1 a2 a3 elements = management_header_octets 0 a1 a2 a3 ++ (0x11 ∷ 0x00 ∷ 0x0a ∷ 0x00 ∷ elements)

-- an association response: capability, status, AID, elements (9.3.3.6, profile)
abbrev pub assoc_resp_octets : List ℕ → List ℕ → List ℕ → ℕ → ℕ → List ℕ → List ℕ
assoc_resp_octets a1 a2 a3 status aid elements =
    management_header_octets 1 a1 a2 a3 ++ (0x11 ∷ 0x00 ∷ (to_le_bytes w16 status ++ (to_le_bytes w16 aid ++ elements)))

-- a reassociation request: capability, listen interval, the address of the current access point, elements (9.3.3.7,
-- profile)
abbrev pub re_req_octets : List ℕ → List ℕ → List ℕ → List ℕ → List ℕ → List ℕ
re_req_octets a1 a2 a3 current_ap elements =
    management_header_octets 2 a1 a2 a3 ++ (0x11 ∷ 0x00 ∷ 0x0a ∷ 0x00 ∷ (current_ap ++ elements))

-- a reassociation response: capability, status, AID, elements (9.3.3.8, profile)
abbrev pub re_resp_octets : List ℕ → List ℕ → List ℕ → ℕ → ℕ → List ℕ → List ℕ
re_resp_octets a1 a2 a3 status aid elements =
    management_header_octets 3 a1 a2 a3 ++ (0x11 ∷ 0x00 ∷ (to_le_bytes w16 status ++ (to_le_bytes w16 aid ++ elements)))

-- algorithm 2, transaction sequence number 1, status 0 (9.3.3.11, profile)
abbrev pub ft_req_octets : List ℕ → List ℕ → List ℕ → List ℕ → List ℕ
ft_req_octets a1 a2 a3 elements =
    management_header_octets 11 a1 a2 a3 ++ (0x02 ∷ 0x00 ∷ 0x01 ∷ 0x00 ∷ 0x00 ∷ 0x00 ∷ elements)

-- algorithm 2, transaction sequence number 2 (9.3.3.11, profile)
abbrev pub ft_resp_octets : List ℕ → List ℕ → List ℕ → ℕ → List ℕ → List ℕ
ft_resp_octets a1 a2 a3 status elements =
    management_header_octets 11 a1 a2 a3 ++ (0x02 ∷ 0x00 ∷ 0x02 ∷ 0x00 ∷ (to_le_bytes w16 status ++ elements))

-- an action frame with its body, which ends in an MME (9.3.3.13, profile)
abbrev pub action_octets : List ℕ → List ℕ → List ℕ → List ℕ → List ℕ
action_octets a1 a2 a3 body = management_header_octets 13 a1 a2 a3 ++ body

-- a data frame with an EAPOL frame after its LLC and SNAP header (9.3.2.1, profile)
abbrev pub eapol_data_octets : Direction → List ℕ → List ℕ → List ℕ → List ℕ → List ℕ
eapol_data_octets direction a1 a2 a3 octets = data_header_octets direction false None a1 a2 a3 ++ (eapol_llc ++ octets)

-- a protected data frame, as QoS data where it has a TID (9.3.2.1, profile)
abbrev pub protected_data_octets : Direction → Option ℕ → List ℕ → List ℕ → List ℕ → List ℕ → List ℕ
protected_data_octets direction tid a1 a2 a3 body = data_header_octets direction true tid a1 a2 a3 ++ body

-- the header's fields as they are sent (9.2.4.1.3)
abbrev pub sent_header : List ℕ → List ℕ → List ℕ → List ℕ → HeaderFields
sent_header octets a1 a2 a3 = record { octets = octets; a1 = a1; a2 = a2; a3 = a3 }

-- six octets, as an address has (9.2.4.1.3)
abbrev pub IsAddress : List ℕ → Type 0
IsAddress address = length address ≡ 6
