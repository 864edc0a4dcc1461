-- What is sealed in a frame of reassociation, by what a node has of its peer (IEEE Std 802.11-2020, 13.8.4, 13.8.5).
use Rattle.std.specs.Prelude.{◌≡◌, ℕ, ◌+◌, List, ◌∷◌, length, Option, Some, None, option_map}
use Rattle.domain_base.specs.declared.names.Mac.{Mac}
use Rattle.domain_base.specs.declared.names.Node.{Node}
use Rattle.mac_prf.specs.FteMic.{transaction_number}
use Rattle.mac_prf.specs.declared.reassociation.Reassociation.{Reassociation}
use Rattle.mac_prf.specs.declared.reassociation.Reassociation.TheVariants.{Request, Response}
use Rattle.rsn_elements.specs.Elements.{ElementFields}
use Rattle.run_journal.specs.declared.domain.Domain.{Domain}
use Rattle.run_journal.specs.Events.{protects}
use Rattle.run_journal.specs.declared.acts.Kind.{Kind}
use Rattle.run_journal.specs.declared.acts.Kind.TheVariants as kind
use Rattle.run_journal.specs.declared.acts.Seal.{Seal}
use Rattle.domain_rules.specs.Network.{mac}
use Rattle.domain_rules.specs.FastTransition.{fte_seal, mic_input}
use Rattle.domain_rules.specs.TransitionKeys.{re_req_covered, re_resp_covered}
use Rattle.ft_exchange.specs.Sent.{named_rsne_len, covered_in}
use Rattle.transition_acts.specs.declared.sides.Side.{Side}
use Rattle.transition_acts.specs.declared.sides.Place.{Place}

-- it is what node n has of its peer p
pub record IsSide (d : Domain) (n p : Node) (s : Side) : Type 0 where
  pub own : s.own ≡ mac d n
  pub peer : s.peer ≡ mac d p
  pub ssid_len : s.ssid_len ≡ length d.ssid
  pub mfp_is : s.mfp ≡ protects d

-- ---- a frame that is sent

-- where a frame of that kind has what its MIC covers, and between which ends: a station sends the request, an access point the response
abbrev pub place_in : Side → Kind → Option Place
place_in s kind.ReReq = Some (record { station = s.own; bssid = s.peer; frame = Request; rsne_at = 42 + s.ssid_len; rsne_len = named_rsne_len s.mfp })
place_in s kind.ReResp = Some (record { station = s.peer; bssid = s.own; frame = Response; rsne_at = 36; rsne_len = named_rsne_len s.mfp })
place_in s _ = None

-- what the MIC of a frame that is sent covers
abbrev pub covered_at : Place → List ℕ → List ℕ
covered_at w octets = covered_in w.station.0 w.bssid.0 (transaction_number w.frame) w.rsne_at w.rsne_len octets

-- what is sealed in a frame that is sent
abbrev pub seal_at : Option (List ℕ) → Option Place → List ℕ → Option Seal
seal_at (Some kck) (Some w) octets = Some (fte_seal kck (covered_at w octets))
seal_at kck w octets = None

-- ---- a frame that came

-- its ends: the station, and the access point
abbrev pub came_ends : Side → Reassociation → Mac × Mac
came_ends s Request = (s.peer, s.own)
came_ends s Response = (s.own, s.peer)

-- what its MIC covers, where all of it is there, by what the node has of its peer
abbrev pub came_covered : Side → Reassociation → ElementFields → Option (List ℕ)
came_covered s frame e = mic_input (came_ends s frame).0.0 (came_ends s frame).1.0 (transaction_number frame) e

-- what the MIC of a frame that came covers, between the node and its peer
abbrev pub covered_by : Reassociation → Domain → Node → Node → ElementFields → Option (List ℕ)
covered_by Request d n p e = re_req_covered d n p e
covered_by Response d n p e = re_resp_covered d n p e

-- what the MIC covers, after the octet of its form
abbrev pub formed : Option (List ℕ) → Option (List ℕ)
formed input = option_map (λ octets. 2 ∷ octets) input

-- what is sealed, where there is something and it verified
abbrev pub seal_of : Option (List ℕ) → Option (List ℕ) → Option Seal
seal_of (Some octets) (Some kck) = Some (record { octets = octets; key = kck })
seal_of octets kck = None
