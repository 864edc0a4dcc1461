-- Every octet of the frames of a fast transition over the air that nodes send. Order and choice of elements are this
-- project's (IEEE Std 802.11-2020, 13.8, profile).
use Rattle.std.specs.Prelude.{ℕ, List, [], ◌∷◌, ◌++◌, Option, Some, None, option_map}
use Rattle.domain_base.specs.declared.names.Node.{Node}
use Rattle.domain_base.specs.declared.names.Peer.TheVariants.{One}
use Rattle.mac_prf.specs.Cmac.{cmac}
use Rattle.air_frame.specs.Sent.{ft_req_octets, ft_resp_octets, re_req_octets, re_resp_octets}
use Rattle.eapol_key.specs.Sent.{rsc_octets}
use Rattle.key_hierarchy.specs.declared.inputs.Inputs.{Inputs}
use Rattle.rsn_elements.specs.Transition.{WrappedGtkFields, WrappedIgtkFields, FteFields}
use Rattle.rsn_elements.specs.Sent.{ssid_octets, rates_octets, mde_octets, fte_octets, ipn_octets}
use Rattle.run_journal.specs.declared.domain.Domain.{Domain}
use Rattle.run_journal.specs.declared.acts.Kind.TheVariants as kind
use Rattle.run_journal.specs.declared.acts.Act.{Act}
use Rattle.run_journal.specs.declared.acts.Act.TheVariants.{Sent}
use Rattle.run_journal.specs.Acts.{GroupKey, Derivation}
use Rattle.domain_rules.specs.Network.{address, Root}
use Rattle.domain_rules.specs.Frames.{aid, wrapped}
use Rattle.domain_rules.specs.Suites.{network_rsne}
use Rattle.domain_rules.specs.GroupKeys.{IgtkNews, News}
use Rattle.domain_rules.specs.FastTransition.{r1_name, root_name, no_nonce, no_mic, plain_fte, request_number, response_number, fte_seal}
use Rattle.mac_prf.specs.FteMic.{fte_mic_input}

-- ---- authentication request and response (13.8.2 and 13.8.3)

-- RSNE with PMKR0Name, MDE, FTE with the station's nonce and R0KH-ID (13.8.2, profile)
abbrev pub ft_req_elements : Domain → Node → Root → List ℕ → List ℕ
ft_req_elements d n r snonce = network_rsne d (Some (root_name d r n)) ++ mde_octets d.mdid ++ fte_octets (plain_fte no_nonce snonce None r.r0kh_id)

-- an authentication request as it is sent, from station n to access point p (13.8.2, profile)
abbrev pub sent_ft_req : Domain → Node → Node → Root → List ℕ → Act
sent_ft_req d n p r snonce = Sent (One p) kind.FtReq (ft_req_octets (address d p) (address d n) (address d p) (ft_req_elements d n r snonce)) None

-- RSNE with PMKR0Name as it was asked, MDE, FTE with both nonces, R1KH-ID and R0KH-ID (13.8.3, profile)
abbrev pub ft_resp_elements : Domain → Node → List ℕ → Inputs → List ℕ
ft_resp_elements d n name i = network_rsne d (Some name) ++ mde_octets d.mdid ++ fte_octets (plain_fte i.anonce i.snonce (Some (address d n)) i.r0kh_id)

-- an authentication response as it is sent, from access point n to station p (13.8.3, profile)
abbrev pub sent_ft_resp : Domain → Node → Node → List ℕ → Inputs → Act
sent_ft_resp d n p name i = Sent (One p) kind.FtResp (ft_resp_octets (address d p) (address d n) (address d n) 0 (ft_resp_elements d n name i)) None

-- ---- reassociation request and response (13.8.4 and 13.8.5)

-- an FTE of three elements under the MIC, with both nonces and key holders, still without its MIC (13.8.4, 13.8.5,
-- profile)
abbrev pub counted_fte : List ℕ → Inputs → Option WrappedGtkFields → FteFields
counted_fte r1kh i gtk = record {
  mic_control = 0 ∷ 3 ∷ [];
  mic = no_mic;
  anonce = i.anonce;
  snonce = i.snonce;
  r1kh_id = Some r1kh;
  gtk = gtk;
  r0kh_id = Some i.r0kh_id;
  igtk = None;
}

-- an FTE with that MIC in its MIC field (13.8.4, 13.8.5, profile)
abbrev pub with_mic : List ℕ → FteFields → FteFields
with_mic mic f = record { mic_control = f.mic_control; mic = mic; anonce = f.anonce; snonce = f.snonce; r1kh_id = f.r1kh_id; gtk = f.gtk; r0kh_id = f.r0kh_id; igtk = f.igtk }

-- what its MIC covers, in frame number `number` between that station and that access point, with PMKR1Name in the RSNE
-- (13.8.4, 13.8.5, profile)
abbrev pub sent_input : Domain → Node → Node → ℕ → List ℕ → FteFields → List ℕ
sent_input d sta ap number name f = fte_mic_input (address d sta) (address d ap) number (network_rsne d (Some name)) (mde_octets d.mdid) (fte_octets f)

-- an FTE with its MIC over these octets, under the KCK (13.8.4, 13.8.5, profile)
abbrev pub sealed_fte : List ℕ → List ℕ → FteFields → FteFields
sealed_fte kck input f = with_mic (cmac kck input) f

-- what the MIC of a reassociation request covers as it is sent (13.8.4, profile)
abbrev pub re_req_input : Domain → Node → Node → Derivation → List ℕ
re_req_input d n p x = sent_input d n p request_number (r1_name x.inputs) (counted_fte (address d p) x.inputs None)

-- SSID, rates, RSNE with PMKR1Name, MDE, FTE (13.8.4, profile)
abbrev pub re_req_elements : Domain → Node → Node → Derivation → List ℕ
re_req_elements d n p x =
    ssid_octets d.ssid ++ rates_octets ++ network_rsne d (Some (r1_name x.inputs)) ++ mde_octets d.mdid
    ++ fte_octets (sealed_fte x.ptk.kck (re_req_input d n p x) (counted_fte (address d p) x.inputs None))

-- from station n to access point p, with the access point of its session (13.8.4, profile)
abbrev pub sent_re_req : Domain → Node → Node → Node → Derivation → Act
sent_re_req d n p current x =
    Sent (One p) kind.ReReq (re_req_octets (address d p) (address d n) (address d p) (address d current) (re_req_elements d n p x)) (Some (fte_seal x.ptk.kck (re_req_input d n p x)))

-- the group key under key wrap, with the count of packet numbers that were used under it (13.8.4, 13.8.5, profile)
abbrev pub sent_gtk : List ℕ → GroupKey → ℕ → WrappedGtkFields
sent_gtk kek g rsc = record { information = g.id; key_length = 16; rsc = rsc_octets rsc; wrapped = wrapped kek g.key }

-- the IGTK under key wrap, with the count of packet numbers that were used under it (13.8.5, profile)
abbrev pub sent_igtk : List ℕ → IgtkNews → WrappedIgtkFields
sent_igtk kek k = record { id = k.igtk.id; ipn = ipn_octets k.ipn; key_length = 16; wrapped = wrapped kek k.igtk.key }

-- an FTE with that IGTK, where there is one (13.8.5, profile)
abbrev pub with_igtk : Option WrappedIgtkFields → FteFields → FteFields
with_igtk igtk f = record f { igtk = igtk }

-- the FTE of a reassociation response, with the group keys of an access point, still without its MIC (13.8.5, profile)
abbrev pub re_resp_fte : Domain → Node → Derivation → News → FteFields
re_resp_fte d n x keys = with_igtk (option_map (sent_igtk x.ptk.kek) keys.igtk) (counted_fte (address d n) x.inputs (Some (sent_gtk x.ptk.kek keys.gtk keys.rsc)))

-- what the MIC of a reassociation response covers as it is sent (13.8.5, profile)
abbrev pub re_resp_input : Domain → Node → Node → List ℕ → Derivation → FteFields → List ℕ
re_resp_input d n p name x f = sent_input d p n response_number name f

-- rates, RSNE with PMKR1Name, MDE, FTE (13.8.5, profile)
abbrev pub re_resp_elements : Domain → Node → Node → List ℕ → Derivation → FteFields → List ℕ
re_resp_elements d n p name x f =
    rates_octets ++ network_rsne d (Some name) ++ mde_octets d.mdid ++ fte_octets (sealed_fte x.ptk.kck (re_resp_input d n p name x f) f)

-- from access point n to station p, with such an FTE (13.8.5, profile)
abbrev pub sent_re_resp : Domain → Node → Node → List ℕ → Derivation → FteFields → Act
sent_re_resp d n p name x f =
    Sent (One p) kind.ReResp (re_resp_octets (address d p) (address d n) (address d n) 0 (aid p) (re_resp_elements d n p name x f)) (Some (fte_seal x.ptk.kck (re_resp_input d n p name x f)))

-- ---- refusals: a response with another status has no elements

-- an authentication response that refuses with a status, without elements (13.8.3, profile)
abbrev pub sent_ft_refusal : Domain → Node → Node → ℕ → Act
sent_ft_refusal d n p status = Sent (One p) kind.FtResp (ft_resp_octets (address d p) (address d n) (address d n) status []) None

-- a reassociation response that refuses with a status, without elements (13.8.5, profile)
abbrev pub sent_re_refusal : Domain → Node → Node → ℕ → Act
sent_re_refusal d n p status = Sent (One p) kind.ReResp (re_resp_octets (address d p) (address d n) (address d n) status 0 []) None
