-- What is sealed in frames of reassociation.
use Rattle.std.proofs.Common.{◌≡◌, ◌∙◌, ◌+◌, ℕ, Bool, List, length, Option, Some, None, refl, ap}
use Rattle.domain_base.specs.declared.names.Mac.{Mac}
use Rattle.domain_base.specs.declared.names.Node.{Node}
use Rattle.mac_prf.specs.declared.reassociation.Reassociation.{Reassociation}
use Rattle.mac_prf.specs.declared.reassociation.Reassociation.TheVariants.{Request, Response}
use Rattle.rsn_elements.specs.Elements.{ElementFields}
use Rattle.run_journal.specs.declared.domain.Domain.{Domain}
use Rattle.run_journal.specs.declared.acts.Kind.{Kind}
use Rattle.run_journal.specs.declared.acts.Kind.TheVariants as kind
use Rattle.run_journal.specs.declared.acts.Outcome.{Outcome}
use Rattle.run_journal.specs.declared.acts.Seal.{Seal}
use Rattle.run_journal.specs.declared.acts.Act.TheVariants.{Took}
use Rattle.domain_rules.specs.Network.{address}
use Rattle.domain_rules.specs.FastTransition.{mic_input, fte_seal, request_number, response_number}
use Rattle.ft_exchange.specs.Sent.{named_rsne_len, covered_in}
use Rattle.ft_exchange.specs.Told.{sent_seal, taken_seal}
use Rattle.transition_acts.specs.Seals.{IsSide, place_in, seal_at, came_covered, covered_by, formed, seal_of}
use Rattle.transition_acts.specs.declared.sides.Side.{Side}
use Rattle.transition_acts.specs.declared.sides.Place.{Place}

-- where a frame has what its MIC covers, with an RSNE of so many octets
abbrev pub request_place : Side → ℕ → Place
request_place s n = record { station = s.own; bssid = s.peer; frame = Request; rsne_at = 42 + s.ssid_len; rsne_len = n }

abbrev pub response_place : Side → ℕ → Place
response_place s n = record { station = s.peer; bssid = s.own; frame = Response; rsne_at = 36; rsne_len = n }

-- ---- of a frame that is sent

in_request : (d : Domain) (n p : Node) (s : Side) (kck octets : List ℕ) → IsSide d n p s → seal_at (Some kck) (place_in s kind.ReReq) octets ≡ sent_seal d n p kind.ReReq (Some kck) octets
in_request d n p s kck octets is =
    ap (λ (m : Mac). Some (fte_seal kck (covered_in m.0 s.peer.0 request_number (42 + s.ssid_len) (named_rsne_len s.mfp) octets))) is.own
    ∙ ap (λ (m : Mac). Some (fte_seal kck (covered_in (address d n) m.0 request_number (42 + s.ssid_len) (named_rsne_len s.mfp) octets))) is.peer
    ∙ ap (λ (k : ℕ). Some (fte_seal kck (covered_in (address d n) (address d p) request_number (42 + k) (named_rsne_len s.mfp) octets))) is.ssid_len
    ∙ ap (λ (b : Bool). Some (fte_seal kck (covered_in (address d n) (address d p) request_number (42 + length d.ssid) (named_rsne_len b) octets))) is.mfp_is

in_response : (d : Domain) (n p : Node) (s : Side) (kck octets : List ℕ) → IsSide d n p s → seal_at (Some kck) (place_in s kind.ReResp) octets ≡ sent_seal d n p kind.ReResp (Some kck) octets
in_response d n p s kck octets is =
    ap (λ (m : Mac). Some (fte_seal kck (covered_in m.0 s.own.0 response_number 36 (named_rsne_len s.mfp) octets))) is.peer
    ∙ ap (λ (m : Mac). Some (fte_seal kck (covered_in (address d p) m.0 response_number 36 (named_rsne_len s.mfp) octets))) is.own
    ∙ ap (λ (b : Bool). Some (fte_seal kck (covered_in (address d p) (address d n) response_number 36 (named_rsne_len b) octets))) is.mfp_is

by_kind : (d : Domain) (n p : Node) (s : Side) (k : Kind) (kck octets : List ℕ) → IsSide d n p s → seal_at (Some kck) (place_in s k) octets ≡ sent_seal d n p k (Some kck) octets
by_kind d n p s kind.ReReq kck octets is = in_request d n p s kck octets is
by_kind d n p s kind.ReResp kck octets is = in_response d n p s kck octets is
by_kind d n p s kind.AssocReq kck octets is = refl
by_kind d n p s kind.AssocResp kck octets is = refl
by_kind d n p s kind.FtReq kck octets is = refl
by_kind d n p s kind.FtResp kck octets is = refl
by_kind d n p s (kind.Key m) kck octets is = refl
by_kind d n p s kind.Data kck octets is = refl
by_kind d n p s kind.Action kck octets is = refl
by_kind d n p s kind.Ignored kck octets is = refl
by_kind d n p s kind.Unread kck octets is = refl
by_kind d n p s kind.Eapol kck octets is = refl

unsealed : (d : Domain) (n p : Node) (s : Side) (k : Kind) (octets : List ℕ) → None ≡ sent_seal d n p k None octets
unsealed d n p s kind.ReReq octets = refl
unsealed d n p s kind.ReResp octets = refl
unsealed d n p s kind.AssocReq octets = refl
unsealed d n p s kind.AssocResp octets = refl
unsealed d n p s kind.FtReq octets = refl
unsealed d n p s kind.FtResp octets = refl
unsealed d n p s (kind.Key m) octets = refl
unsealed d n p s kind.Data octets = refl
unsealed d n p s kind.Action octets = refl
unsealed d n p s kind.Ignored octets = refl
unsealed d n p s kind.Unread octets = refl
unsealed d n p s kind.Eapol octets = refl

pub seal_sent : (d : Domain) (n p : Node) (s : Side) (k : Kind) (sealed : Option (List ℕ)) (octets : List ℕ) → IsSide d n p s → seal_at sealed (place_in s k) octets ≡ sent_seal d n p k sealed octets
seal_sent d n p s k None octets is = unsealed d n p s k octets
seal_sent d n p s k (Some kck) octets is = by_kind d n p s k kck octets is

-- ---- of a frame that came

pub covered_is : (d : Domain) (n p : Node) (s : Side) (frame : Reassociation) (e : ElementFields) → IsSide d n p s → came_covered s frame e ≡ covered_by frame d n p e
covered_is d n p s Request e is = ap (λ (m : Mac). mic_input m.0 s.own.0 request_number e) is.peer ∙ ap (λ (m : Mac). mic_input (address d p) m.0 request_number e) is.own
covered_is d n p s Response e is = ap (λ (m : Mac). mic_input m.0 s.peer.0 response_number e) is.own ∙ ap (λ (m : Mac). mic_input (address d n) m.0 response_number e) is.peer

taken_by : (input verified : Option (List ℕ)) → seal_of (formed input) verified ≡ taken_seal input verified
taken_by None verified = refl
taken_by (Some octets) None = refl
taken_by (Some octets) (Some kck) = refl

pub seal_taken : (octets input verified : Option (List ℕ)) → octets ≡ formed input → seal_of octets verified ≡ taken_seal input verified
seal_taken octets input verified is = ap (λ (x : Option (List ℕ)). seal_of x verified) is ∙ taken_by input verified

pub took_is : (p : Node) (taken octets : List ℕ) (k : Kind) (o : Outcome) (seal given : Option Seal) → taken ≡ octets → seal ≡ given → Took (Some p) taken k o seal ≡ Took (Some p) octets k o given
took_is p taken octets k o seal given same sealed = ap (λ (x : List ℕ). Took (Some p) x k o seal) same ∙ ap (λ (s : Option Seal). Took (Some p) octets k o s) sealed
