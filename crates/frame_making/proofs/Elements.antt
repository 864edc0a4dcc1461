-- The elements of association frames, by the suite.
use Rattle.std.proofs.Common.{◌≡◌, ◌≢◌, ◌≤◌, ℕ, List, [], ◌++◌, length, Some, None, refl, sym, ap, ◌∙◌, arith}
use Rattle.std.proofs.lemmas.List.{length-append}
use Rattle.domain_base.specs.declared.names.Akm.{Akm}
use Rattle.domain_base.specs.declared.names.Akm.TheVariants.{Psk, PskSha256, FtPsk}
use Rattle.domain_base.specs.declared.names.Mac.{Mac}
use Rattle.domain_base.specs.declared.names.Node.{Node}
use Rattle.rsn_elements.specs.Transition.{FteFields}
use Rattle.rsn_elements.specs.Sent.{ssid_octets, rates_octets, mde_octets, subelement_octets, fte_body, fte_octets}
use Rattle.run_journal.specs.declared.domain.Domain.{Domain}
use Rattle.domain_rules.specs.Network.{mac, r0kh_id}
use Rattle.domain_rules.specs.FastTransition.{plain_fte, no_nonce, assoc_fte}
use Rattle.domain_rules.specs.Frames.{assoc_req_elements_by, assoc_req_elements, assoc_resp_elements_by, assoc_resp_elements}
use Rattle.domain_rules.specs.Suites.{network_rsne}
use Rattle.domain_rules.proofs.SuiteWords.{response_suite}

-- an FTE without MIC and group key is short
pub fte_few : (bssid id : List ℕ) → length bssid ≡ 6 → length id ≤ 48 → length (fte_body (plain_fte no_nonce no_nonce (Some bssid) id)) ≤ 140
fte_few bssid id own few = omega (arith, own, few, length-append bssid (subelement_octets 3 (Some id) ++ []), length-append id [])

-- the FTE of a response by the address and the R0KH-ID of the access point
pub fte_of_response : (d : Domain) (n : Node) (m : Mac) (id octets : List ℕ) (f : FteFields) → m ≡ mac d n → id ≡ r0kh_id d n → f ≡ plain_fte no_nonce no_nonce (Some m.0) id → octets ≡ fte_octets f → octets ≡ fte_octets (assoc_fte d n)
fte_of_response d n m id octets f own named fields is = rw (is, fields, own, named) refl

pub plain_made : (d : Domain) (front rsne octets : List ℕ) → front ≡ ssid_octets d.ssid ++ rates_octets → rsne ≡ network_rsne d None → octets ≡ front ++ rsne → octets ≡ ssid_octets d.ssid ++ rates_octets ++ network_rsne d None
plain_made d front rsne octets first last is = is ∙ ap (λ (x : List ℕ). x ++ rsne) first ∙ ap (λ (x : List ℕ). ssid_octets d.ssid ++ rates_octets ++ x) last

pub request_mobile : (d : Domain) (front octets : List ℕ) → front ≡ ssid_octets d.ssid ++ rates_octets ++ network_rsne d None → octets ≡ front ++ mde_octets d.mdid → octets ≡ assoc_req_elements_by FtPsk d
request_mobile d front octets first is = is ∙ ap (λ (x : List ℕ). x ++ mde_octets d.mdid) first

request_plain : (akm : Akm) (d : Domain) → akm ≢ FtPsk → ssid_octets d.ssid ++ rates_octets ++ network_rsne d None ≡ assoc_req_elements_by akm d
request_plain Psk d other = refl
request_plain PskSha256 d other = refl
request_plain FtPsk d other = absurd (other refl)

pub plain_asked : (d : Domain) (octets : List ℕ) → d.akm ≢ FtPsk → octets ≡ ssid_octets d.ssid ++ rates_octets ++ network_rsne d None → octets ≡ assoc_req_elements d
plain_asked d octets suite is = is ∙ request_plain d.akm d suite

pub mobility_asked : (d : Domain) (octets : List ℕ) → d.akm ≡ FtPsk → octets ≡ assoc_req_elements_by FtPsk d → octets ≡ assoc_req_elements d
mobility_asked d octets suite is = is ∙ sym (ap (λ (a : Akm). assoc_req_elements_by a d) suite)

pub plain_answered : (d : Domain) (n : Node) (octets : List ℕ) → d.akm ≢ FtPsk → octets ≡ rates_octets → octets ≡ assoc_resp_elements d n
plain_answered d n octets suite is = is ∙ sym (response_suite d.akm d n suite)

pub mobility_answered : (d : Domain) (n : Node) (first second octets fte : List ℕ) → d.akm ≡ FtPsk → fte ≡ fte_octets (assoc_fte d n) → first ≡ rates_octets → second ≡ first ++ mde_octets d.mdid → octets ≡ second ++ fte → octets ≡ assoc_resp_elements d n
mobility_answered d n first second octets fte suite of a b c =
    c ∙ ap (λ (x : List ℕ). x ++ fte) (b ∙ ap (λ (x : List ℕ). x ++ mde_octets d.mdid) a) ∙ ap (λ (x : List ℕ). (rates_octets ++ mde_octets d.mdid) ++ x) of
    ∙ sym (ap (λ (a : Akm). assoc_resp_elements_by a d n) suite)
