-- What goes by the suite, with suites 2 and 6.
use Rattle.std.proofs.Common.{◌≡◌, ◌≢◌, ℕ, false, List, [], ◌++◌, Option, None, refl, sym, ap, ◌∙◌}
use Rattle.domain_base.specs.declared.names.Akm.{Akm}
use Rattle.domain_base.specs.declared.names.Akm.TheVariants.{Psk, PskSha256, FtPsk}
use Rattle.domain_base.specs.declared.names.Node.{Node}
use Rattle.rsn_elements.specs.Transition.{MdeFields}
use Rattle.eapol_key.specs.declared.messages.Message.{Message}
use Rattle.rsn_elements.specs.Elements.{ElementFields}
use Rattle.rsn_elements.specs.Sent.{ssid_octets, rates_octets, rsne_octets, gtk_kde_octets}
use Rattle.eapol_key.specs.KeyData.{padded}
use Rattle.run_journal.specs.declared.domain.Domain.{Domain}
use Rattle.run_journal.specs.Events.{protects}
use Rattle.run_journal.specs.declared.acts.Outcome.TheVariants.{Accepted}
use Rattle.run_journal.specs.declared.acts.Act.{Act}
use Rattle.run_journal.specs.Acts.{GroupKey, Derivation}
use Rattle.domain_rules.specs.Network.{root, root_by, station_of, inputs, inputs_at}
use Rattle.domain_rules.specs.Facts.{Facts}
use Rattle.domain_rules.specs.FastTransition.{mobility_status}
use Rattle.domain_rules.specs.Frames.{assoc_req_elements_by, assoc_resp_elements_by, sent_m2_key_data, and_igtk_kde, group_kdes, m3_key_data_by}
use Rattle.domain_rules.specs.Associating.{response_fields}
use Rattle.domain_rules.specs.AccessPointKeys.{requested_rsne, m2_key_data}
use Rattle.domain_rules.specs.StationKeys.{Keying, m3_wrapped}
use Rattle.domain_rules.specs.KeyHolders.{put_acts_by}
use Rattle.domain_rules.specs.Verdict.{KnowsResponse, m2_further, m3_further}
use Rattle.domain_rules.specs.GroupKeys.{IgtkNews, News}
use Rattle.domain_rules.proofs.Unprotected.{network_rsne_off}

pub root_suite : (akm : Akm) (d : Domain) (s : Node) (id : List ℕ) → akm ≢ FtPsk → root_by akm d s id ≡ root d s
root_suite Psk d s id other = refl
root_suite PskSha256 d s id other = refl
root_suite FtPsk d s id other = absurd (other refl)

pub inputs_suite : (d : Domain) (id : List ℕ) (n p : Node) (own other_ : List ℕ) → d.akm ≢ FtPsk → inputs d (root d (station_of n p)) n p own other_ ≡ inputs_at d n p id own other_
inputs_suite d id n p own other_ other = ap (λ r. inputs d r n p own other_) (sym (root_suite d.akm d (station_of n p) id other))

abbrev pub plain_request : Domain → List ℕ
plain_request d = ssid_octets d.ssid ++ rates_octets ++ rsne_octets d.akm None

plain_asked : (d : Domain) → protects d ≡ false → assoc_req_elements_by Psk d ≡ plain_request d
plain_asked d off = ap (λ (x : List ℕ). ssid_octets d.ssid ++ rates_octets ++ x) (network_rsne_off d None off)

pub request_suite : (akm : Akm) (d : Domain) → akm ≢ FtPsk → protects d ≡ false → assoc_req_elements_by akm d ≡ plain_request d
request_suite Psk d other off = plain_asked d off
request_suite PskSha256 d other off = plain_asked d off
request_suite FtPsk d other off = absurd (other refl)

pub response_suite : (akm : Akm) (d : Domain) (n : Node) → akm ≢ FtPsk → assoc_resp_elements_by akm d n ≡ rates_octets
response_suite Psk d n other = refl
response_suite PskSha256 d n other = refl
response_suite FtPsk d n other = absurd (other refl)

pub m2_data_suite : (akm : Akm) (d : Domain) (x : Derivation) (fte : List ℕ) → akm ≢ FtPsk → protects d ≡ false → sent_m2_key_data akm d x fte ≡ rsne_octets d.akm None
m2_data_suite Psk d x fte other off = network_rsne_off d None off
m2_data_suite PskSha256 d x fte other off = network_rsne_off d None off
m2_data_suite FtPsk d x fte other off = absurd (other refl)

abbrev pub plain_key_data : Domain → GroupKey → List ℕ
plain_key_data d g = padded (rsne_octets d.akm None ++ gtk_kde_octets g.id g.key)

plain_data : (d : Domain) (n : Node) (x : Derivation) (keys : News) → protects d ≡ false → keys.igtk ≡ None → m3_key_data_by Psk d n x keys ≡ plain_key_data d keys.gtk
plain_data d n x keys off none =
    ap (λ (y : List ℕ). padded (y ++ group_kdes keys)) (network_rsne_off d None off)
    ∙ ap (λ (o : Option IgtkNews). padded (rsne_octets d.akm None ++ and_igtk_kde o (gtk_kde_octets keys.gtk.id keys.gtk.key))) none

pub m3_data_suite : (akm : Akm) (d : Domain) (n : Node) (x : Derivation) (keys : News) → akm ≢ FtPsk → protects d ≡ false → keys.igtk ≡ None → m3_key_data_by akm d n x keys ≡ plain_key_data d keys.gtk
m3_data_suite Psk d n x keys other off none = plain_data d n x keys off none
m3_data_suite PskSha256 d n x keys other off none = plain_data d n x keys off none
m3_data_suite FtPsk d n x keys other off none = absurd (other refl)

pub put_suite : (akm : Akm) (d : Domain) (n : Node) (h : List Act) (p : Node) (x : Derivation) → akm ≢ FtPsk → put_acts_by akm d n h p x ≡ []
put_suite Psk d n h p x other = refl
put_suite PskSha256 d n h p x other = refl
put_suite FtPsk d n h p x other = absurd (other refl)

pub mobility_suite : (akm : Akm) (d : Domain) (m : Option MdeFields) → akm ≢ FtPsk → mobility_status akm d m ≡ None
mobility_suite Psk d m other = refl
mobility_suite PskSha256 d m other = refl
mobility_suite FtPsk d m other = absurd (other refl)

pub fields_suite : (akm : Akm) (d : Domain) (p : Node) (e : ElementFields) → akm ≢ FtPsk → response_fields akm d p e ≡ Accepted
fields_suite Psk d p e other = refl
fields_suite PskSha256 d p e other = refl
fields_suite FtPsk d p e other = absurd (other refl)

pub m2_further_suite : (akm : Akm) (d : Domain) (n p : Node) (facts : Facts) → akm ≢ FtPsk → m2_further akm d n p facts ≡ m2_key_data (requested_rsne facts.requested) facts.data_
m2_further_suite Psk d n p facts other = refl
m2_further_suite PskSha256 d n p facts other = refl
m2_further_suite FtPsk d n p facts other = absurd (other refl)

pub m3_further_suite : (akm : Akm) (d : Domain) (y : Option Keying) (facts : Facts) → akm ≢ FtPsk → m3_further akm d y facts ≡ m3_wrapped akm d facts.unwrapped facts.data_
m3_further_suite Psk d y facts other = refl
m3_further_suite PskSha256 d y facts other = refl
m3_further_suite FtPsk d y facts other = absurd (other refl)

pub no_response : (akm : Akm) (h : List Act) (p : Node) (m : Message) (facts : Facts) → akm ≢ FtPsk → KnowsResponse akm h p m facts
no_response Psk h p m facts other = tt
no_response PskSha256 h p m facts other = tt
no_response FtPsk h p m facts other = absurd (other refl)
