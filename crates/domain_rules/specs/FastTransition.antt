-- What fast transition adds to associations and four-way handshakes: names of keys, elements, and the tests of both
-- (IEEE Std 802.11-2020, 12.7.1.6, 13.4.2, 13.8, profile).
use Rattle.std.specs.Prelude.{ℕ, ◌%◌, Bool, true, false, not, ◌&&◌, ◌||◌, ◌==◌, List, [], ◌∷◌, length, replicate, slice_index, Option, Some, None, option_and_then, option_map, is_some, bytes_eq, if◌then◌else◌}
use Rattle.domain_base.specs.declared.names.Akm.{Akm}
use Rattle.domain_base.specs.declared.names.Akm.TheVariants.{FtPsk}
use Rattle.domain_base.specs.declared.names.Node.{Node}
use Rattle.mac_prf.specs.FteMic.{transaction_number, fte_mic_input}
use Rattle.mac_prf.specs.declared.reassociation.Reassociation.TheVariants.{Request, Response}
use Rattle.mac_prf.specs.Cmac.{cmac}
use Rattle.key_hierarchy.specs.declared.inputs.Inputs.{Inputs}
use Rattle.key_hierarchy.specs.declared.fast_transition.PmkR0.{PmkR0}
use Rattle.key_hierarchy.specs.declared.fast_transition.PmkR1.{PmkR1}
use Rattle.key_hierarchy.specs.FastTransition.{pmk_r0, pmk_r0_name, pmk_r1}
use Rattle.rsn_elements.specs.Rsne.{RsneFields}
use Rattle.rsn_elements.specs.Transition.{MdeFields, WrappedGtkFields, WrappedIgtkFields, FteFields}
use Rattle.rsn_elements.specs.Elements.{ElementFields}
use Rattle.run_journal.specs.declared.domain.Domain.{Domain}
use Rattle.run_journal.specs.declared.acts.Reason.TheVariants as reason
use Rattle.run_journal.specs.declared.acts.Outcome.{Outcome}
use Rattle.run_journal.specs.declared.acts.Outcome.TheVariants.{Refused}
use Rattle.run_journal.specs.declared.acts.Seal.{Seal}
use Rattle.domain_rules.specs.Network.{mac, address, r0kh_id, Root}
use Rattle.domain_rules.specs.Facts.{is_same}

-- ---- names of keys

-- the PMK-R0 that the inputs of a key go back to, and its PMK-R1 for the access point (12.7.1.6)
abbrev pub r0_of : Inputs → PmkR0
r0_of i = pmk_r0 i.psk i.ssid i.mdid i.r0kh_id i.spa

abbrev pub r1_of : Inputs → PmkR1
r1_of i = pmk_r1 (r0_of i) i.aa i.spa

-- PMKR0Name and PMKR1Name (12.7.1.6)
abbrev pub r0_name : Inputs → List ℕ
r0_name i = pmk_r0_name (r0_of i)

abbrev pub r1_name : Inputs → List ℕ
r1_name i = (r1_of i).name

-- PMKR0Name of station n, by what its keys go back to (12.7.1.6)
abbrev pub root_name : Domain → Root → Node → List ℕ
root_name d r n = pmk_r0_name (pmk_r0 r.psk d.ssid r.mdid r.r0kh_id (mac d n))

-- ---- FTEs as they are sent

-- 32 zeros for a nonce that is not there (9.4.2.47, 13.4.2)
abbrev pub no_nonce : List ℕ
no_nonce = replicate 32 0

-- 16 zeros for a MIC that is not there (9.4.2.47, 13.4.2)
abbrev pub no_mic : List ℕ
no_mic = replicate 16 0

-- an FTE without MIC, with these nonces and key holders (9.4.2.47, 13.4.2)
abbrev pub plain_fte : List ℕ → List ℕ → Option (List ℕ) → List ℕ → FteFields
plain_fte anonce snonce r1kh_id id = record {
  mic_control = 0 ∷ 0 ∷ [];
  mic = no_mic;
  anonce = anonce;
  snonce = snonce;
  r1kh_id = r1kh_id;
  gtk = None;
  r0kh_id = Some id;
  igtk = None;
}

-- the FTE in the association response of access point n, without nonces (13.4.2)
abbrev pub assoc_fte : Domain → Node → FteFields
assoc_fte d n = plain_fte no_nonce no_nonce (Some (address d n)) (r0kh_id d n)

-- ---- the MIC of an FTE

-- the numbers of the reassociation request and response (13.8.4, 13.8.5)
abbrev pub request_number : ℕ
request_number = transaction_number Request

abbrev pub response_number : ℕ
response_number = transaction_number Response

-- what it covers, where the three elements are there (13.8.4, 13.8.5)
abbrev pub mic_input : List ℕ → List ℕ → ℕ → ElementFields → Option (List ℕ)
mic_input sta ap number e =
    option_and_then (λ rsne. option_and_then (λ mde. option_map (λ fte. fte_mic_input sta ap number rsne mde fte) e.fte_octets) e.mde_octets) e.rsne_octets

-- what the MIC of an FTE covers, as a seal: the octet 2 and these octets, under the KCK (13.8.4, 13.8.5)
abbrev pub fte_seal : List ℕ → List ℕ → Seal
fte_seal kck input = record { octets = 2 ∷ input; key = kck }

-- refused where the MIC does not verify. It is tried where all that it covers is there (13.8.4, 13.8.5)
abbrev pub fte_verified : List ℕ → Option FteFields → Option (List ℕ) → Outcome → Outcome
fte_verified kck (Some f) (Some input) then_ = if bytes_eq f.mic (cmac kck input) then then_ else Refused reason.Mic
fte_verified kck f input then_ = then_

-- ---- tests of elements

-- the status with which an MDE is refused that is missing or of another mobility domain: 54 invalid MDE (9.4.1.9)
abbrev pub mde_status : Domain → Option MdeFields → Option ℕ
mde_status d None = Some 54
mde_status d (Some m) = if bytes_eq m.mdid d.mdid then None else Some 54

-- that status with suite 4 alone: with the others an MDE is not looked at (9.4.1.9, 9.4.2.47, profile)
abbrev pub mobility_status : Akm → Domain → Option MdeFields → Option ℕ
mobility_status FtPsk d m = mde_status d m
mobility_status _ d m = None

-- 55, the status of an invalid FTE (9.4.1.9)
abbrev pub fte_status : ℕ
fte_status = 55

-- refused with that status where the test fails (profile)
abbrev pub or_status : ℕ → Bool → Outcome → Outcome
or_status status holds then_ = if holds then then_ else Refused (reason.Status status)

-- the FTE names this R1KH-ID, and some R0KH-ID (9.4.1.9, 9.4.2.47, profile)
abbrev pub names_r1kh : List ℕ → Option FteFields → Bool
names_r1kh r1kh None = false
names_r1kh r1kh (Some f) = is_same f.r1kh_id (Some r1kh) && is_some f.r0kh_id

-- an FTE names these two key holders (9.4.1.9, 9.4.2.47, profile)
abbrev pub names_both : List ℕ → List ℕ → Option FteFields → Bool
names_both r1kh r0kh None = false
names_both r1kh r0kh (Some f) = is_same f.r1kh_id (Some r1kh) && is_same f.r0kh_id (Some r0kh)

-- the element count of its MIC Control field, of which nothing else is looked at, is 3 (9.4.2.47)
abbrev pub counts_three : Option FteFields → Bool
counts_three None = false
counts_three (Some f) = slice_index f.mic_control 1 == 3

-- the PMKIDs, one after the other (9.4.1.9, 9.4.2.47, profile)
abbrev pub names_in : ElementFields → Option (List ℕ)
names_in e = option_and_then (λ (r : RsneFields). r.pmkids) e.rsne

-- the PMKIDs are this one name (9.4.1.9, 9.4.2.47, profile)
abbrev pub is_named : List ℕ → ElementFields → Bool
is_named name e = is_same (names_in e) (Some name)

-- refused where the PMKIDs are others (9.4.1.9, 9.4.2.47, profile)
abbrev pub named : List ℕ → ElementFields → Outcome → Outcome
named name e then_ = if is_named name e then then_ else Refused reason.Name

-- the name, where there is one and no other (profile)
abbrev pub single : Option (List ℕ) → Option (List ℕ)
single None = None
single (Some names) = if length names == 16 then Some names else None

-- ---- the group keys in an FTE

-- the GTK subelement of an FTE, where it has one (9.4.2.47, profile)
abbrev pub gtk_in : Option FteFields → Option WrappedGtkFields
gtk_in None = None
gtk_in (Some f) = f.gtk

-- the octets that are to be unwrapped: 24, which is a key of 16 octets under key wrap (9.4.2.47, profile)
abbrev pub to_unwrap : Option FteFields → Option (List ℕ)
to_unwrap f = option_and_then (λ (g : WrappedGtkFields). if length g.wrapped == 24 then Some g.wrapped else None) (gtk_in f)

-- the IGTK subelement of an FTE, where it has one (9.4.2.47, profile)
abbrev pub igtk_in : Option FteFields → Option WrappedIgtkFields
igtk_in None = None
igtk_in (Some f) = f.igtk

-- the octets of it that are to be unwrapped, where management frames are protected: 24 (9.4.2.47, profile)
abbrev pub igtk_to_unwrap : Bool → Option FteFields → Option (List ℕ)
igtk_to_unwrap false f = None
igtk_to_unwrap true f = option_and_then (λ (g : WrappedIgtkFields). if length g.wrapped == 24 then Some g.wrapped else None) (igtk_in f)

-- the key id stands in bits 0 and 1 of the key information (9.4.2.47)
abbrev pub gtk_id : WrappedGtkFields → ℕ
gtk_id g = g.information % 4

-- a key of 16 octets and a key id other than 0 (9.4.2.47, profile)
abbrev pub is_wrapped_gtk : Option WrappedGtkFields → Bool
is_wrapped_gtk None = false
is_wrapped_gtk (Some g) = (g.key_length == 16) && (length g.wrapped == 24) && not (gtk_id g == 0)

-- a key of 16 octets and the key id 4 or 5 (9.4.2.47, profile)
abbrev pub is_wrapped_igtk : Option WrappedIgtkFields → Bool
is_wrapped_igtk None = false
is_wrapped_igtk (Some g) = (g.key_length == 16) && (length g.wrapped == 24) && ((g.id == 4) || (g.id == 5))

-- where management frames are protected there is such an IGTK; where they are not, none is looked at (9.4.2.47, profile)
abbrev pub has_igtk : Bool → Option FteFields → Bool
has_igtk false f = true
has_igtk true f = is_wrapped_igtk (igtk_in f)
