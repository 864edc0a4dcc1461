-- The frames of a fast transition by what the parts of nodes have (IEEE Std 802.11-2020, 13.8, profile).
use Rattle.std.specs.Prelude.{◌≡◌, ◌≤◌, ◌+◌, ℕ, Bool, List, [], ◌∷◌, ◌++◌, length, take, drop, Option, Some, if◌then◌else◌}
use Rattle.std.specs.Option.{ForSome}
use Rattle.domain_base.specs.declared.names.Akm.TheVariants.{FtPsk}
use Rattle.domain_base.specs.declared.names.Mac.{Mac}
use Rattle.domain_base.specs.Places.{part}
use Rattle.mac_prf.specs.Cmac.{cmac}
use Rattle.rsn_elements.specs.declared.transition.Fte.{Fte}
use Rattle.rsn_elements.specs.Fields.{fte_fields}
use Rattle.rsn_elements.specs.Transition.{WrappedGtkFields, WrappedIgtkFields, FteFields}
use Rattle.rsn_elements.specs.Sent.{ssid_octets, rates_octets, rsne_octets, rsne_mfp_octets, mde_octets, fte_body, fte_octets}
use Rattle.run_journal.specs.declared.acts.Kind.{Kind}
use Rattle.run_journal.specs.declared.reply.Reply.{Reply}
use Rattle.run_journal.specs.declared.reply.Keyed.{Keyed}
use Rattle.run_journal.specs.Replies.{IsWhole}
use Rattle.domain_rules.specs.FastTransition.{no_mic}
use Rattle.mac_prf.specs.FteMic.{fte_mic_input}
use Rattle.domain_rules.specs.TransitionFrames.{with_mic}

-- an FTE that can be written: subelements of at most 80 octets beside the R0KH-ID
pub record FitsFte (f : Fte) : Type 0 where
  pub body : length (fte_body (fte_fields f)) ≤ 212
  pub r0kh_id : ForSome f.r0kh_id (λ id. (1 ≤ length id.now) × (length id.now ≤ 48))

-- an FTE of three elements under the MIC, without its MIC, with the nonces of that key and these group keys
abbrev pub counted : List ℕ → Keyed → List ℕ → Option WrappedGtkFields → Option WrappedIgtkFields → FteFields
counted r1kh y id gtk igtk = record {
  mic_control = 0 ∷ 3 ∷ [];
  mic = no_mic;
  anonce = y.anonce;
  snonce = y.snonce;
  r1kh_id = Some r1kh;
  gtk = gtk;
  r0kh_id = Some id;
  igtk = igtk;
}

-- the RSNE with that name, where management frames are protected or not (9.4.2.24)
abbrev pub named_rsne : Bool → List ℕ → List ℕ
named_rsne protected name = if protected then rsne_mfp_octets FtPsk (Some name) else rsne_octets FtPsk (Some name)

-- how many octets it has
abbrev pub named_rsne_len : Bool → ℕ
named_rsne_len protected = if protected then 44 else 40

-- the elements that every frame has: RSNE with that name, MDE, FTE
abbrev pub named_elements : Bool → List ℕ → List ℕ → FteFields → List ℕ
named_elements protected name mdid f = named_rsne protected name ++ mde_octets mdid ++ fte_octets f

-- what the MIC of such an FTE covers in frame number `number` between that station and that access point
abbrev pub input_between : Bool → Mac → Mac → ℕ → List ℕ → List ℕ → FteFields → List ℕ
input_between protected sta ap number name mdid f =
    fte_mic_input sta.0 ap.0 number (named_rsne protected name) (mde_octets mdid) (fte_octets f)

-- the FTE with that MIC
abbrev pub sealed_of : Bool → List ℕ → Mac → Mac → ℕ → List ℕ → List ℕ → FteFields → FteFields
sealed_of protected kck sta ap number name mdid f = with_mic (cmac kck (input_between protected sta ap number name mdid f)) f

-- the elements of a reassociation request, and those of a response
abbrev pub re_req_elements_of : Bool → List ℕ → List ℕ → List ℕ → FteFields → List ℕ
re_req_elements_of protected ssid name mdid f = ssid_octets ssid ++ rates_octets ++ named_elements protected name mdid f

abbrev pub re_resp_elements_of : Bool → List ℕ → List ℕ → FteFields → List ℕ
re_resp_elements_of protected name mdid f = rates_octets ++ named_elements protected name mdid f

-- a name, a mobility domain and a MIC have their sizes
pub record AreSized (name mdid mic : List ℕ) : Type 0 where
  pub name_len : length name ≡ 16
  pub mdid_len : length mdid ≡ 2
  pub mic_len : length mic ≡ 16

-- what the MIC of a frame of reassociation covers in frame number `number` between that station and that access point: an RSNE of so
-- many octets that begins at that place of the frame, an MDE of 5, and an FTE
abbrev pub covered_in : List ℕ → List ℕ → ℕ → ℕ → ℕ → List ℕ → List ℕ
covered_in sta ap number at rsne_len octets =
    fte_mic_input sta ap number (part at rsne_len octets) (part (at + rsne_len) 5 octets) (drop (at + (rsne_len + 5)) octets)

-- the reply has that frame, sealed under that KCK or not
pub record HasFrame (octets : List ℕ) (k : Kind) (sealed : Option (List ℕ)) (r : Reply) : Type 0 where
  pub front : take r.len r.octets ≡ octets
  pub some : 1 ≤ r.len
  pub kind_is : r.kind ≡ k
  pub sealed_is : r.sealed ≡ sealed
  pub whole : IsWhole r

-- it has it now; what else it tells is as it was
pub record Sends (octets : List ℕ) (k : Kind) (sealed : Option (List ℕ)) (old new : Reply) : Type 0 where
  pub frame : HasFrame octets k sealed new
  pub verified : new.verified ≡ old.verified
  pub derived : new.derived ≡ old.derived
  pub installed : new.installed ≡ old.installed
  pub gtk : new.gtk ≡ old.gtk
  pub igtk : new.igtk ≡ old.igtk
  pub looked : new.looked ≡ old.looked
