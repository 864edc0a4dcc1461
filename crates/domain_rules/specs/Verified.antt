-- Whose MIC or seal verified, by what a node notes of the frames that it takes. A MIC that verified is told also where
-- the key data is refused afterwards (`refused_seal`), else an unforged MIC would go uncounted. It goes by where the
-- verdict stopped, not by a list of reasons. The law `seals_are_verified` says that a seal is noted of octets whose MIC
-- verified, and wherever one did (profile).
use Rattle.std.specs.Prelude.{◌≡◌, ℕ, Bool, true, false, ◌&&◌, ◌==◌, List, [], Option, Some, None, is_some}
use Rattle.domain_base.specs.declared.names.Akm.{Akm}
use Rattle.mac_prf.specs.Mic.{mic}
use Rattle.mac_prf.specs.Cmac.{cmac}
use Rattle.air_frame.specs.declared.frame.Direction.{Direction}
use Rattle.air_frame.specs.Fields.{HeaderFields}
use Rattle.ccmp_guard.specs.Ccmp.{packet_number}
use Rattle.bip_guard.specs.Bip.{mic_verifies}
use Rattle.rsn_elements.specs.declared.framing.Within.TheVariants.{Body}
use Rattle.rsn_elements.specs.Transition.{FteFields}
use Rattle.rsn_elements.specs.Elements.{ElementFields, SpellsElements}
use Rattle.eapol_key.specs.declared.messages.Message.{Message}
use Rattle.eapol_key.specs.declared.messages.Message.TheVariants.{M1, M2, M3, M4, G1, G2}
use Rattle.run_journal.specs.declared.acts.Kind.{Kind}
use Rattle.run_journal.specs.declared.acts.Kind.TheVariants as kind
use Rattle.run_journal.specs.declared.acts.Outcome.{Outcome}
use Rattle.run_journal.specs.declared.acts.Seal.{Seal}
use Rattle.domain_rules.specs.Frames.{frame_seal}
use Rattle.domain_rules.specs.FastTransition.{mic_input, request_number, response_number, fte_seal}
use Rattle.domain_rules.specs.Reading.{Management, KeyMessage, Reading, Managed, Keyed, Sealed, Acting, IsManaged, Reads}
use Rattle.domain_rules.specs.DataFrames.{data_seal}
use Rattle.domain_rules.specs.DataVerdict.{IsOpened}
use Rattle.domain_rules.specs.ManagementFrames.{action_seal, before_mic}
use Rattle.domain_rules.specs.Verdict.{comes_so_far}

-- the octets read as an EAPOL-Key message whose MIC is that of its octets under the key of the seal, and the seal is
-- theirs (IEEE Std 802.11-2020, 12.7.2, 12.7.6, profile)
pub record IsVerified (akm : Akm) (octets : List ℕ) (s : Seal) : Type 0 where
  pub k : KeyMessage
  pub reads : Reads akm octets (Keyed k)
  pub verifies : k.fields.mic ≡ mic akm s.key k.octets
  pub is : s ≡ frame_seal s.key k.octets

-- the octets read as protected data whose body opens under the key of the seal, and the seal is theirs (IEEE Std
-- 802.11-2020, 12.5.3, profile)
pub record IsUnsealed (akm : Akm) (octets : List ℕ) (s : Seal) : Type 0 where
  pub header : HeaderFields
  pub way : Direction
  pub tid : Option ℕ
  pub body : List ℕ
  pub reads : Reads akm octets (Sealed header way tid body)
  pub id : ℕ
  pub plain : List ℕ
  pub opens : IsOpened s.key id header.octets body (Some plain)
  pub is : s ≡ data_seal s.key header.octets (packet_number body) plain

-- of the EAPOL-Key messages all but M1 have a MIC (IEEE Std 802.11-2020, 12.7.6)
abbrev pub has_mic : Message → Bool
has_mic M1 = false
has_mic M2 = true
has_mic M3 = true
has_mic M4 = true
has_mic G1 = true
has_mic G2 = true

-- what the MIC in an FTE covers, by the addresses in the header: a request is from the station, a response to it (IEEE
-- Std 802.11-2020, 13.8.4, 13.8.5)
abbrev pub covered_by : Kind → HeaderFields → ElementFields → Option (List ℕ)
covered_by kind.ReReq h e = mic_input h.a2 h.a1 request_number e
covered_by kind.ReResp h e = mic_input h.a1 h.a2 response_number e
covered_by _ h e = None

-- The octets read as a reassociation request or response whose FTE has the MIC of what it covers, under the key of the
-- seal, and the seal is of that. The addresses are those of its header (IEEE Std 802.11-2020, 13.8.4, 13.8.5)
pub record IsVerifiedFte (octets : List ℕ) (s : Seal) : Type 0 where
  pub b : Management
  pub e : ElementFields
  pub managed : IsManaged octets b
  pub spelled : SpellsElements Body b.elements e
  pub f : FteFields
  pub fte : e.fte ≡ Some f
  pub input : List ℕ
  pub covers : covered_by b.kind b.header e ≡ Some input
  pub verifies : f.mic ≡ cmac s.key input
  pub is : s ≡ fte_seal s.key input

-- the octets read as an Action frame to a group the MIC of whose MME verifies under the key of the seal, and the seal is of what
-- that MIC covers (IEEE Std 802.11-2020, 12.5.4.6)
pub record IsVerifiedMme (akm : Akm) (octets : List ℕ) (s : Seal) : Type 0 where
  pub header : HeaderFields
  pub body : List ℕ
  pub reads : Reads akm octets (Acting header body)
  pub verifies : mic_verifies s.key header.octets body ≡ true
  pub is : s ≡ action_seal s.key header.octets (before_mic body)

-- the MIC or the seal of the octets verified under the key of the seal
pub data IsNoted (akm : Akm) (octets : List ℕ) (s : Seal) : Type 0 where
  By_mic : IsVerified akm octets s → IsNoted akm octets s
  By_fte : IsVerifiedFte octets s → IsNoted akm octets s
  By_ccm : IsUnsealed akm octets s → IsNoted akm octets s
  By_bip : IsVerifiedMme akm octets s → IsNoted akm octets s

-- of management frames those two have a MIC, which is tried where the status is 0 and all that it covers is there (IEEE
-- Std 802.11-2020, 13.8.4, 13.8.5)
abbrev pub is_covered : Kind → Management → ElementFields → Bool
is_covered kind.ReReq b e = is_some e.fte && is_some (mic_input [] [] 0 e)
is_covered kind.ReResp b e = (b.status == 0) && is_some e.fte && is_some (mic_input [] [] 0 e)
is_covered _ b e = false

-- a frame has a MIC, and all that it covers (IEEE Std 802.11-2020, 12.7.2, 12.7.6, profile)
abbrev pub is_with_mic : Reading → Bool
is_with_mic (Keyed k) = has_mic k.message
is_with_mic (Managed b e) = is_covered b.kind b e
is_with_mic _ = false

-- by what is tried up to the MIC, a frame that reads so has one and it verified (IEEE Std 802.11-2020, 12.7.2, 12.7.6,
-- profile)
abbrev pub is_past_mic : Outcome → Reading → Bool
is_past_mic first r = comes_so_far first && is_with_mic r
