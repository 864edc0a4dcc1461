-- What comes of the nonces and the MIC in the FTE of a frame of reassociation (IEEE Std 802.11-2020, 13.8.4, 13.8.5).
use Rattle.std.specs.Prelude.{◌≡◌, ℕ, Bool, false, ◌&&◌, List, Option, Some, None, bytes_eq, if◌then◌else◌}
use Rattle.mac_prf.specs.Cmac.{cmac}
use Rattle.mac_prf.specs.FteMic.{transaction_number, input_of as covered_input}
use Rattle.mac_prf.specs.declared.reassociation.FteCovered.{FteCovered}
use Rattle.rsn_elements.specs.Transition.{FteFields}
use Rattle.rsn_elements.specs.Elements.{ElementFields}
use Rattle.run_journal.specs.declared.acts.Reason.{Reason}
use Rattle.run_journal.specs.declared.acts.Reason.TheVariants as reason
use Rattle.run_journal.specs.declared.reply.Keyed.{Keyed}
use Rattle.domain_rules.specs.FastTransition.{mic_input}
use Rattle.ft_exchange.specs.declared.mic.Tried.{Tried}
use Rattle.ft_exchange.specs.declared.mic.Tried.TheVariants.{Nothing, OtherNonces, OtherMic, Verified}
use Rattle.ft_exchange.specs.declared.mic.Between.{Between}

-- what the MIC covers, where all of it is there
abbrev pub input_of : Between → ElementFields → Option (List ℕ)
input_of w e = mic_input w.station.0 w.bssid.0 (transaction_number w.frame) e

-- both nonces are those of the key
abbrev pub has_nonces_of : FteFields → Keyed → Bool
has_nonces_of f y = bytes_eq f.anonce y.anonce && bytes_eq f.snonce y.snonce

-- there is an FTE, and it has them
abbrev pub is_with_by : Option FteFields → Keyed → Bool
is_with_by None y = false
is_with_by (Some f) y = has_nonces_of f y

-- the FTE has both nonces of a key (13.8.2, 13.8.4, profile)
abbrev pub is_with : ElementFields → Keyed → Bool
is_with e y = is_with_by e.fte y

-- the MIC, where all that it covers is there
abbrev pub tried_mic : List ℕ → FteFields → Option (List ℕ) → Tried
tried_mic kck f None = Nothing
tried_mic kck f (Some input) = if bytes_eq f.mic (cmac kck input) then Verified else OtherMic

-- what comes of a frame of reassociation: first the nonces are tried, then the MIC
abbrev pub tried : Keyed → Option FteFields → Option (List ℕ) → Tried
tried y None input = Nothing
tried y (Some f) input = if has_nonces_of f y then tried_mic y.ptk.kck f input else OtherNonces

-- why the frame is refused
abbrev pub tried_reason : Tried → Option Reason
tried_reason Nothing = None
tried_reason OtherNonces = Some reason.Nonce
tried_reason OtherMic = Some reason.Mic
tried_reason Verified = None

-- the KCK under which it verified
abbrev pub verified_key : Keyed → Tried → Option (List ℕ)
verified_key y Verified = Some y.ptk.kck
verified_key y _ = None

-- the parts of what the MIC covers, where all of it is there: the FTE has its MIC field
abbrev pub IsCovered : Between → ElementFields → Option FteCovered → Type 0
IsCovered w e None = input_of w e ≡ None
IsCovered w e (Some c) = (input_of w e ≡ Some (covered_input c)) × (e.fte_octets ≡ Some c.fte.now)
