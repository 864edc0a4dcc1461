-- The MIC of a fast transition, which stands in the FTE of the reassociation request and of its response (IEEE Std
-- 802.11-2020, 9.4.2.47, 13.8.4, 13.8.5).
use Rattle.std.specs.Prelude.{ℕ, List, ◌∷◌, ◌++◌, take, drop, replicate}
use Rattle.domain_base.specs.Places.{part}
use Rattle.mac_prf.specs.Cmac.{cmac}
use Rattle.mac_prf.specs.declared.reassociation.Reassociation.{Reassociation}
use Rattle.mac_prf.specs.declared.reassociation.Reassociation.TheVariants.{Request, Response}
use Rattle.mac_prf.specs.declared.reassociation.FteCovered.{FteCovered}

-- the transaction sequence number of a frame (13.8.4, 13.8.5)
abbrev pub transaction_number : Reassociation → ℕ
transaction_number Request = 5
transaction_number Response = 6

-- the MIC field of an FTE: after its id, its length and the two octets of its MIC control (9.4.2.47)
abbrev pub mic_field : List ℕ → List ℕ
mic_field fte = part 4 16 fte

-- an FTE with zeros in its MIC field (9.4.2.47)
abbrev pub without_mic_field : List ℕ → List ℕ
without_mic_field fte = take 4 fte ++ (replicate 16 0 ++ drop 20 fte)

-- What the MIC covers: the station's address, the access point's, the transaction sequence number in one octet, and
-- RSNE, MDE and FTE, each whole as it is sent, but for the MIC field (13.8.4).
abbrev pub fte_mic_input : List ℕ → List ℕ → ℕ → List ℕ → List ℕ → List ℕ → List ℕ
fte_mic_input station bssid number rsne mde fte = station ++ (bssid ++ (number ∷ (rsne ++ (mde ++ without_mic_field fte))))

-- what the MIC covers, of the parts as the code has them (13.8.4, 13.8.5)
abbrev pub input_of : FteCovered → List ℕ
input_of c = fte_mic_input c.station.0 c.bssid.0 (transaction_number c.frame) c.rsne.now c.mde.now c.fte.now

-- AES-128-CMAC of that under the KCK (13.8.4)
abbrev pub fte_mic : List ℕ → List ℕ → List ℕ
fte_mic kck input = cmac kck input
