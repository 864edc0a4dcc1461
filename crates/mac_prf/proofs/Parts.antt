-- A frame in parts.
use Rattle.std.proofs.Common.{◌≡◌, ◌∙◌, ℕ, List, [], ◌∷◌, ◌++◌, take, drop, replicate, length, arith, ap, ap₂, append_assoc}
use Rattle.domain_base.specs.declared.names.Akm.{Akm}
use Rattle.domain_base.specs.declared.names.Akm.TheVariants.{Psk, PskSha256, FtPsk}
use Rattle.std.proofs.lemmas.List.{length-take-le}
use Rattle.aes_block.proofs.CipherLemmas.{length-cipher}
use Rattle.sha1.specs.Sha1.{sha1}
use Rattle.mac_prf.specs.Cmac.{cmac}
use Rattle.mac_prf.specs.Hmac.{hmac}
use Rattle.mac_prf.proofs.Sizes.{length-hmac_sha1}
use Rattle.mac_prf.specs.Mic.{mic, mic_sha1, mic_cmac, without_mic}
use Rattle.mac_prf.specs.FteMic.{without_mic_field, fte_mic_input}

-- what stands before the MIC field and what stands behind it, with zeros between them
pub without_mic-parts : (frame front behind : List ℕ) → front ≡ take 81 frame → behind ≡ drop 97 frame → front ++ replicate 16 0 ++ behind ≡ without_mic frame
without_mic-parts frame front behind f b = ap₂ (λ (x y : List ℕ). x ++ replicate 16 0 ++ y) f b

regrouped : (a b c d : List ℕ) → a ++ b ++ c ++ d ≡ a ++ (b ++ (c ++ d))
regrouped a b c d = simp append_assoc

-- the same of an FTE, behind a text
pub without_mic_field-parts : (text fte front behind : List ℕ) → front ≡ take 4 fte → behind ≡ drop 20 fte
    → text ++ front ++ replicate 16 0 ++ behind ≡ text ++ without_mic_field fte
without_mic_field-parts text fte front behind f b =
    let zeros : List ℕ = replicate 16 0 in
    regrouped text front zeros behind ∙ ap₂ (λ (x y : List ℕ). text ++ (x ++ (zeros ++ y))) f b

-- what the MIC of an FTE covers, piece by piece
pub fte_mic_input-parts : (station bssid rsne mde fte : List ℕ) (number : ℕ)
    → station ++ bssid ++ (number ∷ []) ++ rsne ++ mde ++ without_mic_field fte ≡ fte_mic_input station bssid number rsne mde fte
fte_mic_input-parts station bssid rsne mde fte number = simp append_assoc

-- the MIC field of a frame does not count
pub mic-same : (akm : Akm) (kck frame other : List ℕ) → without_mic frame ≡ without_mic other → mic akm kck frame ≡ mic akm kck other
unfolding mic_sha1 mic_cmac
mic-same Psk kck frame other e = ap (λ (w : List ℕ). take 16 (hmac sha1 kck w)) e
mic-same PskSha256 kck frame other e = ap (cmac kck) e
mic-same FtPsk kck frame other e = ap (cmac kck) e

-- a MIC has 16 octets
pub length-mic : (akm : Akm) (kck frame : List ℕ) → length (mic akm kck frame) ≡ 16
unfolding mic_sha1 mic_cmac cmac
length-mic Psk kck frame = length-take-le 16 (hmac sha1 kck (without_mic frame)) (omega (arith, length-hmac_sha1 kck (without_mic frame)))
length-mic PskSha256 kck frame = length-cipher kck _
length-mic FtPsk kck frame = length-cipher kck _
