-- The MIC of EAPOL-Key frames (IEEE Std 802.11-2020, 12.7.2, 12.7.3).
use Rattle.std.specs.Prelude.{ℕ, List, ◌++◌, take, drop, replicate}
use Rattle.sha1.specs.Sha1.{sha1}
use Rattle.domain_base.specs.declared.names.Akm.{Akm}
use Rattle.domain_base.specs.declared.names.Akm.TheVariants.{Psk, PskSha256, FtPsk}
use Rattle.mac_prf.specs.Cmac.{cmac}
use Rattle.mac_prf.specs.Hmac.{hmac}

-- an EAPOL-Key frame with zeros in its MIC field, octets 81 to 96 (12.7.2)
abbrev pub without_mic : List ℕ → List ℕ
without_mic frame = take 81 frame ++ replicate 16 0 ++ drop 97 frame

-- HMAC-SHA-1-128, with key descriptor version 2
unfoldable pub mic_sha1 : List ℕ → List ℕ → List ℕ
mic_sha1 kck frame = take 16 (hmac sha1 kck (without_mic frame))

-- AES-128-CMAC, with key descriptor version 3
unfoldable pub mic_cmac : List ℕ → List ℕ → List ℕ
mic_cmac kck frame = cmac kck (without_mic frame)

-- the MIC by the suite: HMAC-SHA-1 cut to 128 bits with suite 2, CMAC with suites 4 and 6 (12.7.3)
abbrev pub mic : Akm → List ℕ → List ℕ → List ℕ
mic Psk kck frame = mic_sha1 kck frame
mic PskSha256 kck frame = mic_cmac kck frame
mic FtPsk kck frame = mic_cmac kck frame
