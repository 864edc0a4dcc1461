-- How long keyed digests are.
use Rattle.std.proofs.Common.{◌≡◌, ℕ, List, length, refl}
use Rattle.sha1.specs.Sha1.{sha1, digest_bytes}
use Rattle.sha2.specs.Sha256.{sha256}
use Rattle.sha2.specs.Sha256 as S256
use Rattle.aes_block.proofs.CipherLemmas.{length-cipher}
use Rattle.mac_prf.specs.Cmac.{cmac}
use Rattle.mac_prf.specs.Hmac.{hmac}

-- HMAC-SHA-1 has 20 octets
pub length-hmac_sha1 : (key text : List ℕ) → length (hmac sha1 key text) ≡ 20
unfolding hmac sha1 digest_bytes
length-hmac_sha1 key text = refl

-- HMAC-SHA-256 has 32 octets
pub length-hmac_sha256 : (key text : List ℕ) → length (hmac sha256 key text) ≡ 32
unfolding hmac sha256 S256.digest_bytes
length-hmac_sha256 key text = refl

-- a CMAC has 16 octets
pub length-cmac : (key text : List ℕ) → length (cmac key text) ≡ 16
unfolding cmac
length-cmac key text = length-cipher key _
