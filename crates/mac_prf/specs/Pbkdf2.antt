-- PBKDF2 with HMAC-SHA-1, as IEEE Std 802.11-2020, J.4 uses it (RFC 8018, 5.2).
use Rattle.std.specs.Prelude.{ℕ, zero, suc, List, ◌++◌, replicate, take}
use Rattle.std.specs.Int.{w32, to_be_bytes}
use Rattle.sha1.specs.Sha1.{sha1}
use Rattle.aes_block.specs.Octets.{exclusive_or}
use Rattle.mac_prf.specs.Hmac.{hmac}

-- U_n: U_0 is the salt with the number of the block, and each next is the HMAC of the one before
unfoldable pub iterate : List ℕ → List ℕ → ℕ → List ℕ
iterate passphrase text zero = text
iterate passphrase text (suc n) = hmac sha1 passphrase (iterate passphrase text n)

-- U_1 xor U_2 xor.. xor U_n
unfoldable pub sum_of_iterates : List ℕ → List ℕ → ℕ → List ℕ
sum_of_iterates passphrase text zero = replicate 20 0
sum_of_iterates passphrase text (suc n) =
    exclusive_or (sum_of_iterates passphrase text n) (iterate passphrase text (suc n))

-- F(P, S, c, i), with i as four octets, highest first
abbrev pub pbkdf2_block : List ℕ → List ℕ → ℕ → ℕ → List ℕ
pbkdf2_block passphrase salt count i =
    sum_of_iterates passphrase (salt ++ to_be_bytes w32 i) count

-- the 256 bits of a passphrase and an SSID: 4096 iterations (IEEE Std 802.11-2020, J.4)
unfoldable pub pbkdf2 : List ℕ → List ℕ → List ℕ
pbkdf2 passphrase ssid =
    take 32 (pbkdf2_block passphrase ssid 4096 1 ++ pbkdf2_block passphrase ssid 4096 2)
