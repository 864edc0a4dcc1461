-- The two functions that expand a key (IEEE Std 802.11-2020, 12.7.1.2, 12.7.1.6.2).
use Rattle.std.specs.Prelude.{ℕ, ◌*◌, List, [], ◌∷◌, ◌++◌, take}
use Rattle.std.specs.Int.{w16, to_le_bytes, div_ceil}
use Rattle.std.specs.List.{flat_map, range_with_len}
use Rattle.sha1.specs.Sha1.{sha1}
use Rattle.sha2.specs.Sha256.{sha256}
use Rattle.mac_prf.specs.Hmac.{hmac}

-- HMAC-SHA-1(K, A || 00 || B || i), with i as one octet (12.7.1.2)
abbrev pub prf_block : List ℕ → List ℕ → List ℕ → ℕ → List ℕ
prf_block key label context i = hmac sha1 key (label ++ 0 ∷ [] ++ context ++ i ∷ [])

-- the first n octets of the blocks of i = 0, 1,.., each of 20 octets (12.7.1.2)
unfoldable pub prf : List ℕ → List ℕ → List ℕ → ℕ → List ℕ
prf key label context n =
    take n (flat_map (prf_block key label context) (range_with_len 0 (div_ceil n 20)))

-- HMAC-SHA-256(K, i || label || context || bits), with i and the number of bits as two octets, lowest first
-- (12.7.1.6.2)
abbrev pub kdf_block : List ℕ → List ℕ → List ℕ → ℕ → ℕ → List ℕ
kdf_block key label context bits i =
    hmac sha256 key (to_le_bytes w16 i ++ label ++ context ++ to_le_bytes w16 bits)

-- the first n octets of the blocks of i = 1, 2,.., each of 32 octets (12.7.1.6.2)
unfoldable pub kdf : List ℕ → List ℕ → List ℕ → ℕ → List ℕ
kdf key label context n =
    take n (flat_map (kdf_block key label context (8 * n)) (range_with_len 1 (div_ceil n 32)))
