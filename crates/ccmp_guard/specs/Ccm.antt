-- CCM with AES-128, an authentication field of M = 8 octets and a length field of L = 2 octets (RFC 3610).
use Rattle.std.specs.Prelude.{◌≡◌, ℕ, zero, suc, ◌*◌, ◌-◌, ◌<◌, ◌^◌, ◌==◌, List, [], ◌∷◌, ◌++◌, length, take, drop, replicate, if◌then◌else◌}
use Rattle.std.specs.Int.{w16, to_be_bytes, div_ceil}
use Rattle.domain_base.specs.Octets.{AreOctets}
use Rattle.aes_block.specs.Octets.{exclusive_or}
use Rattle.aes_block.specs.Cipher.{cipher}

-- a block that is not whole, filled up with zeros (RFC 3610, 2.2)
abbrev pub filled : List ℕ → List ℕ
filled block = block ++ replicate (16 - length block) 0

-- octets split into blocks of 16: how many there are, and the block with n blocks before it (RFC 3610, 2.2)
abbrev pub block_count : List ℕ → ℕ
block_count octets = div_ceil (length octets) 16

abbrev pub block_after : ℕ → List ℕ → List ℕ
block_after n octets = filled (take 16 (drop (16 * n) octets))

-- the CBC-MAC: X after the first n blocks of the octets, from what it was before them, X_i+1:= E(K, X_i XOR B_i) (RFC
-- 3610, 2.2)
unfoldable pub chained : List ℕ → List ℕ → List ℕ → ℕ → List ℕ
chained key x octets zero = x
chained key x octets (suc n) = cipher key (exclusive_or (chained key x octets n) (block_after n octets))

-- X after all blocks of the octets (RFC 3610, 2.2)
abbrev pub chained_all : List ℕ → List ℕ → List ℕ → List ℕ
chained_all key x octets = chained key x octets (block_count octets)

-- B_0: flags, the nonce of 13 octets, and the length of the message in 2. The flags are 64 * Adata + 8 * (M - 2) / 2 +
-- L - 1, where Adata is 1 exactly where there are additional authenticated data (RFC 3610, 2.2)
abbrev pub first_block : List ℕ → List ℕ → ℕ → List ℕ
first_block nonce aad size = (if length aad == 0 then 0x19 else 0x59) ∷ nonce ++ to_be_bytes w16 size

-- the additional authenticated data after their length in 2 octets; without any there is no block of them (RFC 3610,
-- 2.2)
abbrev pub aad_octets : List ℕ → List ℕ
aad_octets aad = if length aad == 0 then [] else to_be_bytes w16 (length aad) ++ aad

-- X after B_0, X_1:= E(K, B_0), and the blocks of the additional authenticated data (RFC 3610, 2.2)
unfoldable pub begun : List ℕ → List ℕ → List ℕ → ℕ → List ℕ
begun key nonce aad size = chained_all key (cipher key (first_block nonce aad size)) (aad_octets aad)

-- T: the first 8 octets of X after the blocks of the message too (RFC 3610, 2.2)
abbrev pub authentication : List ℕ → List ℕ → List ℕ → List ℕ → List ℕ
authentication key nonce aad plain = take 8 (chained_all key (begun key nonce aad (length plain)) plain)

-- A_i: flags, which are L - 1, the nonce, and i in 2 octets (RFC 3610, 2.3)
unfoldable pub counter_block : List ℕ → ℕ → List ℕ
counter_block nonce i = 0x01 ∷ nonce ++ to_be_bytes w16 i

-- S_i:= E(K, A_i) (RFC 3610, 2.3)
abbrev pub key_block : List ℕ → List ℕ → ℕ → List ℕ
key_block key nonce i = cipher key (counter_block nonce i)

-- S_1 to S_n in a row (RFC 3610, 2.3)
unfoldable pub key_stream : List ℕ → List ℕ → ℕ → List ℕ
key_stream key nonce zero = []
key_stream key nonce (suc n) = key_stream key nonce n ++ key_block key nonce (suc n)

-- the message exclusive or as many octets of S_1, S_2,.. as it has (RFC 3610, 2.3)
abbrev pub encrypted : List ℕ → List ℕ → List ℕ → List ℕ
encrypted key nonce plain = exclusive_or plain (key_stream key nonce (block_count plain))

-- U:= T XOR the first 8 octets of S_0 (RFC 3610, 2.3)
abbrev pub encrypted_authentication : List ℕ → List ℕ → List ℕ → List ℕ → List ℕ
encrypted_authentication key nonce aad plain = exclusive_or (authentication key nonce aad plain) (key_block key nonce 0)

-- a message of octets, of at most 65,535, and what it is sealed to: the encrypted message with U after it (RFC 3610,
-- 2.4)
pub record Sealed (key nonce aad plain out : List ℕ) : Type 0 where
  pub octets : AreOctets plain
  pub short : length plain < 2 ^ 16
  pub sealed : out ≡ encrypted key nonce plain ++ encrypted_authentication key nonce aad plain
