-- CMAC with AES-128: the code of a text of any number of octets under a key of 16 octets (RFC 4493).
use Rattle.std.specs.Prelude.{ℕ, zero, suc, ◌*◌, ◌-◌, ◌%◌, ◌^◌, ◌==◌, List, ◌∷◌, ◌++◌, length, take, drop, replicate, bit_xor, nat_lt, if◌then◌else◌}
use Rattle.std.specs.Int.{w128, to_be_bytes, from_be_bytes, div_ceil}
use Rattle.aes_block.specs.Octets.{exclusive_or}
use Rattle.aes_block.specs.Cipher.{cipher}

-- a block as a number of 128 bits, shifted to the left by one bit; where its highest bit is 1,
-- exclusive or the constant 0x87 (RFC 4493, 2.3)
unfoldable pub doubled : List ℕ → List ℕ
doubled block = to_be_bytes w128 (if nat_lt bits (2 ^ 127) then shifted else bit_xor shifted 0x87) where
  bits : ℕ
  bits = from_be_bytes w128 block

  shifted : ℕ
  shifted = bits * 2 % 2 ^ 128

-- the subkeys K1 and K2 (RFC 4493, 2.3)
abbrev pub first_subkey : List ℕ → List ℕ
first_subkey key = doubled (cipher key (replicate 16 0))

abbrev pub second_subkey : List ℕ → List ℕ
second_subkey key = doubled (first_subkey key)

-- the number of blocks before the last, M_1 to M_(n-1); also a text of no octets has a last block; steps 2 and 3 (RFC
-- 4493, 2.4)
abbrev pub blocks_before_last : List ℕ → ℕ
blocks_before_last text = div_ceil (length text) 16 - 1

-- the octets of the last block: at most 16 (RFC 4493, 2.4)
abbrev pub last_octets : List ℕ → List ℕ
last_octets text = drop (16 * blocks_before_last text) text

-- fewer octets than a block, filled up by 0x80 and zeros; padding(x) (RFC 4493, 2.4)
abbrev pub padded : List ℕ → List ℕ
padded octets = octets ++ 0x80 ∷ replicate (15 - length octets) 0

-- M_last: the last block under K1 where it is whole, and padded under K2 where it is not; step 4 (RFC 4493, 2.4)
abbrev pub last_block : List ℕ → List ℕ → List ℕ
last_block key octets =
    if length octets == 16
    then exclusive_or octets (first_subkey key)
    else exclusive_or (padded octets) (second_subkey key)

-- X after the blocks M_1 to M_n; steps 5 and 6 (RFC 4493, 2.4)
unfoldable pub chained : List ℕ → List ℕ → ℕ → List ℕ
chained key text zero = replicate 16 0
chained key text (suc n) = cipher key (exclusive_or (chained key text n) (take 16 (drop (16 * n) text)))

-- T: X exclusive or the last block, encrypted; steps 6 and 7 (RFC 4493, 2.4)
unfoldable pub cmac : List ℕ → List ℕ → List ℕ
cmac key text =
    cipher key (exclusive_or (chained key text (blocks_before_last text)) (last_block key (last_octets text)))
