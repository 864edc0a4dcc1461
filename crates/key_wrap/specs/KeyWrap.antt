-- Key wrap under a key-encryption key of 128 bits, by the description in which the registers are shifted. A block of
-- key wrap has 8 octets, and blocks stand in a row (RFC 3394, 2.2.1).
use Rattle.std.specs.Prelude.{◌≡◌, ℕ, zero, suc, ◌*◌, ◌/◌, ◌%◌, ◌≤◌, List, ◌++◌, length, take, drop, replicate}
use Rattle.std.specs.Int.{w64, to_be_bytes}
use Rattle.domain_base.specs.Octets.{AreOctets}
use Rattle.aes_block.specs.Octets.{exclusive_or}
use Rattle.aes_block.specs.Cipher.{cipher}

-- the registers: A, of 8 octets, and R[1] to R[n] (RFC 3394, 2.2)
pub record Registers : Type 0 where
  pub check : List ℕ
  pub blocks : List ℕ

-- the number of a step as 8 octets, high first
unfoldable pub counter : ℕ → List ℕ
counter t = to_be_bytes w64 t

-- step t: A and the first block are encrypted together; the upper half exclusive or t is the new A, the other blocks
-- move up, and the lower half is the new last block
unfoldable pub step : List ℕ → ℕ → Registers → Registers
step kek t s = record {
  check = exclusive_or (take 8 encrypted) (counter t);
  blocks = drop 8 s.blocks ++ drop 8 encrypted;
} where
  encrypted : List ℕ
  encrypted = cipher kek (s.check ++ take 8 s.blocks)

-- the registers after steps 1 to t
unfoldable pub after_steps : List ℕ → Registers → ℕ → Registers
after_steps kek start zero = start
after_steps kek start (suc t) = step kek (suc t) (after_steps kek start t)

-- the initial value, A6A6A6A6A6A6A6A6 (RFC 3394, 2.2.3.1)
abbrev pub initial_value : List ℕ
initial_value = replicate 8 0xa6

-- the registers at the end: after 6 * n steps, where the plain text has n blocks
abbrev pub last_registers : List ℕ → List ℕ → Registers
last_registers kek plain =
    after_steps kek (record { check = initial_value; blocks = plain }) (6 * (length plain / 8))

-- the plain text, of at least two whole blocks, is wrapped to `out`: A and the blocks after 6n steps (RFC 3394, 2,
-- 2.2.1)
pub record Wraps (kek plain out : List ℕ) : Type 0 where
  pub whole_blocks : length plain % 8 ≡ 0
  pub two_blocks : 16 ≤ length plain
  pub are_octets : AreOctets plain
  pub wrapped : out ≡ (last_registers kek plain).check ++ (last_registers kek plain).blocks
