-- What the state of a CMAC holds while its text comes in.
-- For the code alone: no public contract speaks of it.
use Rattle.std.specs.Prelude.{◌≡◌, ℕ, ◌-◌, List, ◌++◌, length, replicate}
use Rattle.mac_prf.specs.Cmac.{blocks_before_last, last_octets, chained}

-- the blocks before the last are chained under the key, and the octets of the last, so many as were
-- counted, stand in `block` with zeros after them
pub record HoldsBlocks (cipher_key chain block : List ℕ) (count : ℕ) (key text : List ℕ) : Type 0 where
  pub keyed : cipher_key ≡ key
  pub before : chain ≡ chained key text (blocks_before_last text)
  pub counted : count ≡ length (last_octets text)
  pub last : block ≡ last_octets text ++ replicate (16 - count) 0
