-- What the two hash states of an HMAC hold while its text comes in.
-- For the code alone: no public contract speaks of it.
use Rattle.std.specs.Prelude.{ℕ, List, ◌++◌}
use Rattle.mac_prf.specs.Hmac.{block_key, masked}

-- the states have taken in the text under the key; `holds` says what a state of the hash holds
pub record HoldsText {H : Type 0} (holds : H → List ℕ → Type 0) (hash : List ℕ → List ℕ)
    (inner outer : H) (key text : List ℕ) : Type 0 where
  pub inner_holds : holds inner (masked 0x36 (block_key hash key) ++ text)
  pub outer_holds : holds outer (masked 0x5c (block_key hash key))
