-- Blocks, and the exclusive-or of lists of octets (FIPS 197, 3.1).
use Rattle.std.specs.Prelude.{◌≡◌, ℕ, List, [], ◌∷◌, length, bit_xor}
use Rattle.domain_base.specs.Octets.{AreOctets}

-- sixteen octets: a block, or a key of 128 bits
pub record IsBlock (octets : List ℕ) : Type 0 where
  pub sixteen : length octets ≡ 16
  pub are_octets : AreOctets octets

-- exclusive or, octet by octet; where the second list ends, the first goes on as it is (FIPS 197, 4.1)
unfoldable pub exclusive_or : List ℕ → List ℕ → List ℕ
exclusive_or [] ys = []
exclusive_or (x ∷ xs) [] = x ∷ xs
exclusive_or (x ∷ xs) (y ∷ ys) = bit_xor x y ∷ exclusive_or xs ys
