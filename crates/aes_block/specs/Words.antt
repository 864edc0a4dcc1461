-- The columns of a state as words of 32 bits, as the code keeps them: each has the four octets of a column, the one of
-- the first row in its highest bits (profile).
use Rattle.std.specs.Prelude.{◌≡◌, ◌<◌, ℕ, ◌+◌, ◌*◌, ◌%◌, ◌^◌, List, [], ◌∷◌, ◌++◌, slice_index, slice_index_or, bit_xor}
use Rattle.std.specs.Int.{to_be_bytes, w32}
use Rattle.aes_block.specs.Octets.{IsBlock}
use Rattle.aes_block.specs.Field.{product, sub_octet}
use Rattle.aes_block.specs.State.{entry, state_of, mixed}
use Rattle.aes_block.specs.Cipher.{round_key}

-- the word of four octets
unfoldable pub word : ℕ → ℕ → ℕ → ℕ → ℕ
word a b c d = ((a * 2 ^ 8 + b) * 2 ^ 8 + c) * 2 ^ 8 + d

-- the four columns of a state
unfoldable pub columns : List ℕ → List ℕ
columns s = column 0 ∷ column 4 ∷ column 8 ∷ column 12 ∷ [] where
  column : ℕ → ℕ
  column top = word (slice_index s top) (slice_index s (top + 1)) (slice_index s (top + 2)) (slice_index s (top + 3))

-- the octets of four words
unfoldable pub octets_of : List ℕ → List ℕ
octets_of words = of_word 0 ++ of_word 1 ++ of_word 2 ++ of_word 3 where
  of_word : ℕ → List ℕ
  of_word n = to_be_bytes w32 (slice_index words n)

-- the column of four octets after SUBBYTES (FIPS 197, 5.1.1)
unfoldable pub substituted_word : ℕ → ℕ → ℕ → ℕ → ℕ
substituted_word a b c d = word (sub_octet a) (sub_octet b) (sub_octet c) (sub_octet d)

-- the column of four octets after MIXCOLUMNS (FIPS 197, 5.1.3)
unfoldable pub mixed_word : ℕ → ℕ → ℕ → ℕ → ℕ
mixed_word a b c d = word (mixed a b c d) (mixed b c d a) (mixed c d a b) (mixed d a b c)

-- the first octet of a column after INVMIXCOLUMNS, from the column's four (FIPS 197, 5.3.3)
abbrev pub unmixed : ℕ → ℕ → ℕ → ℕ → ℕ
unmixed a b c d = bit_xor (bit_xor (product 14 a) (product 11 b)) (bit_xor (product 13 c) (product 9 d))

-- the column of four octets after INVMIXCOLUMNS (FIPS 197, 5.3.3)
unfoldable pub unmixed_word : ℕ → ℕ → ℕ → ℕ → ℕ
unmixed_word a b c d = word (unmixed a b c d) (unmixed b c d a) (unmixed c d a b) (unmixed d a b c)

-- INVMIXCOLUMNS: 14, 11, 13 and 9 times the octets of each column (FIPS 197, 5.3.3)
unfoldable pub unmix_columns : List ℕ → List ℕ
unmix_columns state = state_of (λ row column.
    unmixed (entry state row column) (entry state ((row + 1) % 4) column)
    (entry state ((row + 2) % 4) column) (entry state ((row + 3) % 4) column))

-- what a `ForwardAes128` keeps: the round keys of a key (FIPS 197, 5.2)
pub record HasRoundKeys (round_keys : List (List ℕ)) (key : List ℕ) : Type 0 where
  pub is_block : IsBlock key
  pub rounds : (n : ℕ) → n < 11 → slice_index_or round_keys n [] ≡ columns (round_key key n)

-- what an `Aes128` keeps: the round keys of a key, and those of the nine rounds in between with unmixed columns (FIPS
-- 197, 5.2, 5.3.5)
pub record IsExpanded (round_keys unmixed_keys : List (List ℕ)) (key : List ℕ) : Type 0 where
  pub is_block : IsBlock key
  pub rounds : (n : ℕ) → n < 11 → slice_index_or round_keys n [] ≡ columns (round_key key n)
  pub between : (n : ℕ) → n < 9 → slice_index_or unmixed_keys n [] ≡ columns (unmix_columns (round_key key (n + 1)))
