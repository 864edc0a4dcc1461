-- The state of the cipher: a list of 16 octets in the order of the block, so that the octet of row r and column c is at
-- place r + 4 * c (FIPS 197, 3.4).
use Rattle.std.specs.Prelude.{ℕ, ◌+◌, ◌*◌, ◌/◌, ◌%◌, List, slice_index, map, bit_xor}
use Rattle.std.specs.List.{range_with_len}
use Rattle.aes_block.specs.Field.{product, sub_octet}

-- the octet of a row and a column
abbrev pub entry : List ℕ → ℕ → ℕ → ℕ
entry state row column = slice_index state (row + 4 * column)

-- the state in which the octet of each row and column is the one that f gives
unfoldable pub state_of : (ℕ → ℕ → ℕ) → List ℕ
state_of f = map (λ place. f (place % 4) (place / 4)) (range_with_len 0 16)

-- SUBBYTES, and SUBWORD at a word (FIPS 197, 5.1.1, 5.2)
unfoldable pub sub_octets : List ℕ → List ℕ
sub_octets octets = map sub_octet octets

-- SHIFTROWS: each row is shifted to the left, row r by r places (FIPS 197, 5.1.2)
unfoldable pub shift_rows : List ℕ → List ℕ
shift_rows state = state_of (λ row column. entry state row ((column + row) % 4))

-- the first octet of a column after MIXCOLUMNS, from the column's four (FIPS 197, 5.1.3)
abbrev pub mixed : ℕ → ℕ → ℕ → ℕ → ℕ
mixed a b c d = bit_xor (bit_xor (product 2 a) (product 3 b)) (bit_xor c d)

-- MIXCOLUMNS: each octet from the four of its column, from its own row downward (FIPS 197, 5.1.3)
unfoldable pub mix_columns : List ℕ → List ℕ
mix_columns state = state_of (λ row column.
    mixed (entry state row column) (entry state ((row + 1) % 4) column)
    (entry state ((row + 2) % 4) column) (entry state ((row + 3) % 4) column))
