-- AES-128: the cipher with a key of 16 octets, on blocks of 16 octets. Here and in this whole crate FIPS 197 is cited
-- in its text of 2023 (FIPS 197, 5.1).
use Rattle.std.specs.Prelude.{◌≡◌, ℕ, zero, suc, ◌*◌, List, [], ◌∷◌, ◌++◌, take, drop}
use Rattle.aes_block.specs.Octets.{IsBlock, exclusive_or}
use Rattle.aes_block.specs.Field.{times_x}
use Rattle.aes_block.specs.State.{sub_octets, shift_rows, mix_columns}

-- word i of a round key: four octets (FIPS 197, 5.2)
abbrev pub word_at : List ℕ → ℕ → List ℕ
word_at key i = take 4 (drop (4 * i) key)

-- ROTWORD: a word turned by an octet (FIPS 197, 5.2)
abbrev pub rotated_word : List ℕ → List ℕ
rotated_word word = drop 1 word ++ take 1 word

-- x^n, the first octet of the round constant Rcon[n + 1] (FIPS 197, 5.2)
unfoldable pub power_of_x : ℕ → ℕ
power_of_x zero = 1
power_of_x (suc n) = times_x (power_of_x n)

-- the four words after those of a round key: each is the word four places before it exclusive or the
-- word just before it, which at the first of them is turned, substituted and given the round constant
-- (FIPS 197, 5.2)
unfoldable pub next_round_key : ℕ → List ℕ → List ℕ
next_round_key constant key = first ++ second ++ third ++ fourth where
  first : List ℕ
  first = exclusive_or (word_at key 0) (exclusive_or (sub_octets (rotated_word (word_at key 3))) (constant ∷ 0 ∷ 0 ∷ 0 ∷ []))

  second : List ℕ
  second = exclusive_or (word_at key 1) first

  third : List ℕ
  third = exclusive_or (word_at key 2) second

  fourth : List ℕ
  fourth = exclusive_or (word_at key 3) third

-- round key n: words 4 * n to 4 * n + 3 of the expanded key (FIPS 197, 5.2)
unfoldable pub round_key : List ℕ → ℕ → List ℕ
round_key key zero = key
round_key key (suc n) = next_round_key (power_of_x n) (round_key key n)

-- the state after n rounds, each of them a full one
unfoldable pub after_rounds : List ℕ → List ℕ → ℕ → List ℕ
after_rounds key block zero = exclusive_or block (round_key key 0)
after_rounds key block (suc n) =
    exclusive_or (mix_columns (shift_rows (sub_octets (after_rounds key block n)))) (round_key key (suc n))

-- the block that a block is encrypted to: after nine full rounds a last one that does not mix the columns
unfoldable pub cipher : List ℕ → List ℕ → List ℕ
cipher key block = exclusive_or (shift_rows (sub_octets (after_rounds key block 9))) (round_key key 10)

-- decryption, the inverse relation: `plain` is a block that is encrypted to `block` (FIPS 197, 5.3)
pub record Decrypts (key block plain : List ℕ) : Type 0 where
  pub is_block : IsBlock plain
  pub encrypted : cipher key plain ≡ block
