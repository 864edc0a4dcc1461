-- The words of the shared holders. Word 0 is free. A row takes eight words: its state, its PMKR0Name (two), its PMK-R0
-- (four) and its station's address, octets with the first highest, the address in the low 48 bits. Row j of access
-- point r begins at 1 + 8 * (64 * r + j) (profile).
use Rattle.std.specs.Prelude.{◌≡◌, ℕ, zero, suc, ◌+◌, ◌*◌, ◌<◌, ◌≤◌, ◌==◌, if◌then◌else◌, Bool, true, false, List, [], ◌∷◌, ◌++◌, length, drop, Some, slice_get, slice_index, slice_index_or}
use Rattle.std.specs.Int.{w64, to_be_bytes}
use Rattle.domain_base.specs.Places.{part}
use Rattle.key_holders.specs.declared.rows.HolderRow.{HolderRow}
use Rattle.holder_table.specs.declared.history.HolderEvent.{HolderEvent}
use Rattle.holder_table.specs.declared.words.NameWords.{NameWords}
use Rattle.holder_table.specs.declared.words.RowWords.{RowWords}
use Rattle.holder_table.specs.Histories.{HeldRow, held_at}

-- the place of the state word of a row
abbrev pub state_word : ℕ → ℕ → ℕ
state_word r j = 1 + 8 * (64 * r + j)

-- the k-th word of a row after its state
abbrev pub data_word : ℕ → ℕ → ℕ → ℕ
data_word r j k = 2 + 8 * (64 * r + j) + k

-- the octets that the k-th word holds
abbrev pub octets_in : ℕ → ℕ → List ℕ
octets_in k n = if k == 6 then part 2 6 (to_be_bytes w64 n) else to_be_bytes w64 n

-- the octets of a row that the k-th word holds
abbrev pub piece : HolderRow → ℕ → List ℕ
piece row k =
    slice_index_or (part 0 8 row.name ∷ drop 8 row.name ∷ part 0 8 row.key ∷ part 8 8 row.key ∷ part 16 8 row.key ∷ drop 24 row.key ∷ row.sta.0 ∷ []) k []

-- the row that these words make
abbrev pub row_of : List ℕ → HolderRow
row_of ws = record {
  name = octets_in 0 (slice_index ws 0) ++ octets_in 1 (slice_index ws 1);
  key = octets_in 2 (slice_index ws 2) ++ octets_in 3 (slice_index ws 3) ++ octets_in 4 (slice_index ws 4) ++ octets_in 5 (slice_index ws 5);
  sta = record { 0 = octets_in 6 (slice_index ws 6) };
}

-- the words of a row in their order
abbrev pub row_words : RowWords → List ℕ
row_words w = w.name.high ∷ w.name.low ∷ w.first ∷ w.second ∷ w.third ∷ w.fourth ∷ w.sta ∷ []

-- the octets of a PMKR0Name in two words
abbrev pub name_octets : NameWords → List ℕ
name_octets w = to_be_bytes w64 w.high ++ to_be_bytes w64 w.low

-- the state word of a row: 1 of a live one, 3 of a revoked one
abbrev pub live_word : Bool → ℕ
live_word true = 1
live_word false = 3

-- 0 where there is no row, 1 where it is live, 3 where it is revoked
abbrev pub state_of : List HeldRow → ℕ → ℕ
state_of [] j = 0
state_of (p ∷ ps) zero = live_word p.live
state_of (p ∷ ps) (suc j) = state_of ps j

-- the words show the rows that the history leaves
pub record Shows (aps : ℕ) (words : List ℕ) (log : List HolderEvent) : Type 0 where
  pub size : length words ≡ 1 + 512 * aps
  pub room : (r : ℕ) → length (held_at r log) ≤ 64
  pub states : (r j : ℕ) → j < 64 → slice_index words (state_word r j) ≡ state_of (held_at r log) j
  pub rows : (r j k : ℕ) (p : HeldRow) → slice_get (held_at r log) j ≡ Some p → k < 7 → octets_in k (slice_index words (data_word r j k)) ≡ piece p.row k
