-- Where the stations of a list stand, by their addresses (profile).
-- For the code alone: no public contract speaks of it.
use Rattle.std.specs.Prelude.{ℕ, ◌≡◌, ◌≢◌, ◌<◌, ◌==◌, List, [], ◌∷◌, ◌++◌, length, take, position, bytes_eq, slice_index, vec_len, vec_capacity, Bool, Some, None}
use Rattle.std.specs.List.{AllByRecursion}
use Rattle.std.specs.List.Sorted.{IsNonDecreasing}
use Rattle.std.specs.Int.{w64, to_le_bytes, from_le_bytes}
use Rattle.run_journal.specs.declared.domain.ListedSta.{ListedSta}
use Rattle.run_journal.specs.declared.places.Places.{Places}

-- the number that stands for an address: its octets, the lowest first
unfoldable pub number_of : List ℕ → ℕ
number_of octets = from_le_bytes w64 (take 6 octets ++ 0 ∷ 0 ∷ [])

-- its octets are read from the number again
abbrev pub IsWhole : List ℕ → Type 0
IsWhole octets = to_le_bytes w64 (number_of octets) ≡ octets ++ 0 ∷ 0 ∷ []

-- a station has that address
abbrev pub has : List ℕ → ListedSta → Bool
has octets s = bytes_eq s.address.0 octets

-- its address has that number
abbrev pub is_numbered : ℕ → ListedSta → Bool
is_numbered number s = number_of s.address.0 == number

-- The numbers rise. Beside each is the first place of a station whose address has it, and no station's number is missing.
pub record Indexes (stas : List ListedSta) (numbers places : List ℕ) : Type 0 where
  pub rising : IsNonDecreasing numbers
  pub even : length places ≡ length numbers
  pub first : (i : ℕ) → i < length numbers → position (is_numbered (slice_index numbers i)) stas ≡ Some (slice_index places i)
  pub absent : (n : ℕ) → ((i : ℕ) → i < length numbers → slice_index numbers i ≢ n) → position (is_numbered n) stas ≡ None
  pub whole : AllByRecursion (λ (s : ListedSta). IsWhole s.address.0) stas

abbrev pub IsIndexOf : List ListedSta → Places → Type 0
IsIndexOf stas t = Indexes stas t.numbers.items t.places.items

-- there is room for one more
pub record HasRoom (t : Places) : Type 0 where
  pub numbers : vec_len t.numbers < vec_capacity t.numbers
  pub places : vec_len t.places < vec_capacity t.places
