-- A cache of PMK-R1s: which it has, and what asking for one leaves of them (profile).
use Rattle.std.specs.Prelude.{◌≡◌, ℕ, ◌-◌, Bool, true, false, ◌&&◌, if◌then◌else◌, List, [], ◌∷◌, map, take, Contains, bytes_eq}
use Rattle.std.specs.List.{list_any}
use Rattle.domain_base.specs.declared.names.Mac.{Mac}
use Rattle.key_hierarchy.specs.declared.fast_transition.PmkR1.{PmkR1}
use Rattle.key_holders.specs.declared.rows.HolderRow.{HolderRow}
use Rattle.key_holders.specs.declared.r1_cache.R1Pair.{R1Pair}
use Rattle.key_holders.specs.declared.r1_cache.CacheAnswer.{CacheAnswer}
use Rattle.key_holders.specs.declared.r1_cache.CacheAnswer.TheVariants.{Hit, Kept, NotKept}
use Rattle.key_holders.specs.Keys.{row_r1}

-- the pairs whose keys it has, the one asked for last first, and how many there may be
pub record Cached : Type 0 where
  pub pairs : List R1Pair
  pub capacity : ℕ

-- it has none
abbrev pub no_keys : ℕ → Cached
no_keys n = record { pairs = []; capacity = n }

-- a row and the R1KH-ID of an access point
abbrev pub pair_of : HolderRow → Mac → R1Pair
pair_of row r1kh = record { row = row; r1kh = r1kh }

-- two rows have one name, one key and one station
abbrev pub is_row : HolderRow → HolderRow → Bool
is_row a b = bytes_eq a.name b.name && (bytes_eq a.key b.key && bytes_eq a.sta.0 b.sta.0)

-- the whole row and the R1KH-ID are those of the pair
abbrev pub is_pair : R1Pair → R1Pair → Bool
is_pair p q = is_row p.row q.row && bytes_eq p.r1kh.0 q.r1kh.0

-- the pair stands in the list
abbrev pub stands : R1Pair → List R1Pair → Bool
stands p ps = list_any (is_pair p) ps

-- the list without the pair
abbrev pub without : R1Pair → List R1Pair → List R1Pair
without p [] = []
without p (q ∷ qs) = if is_pair p q then qs else q ∷ without p qs

-- it has other pairs
abbrev pub with_pairs : Cached → List R1Pair → Cached
with_pairs c ps = record { pairs = ps; capacity = c.capacity }

-- The cache before and after a pair's key was asked for. Where the pair stood, it goes to the front. Where it did not, it
-- comes to the front, and from a full cache the last pair goes; or there was no memory, and all stays.
abbrev pub CacheAfter : R1Pair → Cached → CacheAnswer → Cached → Type 0
CacheAfter p c Hit d = (stands p c.pairs ≡ true) × (d ≡ with_pairs c (p ∷ without p c.pairs))
CacheAfter p c Kept d = (stands p c.pairs ≡ false) × (d ≡ with_pairs c (p ∷ take (c.capacity - 1) c.pairs))
CacheAfter p c NotKept d = (stands p c.pairs ≡ false) × (d ≡ c)

-- the pairs of the keys that are kept
abbrev pub pairs_of : List (R1Pair × PmkR1) → List R1Pair
pairs_of es = map (λ e. e.0) es

-- each key is the one that the row of its pair makes for that R1 key holder (IEEE Std 802.11-2020, 12.7.1.6.4)
abbrev pub AreDerived : List (R1Pair × PmkR1) → Type 0
AreDerived es = (e : R1Pair × PmkR1) → Contains es e → e.1 ≡ row_r1 e.0.row e.0.r1kh
