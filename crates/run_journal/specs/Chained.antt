-- How a journal finds earlier entries: chains of entries by a mix of their octets.
-- For the code alone: no public contract speaks of it.
use Rattle.std.specs.Prelude.{ℕ, ◌≡◌, ◌≢◌, ◌<◌, ◌≤◌, ◌+◌, ◌*◌, ◌%◌, ◌^◌, bit_xor, List, length, slice_get, slice_index_or, fold, vec_len, vec_capacity, Option, Some, None}
use Rattle.run_journal.specs.declared.chains.Chains.{Chains}
use Rattle.run_journal.specs.declared.breadth.Breadth.{Breadth}
use Rattle.run_journal.specs.declared.breadth.Breadth.TheVariants.{Least, Lesser, Middle, Greater, Greatest}
use Rattle.run_journal.specs.declared.chains.TheConstants.{MOST}
use Rattle.run_journal.specs.declared.mixing.TheConstants.{PRIME}

-- one more octet in a mix (32-bit FNV-1a)
unfoldable pub mixed : ℕ → ℕ → ℕ
mixed mix octet = (bit_xor mix octet * PRIME) % 2 ^ 32

unfoldable pub mix : ℕ → List ℕ → ℕ
mix before octets = fold mixed before octets

-- how many chains there are
abbrev pub count_of : Breadth → ℕ
count_of Least = 4093
count_of Lesser = 32749
count_of Middle = 262139
count_of Greater = 2097143
count_of Greatest = 16777213

-- of the entries below n, whose chains are these, the last in the chain c
abbrev pub IsLast : List (Option ℕ) → ℕ → ℕ → Option ℕ → Type 0
IsLast chains c n None = (k : ℕ) → k < n → slice_get chains k ≢ Some (Some c)
IsLast chains c n (Some i) = (i < n) × ((slice_get chains i ≡ Some (Some c)) × ((k : ℕ) → i < k → k < n → slice_get chains k ≢ Some (Some c)))

-- they lead through entries that stand in these chains, in order
pub record Chained (chains : List (Option ℕ)) (t : Chains) : Type 0 where
  pub len : vec_len t.links ≡ length chains
  pub last : (c : ℕ) → IsLast chains c (length chains) (slice_index_or t.lasts.items c None)
  pub before : (c i : ℕ) → slice_get chains i ≡ Some (Some c) → IsLast chains c i (slice_index_or t.links.items i None)

-- there is room for so many more
pub record HasRoom (more : ℕ) (t : Chains) : Type 0 where
  pub links : vec_len t.links + more ≤ vec_capacity t.links
  pub few : vec_len t.links + more ≤ MOST
