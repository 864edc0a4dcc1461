-- The rule of the shared holders, which holds between any two steps (profile).
use Rattle.std.specs.Prelude.{◌≡◌, ◌≢◌, ℕ, ◌<◌, ◌≤◌, true, false, ◌⊎◌, List, [], length, All, Some, slice_get, slice_index}
use mathlib.Core.Option.{some}
use lib.ListN.{get_elem?}
use Rattle.atomic_table.specs.Table.{State}
use Rattle.holder_table.specs.declared.history.HolderEvent.{HolderEvent}
pub use Rattle.key_holders.specs.Rows.{is_in}
pub use Rattle.key_holders.specs.Listed.{below}
use Rattle.holder_table.specs.Histories.{HeldRow, held_at, Follows}
use Rattle.holder_table.specs.declared.view.View.{View}
use Rattle.holder_table.specs.declared.view.Load.{Load}
use Rattle.holder_table.specs.Words.{Shows, data_word}

-- The pass of the whole table: it has all access points, and the history is empty.
abbrev pub first_view : ℕ → View
first_view aps = record { has = below aps; seen = []; loads = []; writes = 0; draft = []; brought = []; told = []; gives = 0 }

-- a pass has that access point, by itself or by a pass that joined it
abbrev pub Owns : View → ℕ → Type 0
Owns v r = (is_in r v.has ≡ true) ⊎ (is_in r v.brought ≡ true)

-- What lasts of the load of a state word: where it was not 0, there is a row at its place, and where it was 3, that row is
-- revoked. Else it says nothing of what the word is later.
abbrev pub Lasts : List HolderEvent → Load → Type 0
Lasts log l = l.state ≢ 0 → (p : HeldRow) × (slice_get (held_at l.ap log) l.place ≡ Some p) × (l.state ≡ 3 → p.live ≡ false)

-- What lasts of the loads that a pass lists is so in the history that it has seen.
abbrev pub LoadsLast : View → Type 0
LoadsLast v = All (Lasts v.seen) v.loads

-- What a pass knows is so: it has seen an earlier history, which has all that was done at its own access points, and what
-- lasts of the loads that it lists is so now.
pub record Fits (aps : ℕ) (words : List ℕ) (log : List HolderEvent) (v : View) : Type 0 where
  pub seen : Follows v.seen log
  pub told : Follows v.told log
  pub own : (r : ℕ) → is_in r v.has ≡ true → held_at r log ≡ held_at r v.seen
  pub brought : (r : ℕ) → is_in r v.brought ≡ true → held_at r log ≡ held_at r v.told
  pub listed : (r : ℕ) → Owns v r → r < aps
  pub loads : All (Lasts log) v.loads
  pub short : length v.draft ≤ 7
  pub draft : (k n : ℕ) → slice_get v.draft k ≡ Some n → (is_in v.writes v.has ≡ true) × (length (held_at v.writes log) < 64) × (slice_index words (data_word v.writes (length (held_at v.writes log)) k) ≡ n)

-- No two passes have one access point.
abbrev pub Alone : List View → Type 0
Alone views = (a b : ℕ) (v w : View) (r : ℕ) → get_elem? views a ≡ some v → get_elem? views b ≡ some w → Owns v r → Owns w r → a ≡ b

-- There is one history, which the words show and of which each pass knows a beginning.
pub record Kept (aps : ℕ) (s : State (Unit {0}) View) : Type 0 where
  pub log : List HolderEvent
  pub shows : Shows aps s.words log
  pub fits : (id : ℕ) (v : View) → get_elem? s.views id ≡ some v → Fits aps s.words log v
  pub alone : Alone s.views
