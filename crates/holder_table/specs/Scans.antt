-- What a walk over the rows of an access point finds (profile).
use Rattle.std.specs.Prelude.{◌≡◌, ℕ, ◌<◌, ◌≤◌, false, List, length, Option, MatchOption, Some, slice_get}
use Rattle.domain_base.specs.declared.names.Mac.{Mac}
use Rattle.key_holders.specs.declared.rows.HolderRow.{HolderRow}
use Rattle.holder_table.specs.declared.row_table.Spot.{Spot}
use Rattle.holder_table.specs.declared.row_table.Spot.TheVariants.{Live, Free}
use Rattle.holder_table.specs.declared.view.View.{View}
use Rattle.holder_table.specs.Histories.{HeldRow, live, held_at}
use Rattle.holder_table.specs.Steps.{load_of}
use Rattle.holder_table.specs.Knowledge.{LastLoad}

-- A row of that name and, where one is given, of that station.
abbrev pub Asked : List ℕ → Option Mac → HolderRow → Type 0
Asked name sta row = (row.name ≡ name) × MatchOption sta (Unit {0}) (λ s. row.sta ≡ s)

-- Each row that is asked for is revoked.
abbrev pub NoneIsLive : (HolderRow → Type 0) → List HeldRow → Type 0
NoneIsLive Is ps = (j : ℕ) (p : HeldRow) → slice_get ps j ≡ Some p → Is p.row → p.live ≡ false

-- A live row was found, whose state word was loaded last, as 1; or none lives, and the first place without a row was
-- loaded last, as 0.
abbrev pub Spotted : ℕ → List ℕ → Option Mac → View → View → Spot → Type 0
Spotted ap name sta v w (Live j) = (j < 64) × ((row : HolderRow) × (slice_get (held_at ap w.seen) j ≡ Some (live row)) × Asked name sta row) × LastLoad (load_of ap j 1) v w
Spotted ap name sta v w (Free n) = NoneIsLive (Asked name sta) (held_at ap w.seen) × (length (held_at ap w.seen) ≡ n) × (n ≤ 64) × (n < 64 → LastLoad (load_of ap n 0) v w)

-- Of the first n rows, which are there, each that is asked for is revoked.
abbrev pub Passed : (HolderRow → Type 0) → ℕ → List HeldRow → Type 0
Passed Is n ps = (n ≤ length ps) × ((j : ℕ) (p : HeldRow) → j < n → slice_get ps j ≡ Some p → Is p.row → p.live ≡ false)
