-- What a history of puts and revocations leaves at each access point. The newest event stands first (profile).
use Rattle.std.specs.Prelude.{◌≡◌, ℕ, zero, suc, ◌==◌, true, false, if◌then◌else◌, List, [], ◌∷◌, ◌++◌, Some, slice_get}
pub use Rattle.key_holders.specs.declared.rows.HeldRow.{HeldRow}
pub use Rattle.key_holders.specs.Rows.{is_in, live}
use Rattle.holder_table.specs.declared.history.HolderEvent.{HolderEvent}
use Rattle.holder_table.specs.declared.history.HolderEvent.TheVariants.{Put, Revoke}

-- the j-th row is live no longer
abbrev pub ended_at : ℕ → List HeldRow → List HeldRow
ended_at j [] = []
ended_at zero (h ∷ hs) = record { row = h.row; live = false } ∷ hs
ended_at (suc j) (h ∷ hs) = h ∷ ended_at j hs

-- the rows of the access point r, in the order in which they were put
abbrev pub held_at : ℕ → List HolderEvent → List HeldRow
held_at r [] = []
held_at r (Put ap row ∷ h) = if ap == r then held_at r h ++ live row ∷ [] else held_at r h
held_at r (Revoke ap j ∷ h) = if ap == r then ended_at j (held_at r h) else held_at r h

-- the later history goes on from the earlier one
abbrev pub Follows : List HolderEvent → List HolderEvent → Type 0
Follows earlier later = (since : List HolderEvent) × (later ≡ since ++ earlier)

-- no row is lost, and none that was revoked lives again
abbrev pub Grows : List HeldRow → List HeldRow → Type 0
Grows ps qs = (j : ℕ) (p : HeldRow) → slice_get ps j ≡ Some p → (q : HeldRow) × (slice_get qs j ≡ Some q) × (q.row ≡ p.row) × (p.live ≡ false → q.live ≡ false)

-- no two live rows have one PMKR0Name
abbrev pub NoTwins : List HeldRow → Type 0
NoTwins ps = (i j : ℕ) (p q : HeldRow) → slice_get ps i ≡ Some p → slice_get ps j ≡ Some q → p.live ≡ true → q.live ≡ true → p.row.name ≡ q.row.name → i ≡ j
