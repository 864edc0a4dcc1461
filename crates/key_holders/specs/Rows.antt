-- The rows of an access point, in the order in which they were put, and what a put and a revocation make of them
-- (profile).
use Rattle.std.specs.Prelude.{ℕ, ◌==◌, ◌&&◌, nat_le, Bool, true, false, if◌then◌else◌, List, [], ◌∷◌, ◌++◌, length, bytes_eq}
use Rattle.std.specs.List.{list_any}
use Rattle.key_hierarchy.specs.declared.answers.PutAnswer.{PutAnswer}
use Rattle.key_hierarchy.specs.declared.answers.PutAnswer.TheVariants.{Held, HeldAlready, Full, NoMemory}
use Rattle.key_hierarchy.specs.declared.answers.RevokeAnswer.{RevokeAnswer}
use Rattle.key_hierarchy.specs.declared.answers.RevokeAnswer.TheVariants as revoked
use Rattle.key_holders.specs.declared.rows.HolderRow.{HolderRow}
use Rattle.key_holders.specs.declared.rows.HeldRow.{HeldRow}

-- an access point is among some
abbrev pub is_in : ℕ → List ℕ → Bool
is_in r [] = false
is_in r (x ∷ xs) = if x == r then true else is_in r xs

-- a row as it is put: it is not revoked
abbrev pub live : HolderRow → HeldRow
live row = record { row = row; live = true }

-- a live row has that PMKR0Name
abbrev pub holds_live : List ℕ → List HeldRow → Bool
holds_live name rows = list_any (λ h. h.live && bytes_eq h.row.name name) rows

-- 64 rows have room, revoked ones counted
abbrev pub put_answer : List ℕ → List HeldRow → PutAnswer
put_answer name rows =
    if holds_live name rows then HeldAlready else if nat_le 64 (length rows) then Full else Held

-- where it is held, the row stands after all others
abbrev pub after_put : HolderRow → PutAnswer → List HeldRow → List HeldRow
after_put row Held rows = rows ++ live row ∷ []
after_put row HeldAlready rows = rows
after_put row Full rows = rows
after_put row NoMemory rows = rows

-- a row of that PMKR0Name is live no longer
abbrev pub ended_row : List ℕ → HeldRow → HeldRow
ended_row name h = if bytes_eq h.row.name name then record { row = h.row; live = false } else h

-- every row of that PMKR0Name is live no longer
abbrev pub ended : List ℕ → List HeldRow → List HeldRow
ended name [] = []
ended name (h ∷ hs) = ended_row name h ∷ ended name hs

-- revoked where a live row has the name, else absent
abbrev pub revoke_answer : List ℕ → List HeldRow → RevokeAnswer
revoke_answer name rows = if holds_live name rows then revoked.Revoked else revoked.Absent

-- where it is revoked, every row of that name is live no longer; else all is as before
abbrev pub after_revoke : List ℕ → RevokeAnswer → List HeldRow → List HeldRow
after_revoke name revoked.Revoked rows = ended name rows
after_revoke name revoked.Absent rows = rows
