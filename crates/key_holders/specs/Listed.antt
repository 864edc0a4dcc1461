-- Key holders that one alone has: a list of rows for each access point (profile).
use Rattle.std.specs.Prelude.{◌≡◌, ◌≢◌, ℕ, zero, suc, List, [], ◌∷◌, length, replicate, slice_index_or}
use Rattle.domain_base.specs.declared.names.Mac.{Mac}
use Rattle.key_hierarchy.specs.declared.answers.PullAnswer.{PullAnswer}
use Rattle.key_hierarchy.specs.declared.answers.PutAnswer.{PutAnswer}
use Rattle.key_hierarchy.specs.declared.answers.RevokeAnswer.{RevokeAnswer}
use Rattle.key_holders.specs.declared.rows.HeldRow.{HeldRow}
use Rattle.key_holders.specs.declared.rows.HolderRow.{HolderRow}
use Rattle.key_holders.specs.Rows.{after_put, after_revoke}
use Rattle.key_holders.specs.Pulls.{MayPull, ByHolder}

-- the R0KH-IDs, and the rows of each access point, in one order
pub record Listed : Type 0 where
  pub ids : List (List ℕ)
  pub rows : List (List HeldRow)

-- at first no access point holds a row
abbrev pub none_held : List (List ℕ) → Listed
none_held ids = record { ids = ids; rows = replicate (length ids) [] }

-- 0 to n - 1, the last first
abbrev pub below : ℕ → List ℕ
below zero = []
below (suc n) = n ∷ below n

-- the rows of one access point
abbrev pub rows_at : List (List HeldRow) → ℕ → List HeldRow
rows_at rows r = slice_index_or rows r []

-- exactly by the rows of the access point that is asked
abbrev pub Pulled : Listed → List ℕ → List ℕ → Mac → Mac → PullAnswer → Type 0
Pulled h r0kh_id name r1kh sta answer = ByHolder h.ids r0kh_id (λ r a. MayPull (rows_at h.rows r) name r1kh sta a) answer

-- the rows of an access point become these, and nothing else does
pub record MovesAt (g : Listed) (r : ℕ) (rows : List HeldRow) (h : Listed) : Type 0 where
  pub ids : h.ids ≡ g.ids
  pub here : rows_at h.rows r ≡ rows
  pub others : (s : ℕ) → s ≢ r → rows_at h.rows s ≡ rows_at g.rows s

-- what a put does at an access point
abbrev pub PutAt : Listed → ℕ → HolderRow → Listed → PutAnswer → Type 0
PutAt g r row h answer = MovesAt g r (after_put row answer (rows_at g.rows r)) h

-- what a revocation does at an access point
abbrev pub RevokedAt : Listed → ℕ → List ℕ → Listed → RevokeAnswer → Type 0
RevokedAt g r name h answer = MovesAt g r (after_revoke name answer (rows_at g.rows r)) h
