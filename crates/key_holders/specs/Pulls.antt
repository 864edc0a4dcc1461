-- What a pull may answer (profile).
use Rattle.std.specs.Prelude.{◌≡◌, ◌≢◌, ℕ, Bool, true, false, ◌&&◌, ⊤, List, Some, slice_get, bytes_eq}
use Rattle.domain_base.specs.declared.names.Mac.{Mac}
use Rattle.key_hierarchy.specs.declared.answers.PullAnswer.{PullAnswer}
use Rattle.key_hierarchy.specs.declared.answers.PullAnswer.TheVariants.{Found, NoHolder, Absent}
use Rattle.key_hierarchy.specs.FastTransition.{pmk_r1_name}
use Rattle.key_holders.specs.declared.rows.HolderRow.{HolderRow}
use Rattle.key_holders.specs.declared.rows.HeldRow.{HeldRow}
use Rattle.key_holders.specs.Keys.{row_r1}
use Rattle.key_holders.specs.Rows.{is_in, live}

-- a row of that PMKR0Name and station
abbrev pub Matches : List ℕ → Mac → HolderRow → Type 0
Matches name sta row = (row.name ≡ name) × (row.sta ≡ sta)

-- a live row of that PMKR0Name and station
abbrev pub is_match : List ℕ → Mac → HeldRow → Bool
is_match name sta h = (h.live && bytes_eq h.row.name name) && bytes_eq h.row.sta.0 sta.0

-- none is live: each row that matches is revoked
abbrev pub NoneLives : List ℕ → Mac → List HeldRow → Type 0
NoneLives name sta rows = (j : ℕ) (h : HeldRow) → slice_get rows j ≡ Some h → Matches name sta h.row → h.live ≡ false

-- by the rows of the access point that is asked: the PMK-R1 of a live row that matches, or no such row
abbrev pub MayPull : List HeldRow → List ℕ → Mac → Mac → PullAnswer → Type 0
MayPull rows name r1kh sta (Found r1) =
    (j : ℕ) × (row : HolderRow) × (slice_get rows j ≡ Some (live row)) × Matches name sta row × (r1 ≡ row_r1 row r1kh)
MayPull rows name r1kh sta Absent = NoneLives name sta rows
MayPull rows name r1kh sta NoHolder = ⊥

-- the r-th access point has that R0KH-ID
abbrev pub IsHolder : List (List ℕ) → List ℕ → ℕ → Type 0
IsHolder ids r0kh_id r = slice_get ids r ≡ Some r0kh_id

-- where an access point has the R0KH-ID, the answer is by the rows of one that has it, as `Of` says; else there is no
-- holder
abbrev pub ByHolder : List (List ℕ) → List ℕ → (ℕ → PullAnswer → Type 0) → PullAnswer → Type 0
ByHolder ids r0kh_id Of NoHolder = (r : ℕ) → slice_get ids r ≢ Some r0kh_id
ByHolder ids r0kh_id Of (Found r1) = (r : ℕ) × IsHolder ids r0kh_id r × Of r (Found r1)
ByHolder ids r0kh_id Of Absent = (r : ℕ) × IsHolder ids r0kh_id r × Of r Absent

-- at an access point that one has, the answer is by its rows
abbrev pub Answers : List (List ℕ) → List ℕ → (ℕ → List HeldRow) → List ℕ → List ℕ → Mac → Mac → PullAnswer → Type 0
Answers ids has rows r0kh_id name r1kh sta answer =
    ByHolder ids r0kh_id (λ r a. is_in r has ≡ true → MayPull (rows r) name r1kh sta a) answer

-- what is found has the PMKR1Name of the PMKR0Name that was asked for (IEEE Std 802.11-2020, 12.7.1.6.4, profile)
abbrev pub IsNamed : List ℕ → Mac → Mac → PullAnswer → Type 0
IsNamed name r1kh sta (Found r1) = r1.name ≡ pmk_r1_name name r1kh sta
IsNamed name r1kh sta NoHolder = ⊤
IsNamed name r1kh sta Absent = ⊤
