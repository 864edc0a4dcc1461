-- What the rows of an access point's own key holder have to do with its history. The keys are those of IEEE Std
-- 802.11-2020, 12.7.1.6.3 (IEEE Std 802.11-2020, 12.7.1.6.3, profile).
use Rattle.std.specs.Prelude.{◌≡◌, ◌≢◌, ℕ, ◌<◌, Bool, true, false, not, ◌&&◌, ◌||◌, List, [], ◌∷◌, length, Option, Some, None, is_some}
use Rattle.std.specs.List.{AllByRecursion, list_any}
use Rattle.domain_base.specs.declared.names.Akm.TheVariants.{FtPsk}
use Rattle.domain_base.specs.declared.names.Node.{Node}
use Rattle.domain_base.specs.declared.names.Node.TheVariants.{Sta}
use Rattle.key_hierarchy.specs.declared.fast_transition.PmkR0.{PmkR0}
use Rattle.key_hierarchy.specs.declared.answers.PutAnswer.TheVariants as put
use Rattle.key_hierarchy.specs.declared.answers.RevokeAnswer.TheVariants as revoke
use Rattle.key_hierarchy.specs.FastTransition.{pmk_r0}
use Rattle.key_holders.specs.declared.rows.HolderRow.{HolderRow}
use Rattle.key_holders.specs.declared.rows.HeldRow.{HeldRow}
use Rattle.key_holders.specs.Keys.{row_of}
use Rattle.key_holders.specs.Rows.{holds_live}
use Rattle.key_holders.specs.Pulls.{is_match}
use Rattle.run_journal.specs.declared.domain.Domain.{Domain}
use Rattle.run_journal.specs.declared.acts.Act.{Act}
use Rattle.run_journal.specs.declared.acts.Act.TheVariants.{Put, Revoked}
use Rattle.run_journal.specs.Holders.{is_ended, row, rows}
use Rattle.domain_rules.specs.Network.{mac, psk_of, r0kh_id}
use Rattle.domain_rules.specs.HeldRight.{is_of, puts_row}

-- the PMK-R0 of station p by that pre-shared key, at the R0KH that access point n is
abbrev pub r0_by : List ℕ → Domain → Node → Node → PmkR0
r0_by psk d n p = pmk_r0 psk d.ssid d.mdid (r0kh_id d n) (mac d p)

-- the row of it that an access point's own key holder keeps
abbrev pub row_by : List ℕ → Domain → Node → Node → HolderRow
row_by psk d n p = row_of (r0_by psk d n p) (mac d p)

-- by the key that the station has in the network
abbrev pub own_r0 : Domain → Node → Node → PmkR0
own_r0 d n p = r0_by (psk_of d p) d n p

abbrev pub own_row : Domain → Node → Node → HolderRow
own_row d n p = row_by (psk_of d p) d n p

-- the row has the name and the key of a PMK-R0 of a listed station, and its address. A live one is of the key that the
-- station has: that of an older key was revoked as the key was changed
pub record IsOwn (d : Domain) (n : Node) (x : HeldRow) : Type 0 where
  pub sta : ℕ
  pub listed : sta < length d.stas
  pub psk : List ℕ
  pub is : x.row ≡ row_by psk d n (Sta sta)
  pub present : x.live ≡ true → psk ≡ psk_of d (Sta sta)

-- a listed station, where there is one (profile)
abbrev pub IsListedSta : Domain → Option Node → Type 0
IsListedSta d None = Unit {0}
IsListedSta d (Some p) = (k : ℕ) × (k < length d.stas) × (p ≡ Sta k)

-- by the acts of the access point alone, newest first: a row of that name and station was put, and since then none of
-- that name was revoked (profile)
abbrev pub stands_in : List ℕ → Node → List Act → Bool
stands_in name p [] = false
stands_in name p (e ∷ h) = puts_row name p e || (not (is_ended name e) && stands_in name p h)

-- The rows of access point n are those of its history: so many were put, a live one has a name exactly where the
-- history has one, and is that of the station that the history says. Of all that was put under a name, the last that
-- was not revoked counts. There are rows with suite 4 alone (profile).
pub record KnowsRows (d : Domain) (n : Node) (xs : List HeldRow) (h : List Act) : Type 0 where
  pub count : length xs ≡ rows h
  pub live_is : (name : List ℕ) → holds_live name xs ≡ is_some (row name h)
  pub station_is : (name : List ℕ) (k : ℕ) → k < length d.stas → list_any (is_match name (mac d (Sta k))) xs ≡ is_of (Sta k) (row name h)
  pub last : (name : List ℕ) (k : ℕ) → stands_in name (Sta k) h ≡ is_of (Sta k) (row name h)
  pub listed : (name : List ℕ) → IsListedSta d (row name h)
  pub own : AllByRecursion (IsOwn d n) xs
  pub suite : d.akm ≢ FtPsk → xs ≡ []

-- the act changes a row (profile)
abbrev pub moves_rows : Act → Bool
moves_rows (Put x m p put.Held) = true
moves_rows (Revoked x m p revoke.Revoked) = true
moves_rows _ = false

-- none of the acts changes a row (profile)
abbrev pub LeaveRows : List Act → Type 0
LeaveRows g = AllByRecursion (λ e. moves_rows e ≡ false) g
