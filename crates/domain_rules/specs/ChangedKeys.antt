-- What a changed key of a station adds to the history of a node: its acts, in order (profile).
use Rattle.std.specs.Prelude.{◌≡◌, ℕ, zero, suc, ◌<◌, List, [], ◌∷◌, ◌++◌, length, Option, Some, None}
use Rattle.domain_base.specs.declared.names.Akm.{Akm}
use Rattle.domain_base.specs.declared.names.Akm.TheVariants.{FtPsk}
use Rattle.domain_base.specs.declared.names.Node.{Node}
use Rattle.domain_base.specs.declared.names.Node.TheVariants.{Ap, Sta}
use Rattle.run_journal.specs.declared.domain.Domain.{Domain}
use Rattle.run_journal.specs.declared.acts.Act.{Act}
use Rattle.run_journal.specs.declared.acts.Act.TheVariants.{Secret}
use Rattle.run_journal.specs.Questions.{attempt, session, pending, associated, add}
use Rattle.domain_rules.specs.Network.{r0kh_id, root_at}
use Rattle.domain_rules.specs.FastTransition.{root_name}
use Rattle.domain_rules.specs.KeyHolders.{revoke_acts}
use Rattle.domain_rules.specs.Closing.{close_attempt, close_session, close_pending, close_associated}

-- PMKR0Name of a station's key at an access point (IEEE Std 802.11-2020, 12.7.1.6)
abbrev pub r0_name_of : Domain → Node → Node → List ℕ
r0_name_of d n p = root_name d (root_at d p (r0kh_id d n)) p

-- with suite 4 the row of the station under the name of its old key is revoked, and that there is none is told too; with
-- suites 2 and 6 there are no rows, and nothing is told (IEEE Std 802.11-2020, 13.2.2, profile)
abbrev pub old_row_by : Akm → Domain → Node → List Act → Node → List Act
old_row_by FtPsk d n h p = revoke_acts d n h p
old_row_by _ d n h p = []

-- at an access point: the row of the old key is revoked, and the attempt and the session under it end
abbrev pub secret_of : Domain → Node → List Act → List ℕ → Node → List Act
secret_of d n h psk p =
    old_row_by d.akm d n h p ++ (close_attempt p (attempt p h) ++ (close_session p (session p h) ++ Secret p psk ∷ []))

-- of the first so many stations, in order, each after those before it
abbrev pub secret_of_each : Domain → Node → List Act → List ℕ → ℕ → List Act
secret_of_each d n h psk zero = []
secret_of_each d n h psk (suc k) =
    secret_of_each d n h psk k ++ secret_of d n (add (secret_of_each d n h psk k) h) psk (Sta k)

-- the key of one station, or of all, is changed at a node: a station changes its own, and drops what it has. The names
-- of rows are those of the network as it was before
abbrev pub secret_acts : Domain → Node → List Act → Option ℕ → List ℕ → List Act
secret_acts d (Ap a) h (Some s) psk = secret_of d (Ap a) h psk (Sta s)
secret_acts d (Ap a) h None psk = secret_of_each d (Ap a) h psk (length d.stas)
secret_acts d (Sta s) h named psk = close_pending (pending h) ++ (close_associated (associated h) ++ Secret (Sta s) psk ∷ [])

-- the key of that station is changed: it is named, or listed where all are meant
abbrev pub IsNamedSta : Domain → Option ℕ → ℕ → Type 0
IsNamedSta d None s = s < length d.stas
IsNamedSta d (Some k) s = s ≡ k

-- where a key is changed, an access point drops what it has with the stations whose key it is, and a station what it has
-- with any access point
abbrev pub IsDropped : Domain → Node → Option ℕ → Node → Type 0
IsDropped d (Ap a) named (Sta s) = IsNamedSta d named s
IsDropped d (Ap a) named (Ap b) = ⊥
IsDropped d (Sta s) named p = Unit {0}
