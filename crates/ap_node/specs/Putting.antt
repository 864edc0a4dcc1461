-- What an access point puts with its own key holder, and what it leaves of the others. That the access point of a
-- four-way handshake is the R0KH is IEEE Std 802.11-2020, 13.2.2 (IEEE Std 802.11-2020, 13.2.2, profile).
use Rattle.std.specs.Prelude.{◌≡◌, ◌≢◌, ℕ, Bool, true, false, List, [], ◌∷◌, ◌++◌, replicate}
use Rattle.domain_base.specs.declared.names.Akm.{Akm}
use Rattle.domain_base.specs.declared.names.Akm.TheVariants.{FtPsk}
use Rattle.domain_base.specs.declared.names.Node.TheVariants.{Ap, Sta}
use Rattle.key_hierarchy.specs.declared.answers.PutAnswer.{PutAnswer}
use Rattle.key_hierarchy.specs.declared.answers.RevokeAnswer.{RevokeAnswer}
use Rattle.key_hierarchy.specs.declared.answers.RevokeAnswer.TheVariants.{Absent}
use Rattle.key_holders.specs.declared.rows.HolderRow.{HolderRow}
use Rattle.key_holders.specs.declared.rows.HeldRow.{HeldRow}
use Rattle.key_holders.specs.Rows.{is_in, put_answer, after_put, revoke_answer, after_revoke}
use Rattle.run_journal.specs.declared.domain.Domain.{Domain}
use Rattle.run_journal.specs.declared.acts.Act.{Act}
use Rattle.run_journal.specs.declared.acts.Act.TheVariants.{Put, Revoked}
use Rattle.domain_rules.specs.Network.{r0kh_id}
use Rattle.domain_rules.specs.Reading.{KeyMessage}
use Rattle.act_memory.specs.Rooms.{IsRoom}
use Rattle.held_rows.specs.Knows.{own_row}
use Rattle.ap_node.specs.declared.ready.Ready.{Ready}

-- the row of a station at access point a
abbrev pub row_at : Domain → ℕ → ℕ → HolderRow
row_at d a sta = own_row d (Ap a) (Sta sta)

-- it was put with the key holder of a, which has these rows before and those after it: this act tells of it
pub record Puts (d : Domain) (a sta : ℕ) (old new : List HeldRow) (act : Act) : Type 0 where
  pub answer : PutAnswer
  pub is : act ≡ Put (r0kh_id d (Ap a)) (row_at d a sta).name (Sta sta) answer
  pub by_rows : answer ≡ put_answer (row_at d a sta).name old
  pub behind : new ≡ after_put (row_at d a sta) answer old

-- with suite 4 a row is put by the last message of an attempt
abbrev pub puts : Akm → Bool → Bool
puts FtPsk final = final
puts akm final = false

-- a row was put, or none
abbrev pub PutsWhere : Bool → Domain → ℕ → ℕ → List HeldRow → List HeldRow → List Act → Type 0
PutsWhere true d a sta old new g = (act : Act) × (g ≡ act ∷ []) × Puts d a sta old new act
PutsWhere false d a sta old new g = (g ≡ []) × (new ≡ old)

-- what taking that message of the station needs is ready, and a row is put where it is the last of an attempt
pub record IsReady (d : Domain) (a sta : ℕ) (octets : List ℕ) (k : KeyMessage) (final : Bool) (old new : List HeldRow) (r : Ready) : Type 0 where
  pub judged : r.is_final ≡ final
  pub room : IsRoom d (r0kh_id d (Ap a)) (Ap a) (Sta sta) octets k r.room
  pub opened : r.between.opened.items ≡ []
  pub put : PutsWhere (puts d.akm final) d a sta old new r.between.put.items

-- a row of the station was revoked with the key holder of a, or there was none: this act tells of it
pub record Revokes (d : Domain) (a sta : ℕ) (old new : List HeldRow) (act : Act) : Type 0 where
  pub answer : RevokeAnswer
  pub is : act ≡ Revoked (r0kh_id d (Ap a)) (row_at d a sta).name (Sta sta) answer
  pub by_rows : answer ≡ revoke_answer (row_at d a sta).name old
  pub behind : new ≡ after_revoke (row_at d a sta).name answer old

-- with suites 2 and 6 no key holder holds any
abbrev pub RevokesWhere : Akm → Domain → ℕ → ℕ → List HeldRow → List HeldRow → List Act → List Act → Type 0
RevokesWhere FtPsk d a sta old new waited waits = (act : Act) × (waits ≡ waited ++ act ∷ []) × Revokes d a sta old new act
RevokesWhere akm d a sta old new waited waits =
    (waits ≡ waited ++ Revoked (r0kh_id d (Ap a)) (replicate 16 0) (Sta sta) Absent ∷ []) × (new ≡ old)

-- a row was put or those of one PMKR0Name revoked, or rows stay as they are
pub data OneMove (old new : List HeldRow) : Type 0 where
  Stays : new ≡ old → OneMove old new
  PutsOne : (row : HolderRow) (answer : PutAnswer) → new ≡ after_put row answer old → OneMove old new
  EndsOne : (name : List ℕ) (answer : RevokeAnswer) → new ≡ after_revoke name answer old → OneMove old new

-- with the key holder of an access point a row was put, or that of a PMKR0Name revoked, or nothing was done with key holders: in each
-- case none was asked
pub data OneChange (H : Type 0) (PutsAt : H → ℕ → HolderRow → H → PutAnswer → Type 0) (RevokesAt : H → ℕ → List ℕ → H → RevokeAnswer → Type 0)
    (a : ℕ) (old new : H) : Type 0 where
  Unchanged : new ≡ old → OneChange H PutsAt RevokesAt a old new
  WithPut : (row : HolderRow) (answer : PutAnswer) → PutsAt old a row new answer → OneChange H PutsAt RevokesAt a old new
  WithRevoke : (name : List ℕ) (answer : RevokeAnswer) → RevokesAt old a name new answer → OneChange H PutsAt RevokesAt a old new

-- of the key holders that one has, those beside that of a stay as they are, and one has the same
pub record LeavesRest (a : ℕ) (ids_old ids_new : List (List ℕ)) (has_old has_new : List ℕ) (old new : ℕ → List HeldRow) : Type 0 where
  pub ids : ids_new ≡ ids_old
  pub still_has : has_new ≡ has_old
  pub others : (r : ℕ) → r ≢ a → is_in r has_old ≡ true → new r ≡ old r

-- of the key holders that one has, those beside that of a stay as they are, which moves once at most, and one has the same
pub record LeavesOthers (a : ℕ) (ids_old ids_new : List (List ℕ)) (has_old has_new : List ℕ) (old new : ℕ → List HeldRow) : Type 0 where
  pub ids : ids_new ≡ ids_old
  pub still_has : has_new ≡ has_old
  pub others : (r : ℕ) → r ≢ a → is_in r has_old ≡ true → new r ≡ old r
  pub one : OneMove (old a) (new a)
