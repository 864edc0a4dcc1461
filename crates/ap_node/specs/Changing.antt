-- What an access point does as keys of stations are changed.
-- For the code alone: no public contract speaks of it.
use Rattle.std.specs.Prelude.{◌≡◌, ℕ, zero, suc, Bool, true, false, List, [], ◌∷◌, ◌++◌, length, Option, Some, None}
use Rattle.domain_base.specs.declared.names.Akm.{Akm}
use Rattle.domain_base.specs.declared.names.Akm.TheVariants.{FtPsk}
use Rattle.domain_base.specs.declared.names.Node.{Node}
use Rattle.domain_base.specs.declared.names.Node.TheVariants.{Ap, Sta}
use Rattle.key_holders.specs.declared.rows.HeldRow.{HeldRow}
use Rattle.run_journal.specs.declared.domain.Domain.{Domain}
use Rattle.run_journal.specs.declared.acts.Part.TheVariants.{Session as OfSession}
use Rattle.run_journal.specs.declared.acts.Outcome.TheVariants.{Done}
use Rattle.run_journal.specs.declared.acts.Act.{Act}
use Rattle.run_journal.specs.declared.acts.Act.TheVariants as act
use Rattle.run_journal.specs.Changed.{changed}
use Rattle.domain_rules.specs.Here.{here}
use Rattle.domain_rules.specs.Rows.{Secret}
use Rattle.node_base.specs.Events.{Seen}
use Rattle.held_rows.specs.Knows.{KnowsRows}
use Rattle.held_rows.specs.Looks.{NoLooks}
use Rattle.ap_node.specs.State.{State, no_station, station_at, has_attempt, has_session}
use Rattle.ap_node.specs.Stands.{Stands}
use Rattle.ap_node.specs.Putting.{Revokes}
use Rattle.ap_node.specs.Takes.{IsBeside, Marked, RowsOn, closed}

-- with suite 4 the row under the name of the old key was revoked with the key holder of a, or there was none; with
-- suites 2 and 6 nothing was done
abbrev pub RevokesOld : Akm → Domain → ℕ → ℕ → List HeldRow → List HeldRow → List Act → Type 0
RevokesOld FtPsk d a sta old new g = (e : Act) × (g ≡ e ∷ []) × Revokes d a sta old new e
RevokesOld akm d a sta old new g = (g ≡ []) × (new ≡ old)

-- the session that was there is closed
abbrev pub closed_session : Node → Bool → List Act
closed_session p false = []
closed_session p true = act.Closed p OfSession ∷ []

-- what ends under the old key of p, by whether there was an attempt and a session, and the new key
abbrev pub changed_acts : Node → Bool → Bool → List ℕ → List Act
changed_acts p had_attempt had_session psk = closed p had_attempt ++ (closed_session p had_session ++ act.Secret p psk ∷ [])

-- the key of one station was changed: these acts tell of it
pub record IsRekeyed (d : Domain) (sta : ℕ) (psk : List ℕ) (old new : State) (xs ys : List HeldRow) (g : List Act) : Type 0 where
  pub beside : IsBeside old new sta
  pub left : station_at new.stations sta ≡ no_station
  pub revoked : List Act
  pub revokes : RevokesOld d.akm d old.number sta xs ys revoked
  pub says : g ≡ revoked ++ changed_acts (Sta sta) (has_attempt (station_at old.stations sta)) (has_session (station_at old.stations sta)) psk

-- those of the first so many, in order
abbrev pub AreRekeyed : Domain → List ℕ → ℕ → State → State → List HeldRow → List HeldRow → List Act → Type 0
AreRekeyed d psk zero old new xs ys g = (new ≡ old) × (ys ≡ xs) × (g ≡ [])
AreRekeyed d psk (suc k) old new xs ys g =
    (mid : State) × (zs : List HeldRow) × (before one : List Act) × (g ≡ before ++ one)
    × AreRekeyed d psk k old mid xs zs before × IsRekeyed d k psk mid new zs ys one

-- that of one station, or of all
abbrev pub RekeysNamed : Domain → Option ℕ → List ℕ → State → State → List HeldRow → List HeldRow → List Act → Type 0
RekeysNamed d (Some s) psk old new xs ys g = IsRekeyed d s psk old new xs ys g
RekeysNamed d None psk old new xs ys g = AreRekeyed d psk (length d.stas) old new xs ys g

-- a key was changed: it stands for what it did in the network with that, and so do the rows of its key holder
pub record HasChanged (d : Domain) (named : Option ℕ) (psk : List ℕ) (old new : State) (xs ys : List HeldRow) (s : Seen) : Type 0 where
  pub number : new.number ≡ old.number
  pub steps : (first : ℕ) (h : List Act) → Stands d first old h → KnowsRows d (Ap old.number) xs h
      → Marked (here d first (Ap old.number)) (Secret named psk) (Stands (changed d named psk) first new) (RowsOn NoLooks (changed d named psk) old.number ys h) h s
  pub came : s.outcome ≡ Done
