-- What a station does on one event, and what its functions are given (this project's choice).
-- For the code alone: no public contract speaks of it.
use Rattle.std.specs.Prelude.{◌≡◌, ℕ, List, Option, Some, Result, MatchResult}
use Rattle.domain_base.specs.declared.names.Node.TheVariants.{Ap, Sta}
use Rattle.run_journal.specs.declared.domain.Domain.{Domain}
use Rattle.run_journal.specs.declared.acts.Reason.{Reason}
use Rattle.run_journal.specs.declared.acts.Outcome.{Outcome}
use Rattle.run_journal.specs.declared.acts.Outcome.TheVariants.{Refused}
use Rattle.run_journal.specs.declared.acts.Act.{Act}
use Rattle.domain_rules.specs.Here.{here}
use Rattle.domain_rules.specs.Reading.{Reads, ReadsAt}
use Rattle.run_journal.specs.Changed.{changed}
use Rattle.domain_rules.specs.Rows.{NodeEvent, Secret}
use Rattle.domain_rules.specs.Closing.{sender}
use Rattle.domain_rules.specs.ManagementFrames.{action_verdict}
use Rattle.domain_rules.specs.Verdict.{management_sender, first_verdict}
use Rattle.domain_rules.specs.DataVerdict.{data_verdict}
use Rattle.frame_intake.specs.SealedFields.{SealedFields, sealed_reading}
use Rattle.frame_intake.specs.ActionFields.{ActionFields, action_reading}
use Rattle.node_base.specs.Events.{Steps, seen}
use Rattle.station_node.specs.State.{State}
use Rattle.station_node.specs.Stands.{Stands}

-- the station before and after an event, and the acts that waited then
pub record Turn : Type 0 where
  pub old : State
  pub new : State
  pub waited : List Act
  pub waits : List Act

abbrev pub turn : State → State → List Act → List Act → Turn
turn old new waited waits = record { old = old; new = new; waited = waited; waits = waits }

-- it takes the event, whichever history it stands for, and a refusal leaves it
pub record IsTaken (d : Domain) (event : NodeEvent) (t : Turn) (outcome : Outcome) : Type 0 where
  pub number : t.new.number ≡ t.old.number
  pub steps : (first : ℕ) (h : List Act) → Stands d first t.old h
      → Steps (here d first (Sta t.old.number)) event (Stands d first t.new) h
      (seen t.waited t.waits outcome)
  pub refused : (why : Reason) → outcome ≡ Refused why → t.new ≡ t.old

-- it takes a changed key, its own, and stands for what it does in the network with that
pub record IsRekeyed (d : Domain) (named : Option ℕ) (psk : List ℕ) (t : Turn) (outcome : Outcome) : Type 0 where
  pub number : t.new.number ≡ t.old.number
  pub steps : (first : ℕ) (h : List Act) → Stands d first t.old h
      → Steps (here d first (Sta t.old.number)) (Secret named psk) (Stands (changed d named psk) first t.new) h
      (seen t.waited t.waits outcome)
  pub refused : (why : Reason) → outcome ≡ Refused why → t.new ≡ t.old

-- nothing was done
abbrev pub IsLeft : Turn → Type 0
IsLeft t = (t.new ≡ t.old) × (t.waits ≡ t.waited)

-- it takes the event, or does nothing where there is no memory
abbrev pub Takes : {E : Type 0} → Domain → NodeEvent → Turn → Result Outcome E → Type 0
Takes d event t result = MatchResult result (IsTaken d event t) (λ e. IsLeft t)

-- it takes a changed key, or does nothing where there is no memory
abbrev pub TakesKey : {E : Type 0} → Domain → Option ℕ → List ℕ → Turn → Result Outcome E → Type 0
TakesKey d named psk t result = MatchResult result (IsRekeyed d named psk t) (λ e. IsLeft t)

-- the octets are that protected data for the station from that access point
pub record IsDataFrom (d : Domain) (sta ap : ℕ) (octets : List ℕ) (f : SealedFields) : Type 0 where
  pub reads : Reads d.akm octets (sealed_reading f)
  pub from : sender d (Sta sta) (sealed_reading f) ≡ Some (Ap ap)
  pub verdict_is : (first : ℕ) (h : List Act) → first_verdict d first (Sta sta) h (sealed_reading f)
      ≡ data_verdict (Sta sta) h (Ap ap) f.header f.tid f.body

-- the octets are that Action frame for the station from that access point
pub record IsActionFrom (d : Domain) (sta ap : ℕ) (octets : List ℕ) (f : ActionFields) : Type 0 where
  pub reads : ReadsAt d octets (action_reading f)
  pub from : sender d (Sta sta) (action_reading f) ≡ Some (Ap ap)
  pub named : management_sender d (Sta sta) f.header ≡ Some (Ap ap)
  pub verdict_is : (first : ℕ) (h : List Act) → first_verdict d first (Sta sta) h (action_reading f) ≡ action_verdict h (Ap ap) f.body
