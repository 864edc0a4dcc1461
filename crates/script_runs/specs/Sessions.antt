-- What a session writes to a sink (profile).
use Rattle.std.specs.Prelude.{◌≡◌, ℕ, List, length, Option, Result, Ok, Err}
use Rattle.std.specs.Io.KnownBytes.{Appends}
use Rattle.domain_base.specs.Causes.{Rose, AppendsPart}
use Rattle.run_journal.specs.declared.acts.Entry.{Entry}
use Rattle.journal_report.specs.Since.{lines_since}
use Rattle.script_runs.specs.declared.session.SessionFault.{SessionFault}
use Rattle.script_runs.specs.declared.session.SessionFault.TheVariants.{NoMemory, WriteFault}

-- what a sink tells, and how often it has failed
pub record Output : Type 0 where
  pub out : Option (List ℕ)
  pub faults : ℕ

-- both, as they are told
abbrev pub output : Option (List ℕ) → ℕ → Output
output out faults = record { out = out; faults = faults }

-- the sink has gained the lines of the entries after so many, and no call failed
pub record Gained (old new : Output) (from : ℕ) (j : List Entry) : Type 0 where
  pub out : Appends old.out new.out (lines_since from j)
  pub unfailed : new.faults ≡ old.faults

-- or a front of them, as a call failed
pub record GainedPart (old new : Output) (from : ℕ) (j : List Entry) : Type 0 where
  pub out : AppendsPart old.out new.out (lines_since from j)
  pub failed : Rose old.faults new.faults

-- what was to be run was run, whether or not its lines could be written
abbrev pub OnRun : {T : Type 0} → Result T SessionFault → Type 0 → Type 0
OnRun (Ok x) P = P
OnRun (Err WriteFault) P = P
OnRun (Err NoMemory) P = Unit {0}

-- or it was not, as memory ran out
abbrev pub OnUnrun : {T : Type 0} → Result T SessionFault → Type 0 → Type 0
OnUnrun (Ok x) P = Unit {0}
OnUnrun (Err WriteFault) P = Unit {0}
OnUnrun (Err NoMemory) P = P

-- what was written, where so many entries of the journal were written before: the lines of all others; a front of them, where a call
-- of the sink failed; or none, where nothing was run
abbrev pub Writes : {T : Type 0} → Result T SessionFault → Output → Output → ℕ → ℕ → List Entry → Type 0
Writes (Ok x) old new before now j = Gained old new before j × (now ≡ length j)
Writes (Err WriteFault) old new before now j = GainedPart old new before j × (now ≡ before)
Writes (Err NoMemory) old new before now j = (new ≡ old) × (now ≡ before)
