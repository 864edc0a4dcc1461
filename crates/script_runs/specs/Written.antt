-- How much of its journal was written while a script was read (profile).
use Rattle.std.specs.Prelude.{◌≡◌, ◌⊎◌, ℕ, ◌≤◌, Bool, true, false, List, [], ◌++◌, length, Option, None, Some, Result, Ok, Err}
use Rattle.std.specs.List.{AllByRecursion}
use Rattle.std.specs.Io.KnownBytes.{Appends}
use Rattle.domain_base.specs.Causes.{Rose, AppendsPart}
use Rattle.run_journal.specs.declared.acts.Entry.{Entry}
use Rattle.run_journal.specs.Report.{lines}
use Rattle.domain_links.specs.declared.breaks.Break.{Break}
use Rattle.domain_links.specs.declared.breaks.Break.TheVariants.{ByWrite}
use Rattle.script_runs.specs.declared.session.Session.{Session}
use Rattle.script_runs.specs.declared.session.SessionFault.{SessionFault}
use Rattle.script_runs.specs.declared.session.SessionFault.TheVariants.{WriteFault}
use Rattle.script_runs.specs.declared.stops.Found.{Found}
use Rattle.script_runs.specs.declared.stops.Found.TheVariants as found
use Rattle.script_runs.specs.declared.stops.Stop.{Stop}
use Rattle.script_runs.specs.declared.stops.Stop.TheVariants as stop
use Rattle.script_runs.specs.declared.stops.Undone.{Undone}
use Rattle.script_runs.specs.declared.stops.Undone.TheVariants as undone
use Rattle.script_runs.specs.Sessions.{Output}

-- how many entries of the journal a session has written, where there is one
abbrev pub written_of : Option Session → ℕ
written_of None = 0
written_of (Some s) = s.writer

-- the entries are those of nodes that started: of no event, and of no round
abbrev pub AreStarts : List Entry → Type 0
AreStarts j = AllByRecursion (λ (e : Entry). e.round ≡ 0) j

-- since the sink was as at first it has gained the lines of the first so many entries, and no call failed. Others are left only before
-- the first event and the first round
pub record Wrote (first now : Output) (written : ℕ) (j : List Entry) : Type 0 where
  pub late : List Entry
  pub early : List Entry
  pub whole : late ++ early ≡ j
  pub count : written ≡ length early
  pub out : Appends first.out now.out (lines early)
  pub unfailed : now.faults ≡ first.faults
  pub left : (late ≡ []) ⊎ AreStarts j

-- or a front of all lines, as a call failed
pub record WrotePart (first now : Output) (j : List Entry) : Type 0 where
  pub out : AppendsPart first.out now.out (lines j)
  pub failed : Rose first.faults now.faults

-- by whether the lines of the last round could not be written
abbrev pub WroteBy : Bool → Output → Output → ℕ → List Entry → Type 0
WroteBy true first now written j = WrotePart first now j
WroteBy false first now written j = Wrote first now written j

-- one step of the reading, and what was written by it: whatever was before
pub record GoesOn (short : Bool) (old new : Output) (before now : ℕ) (j k : List Entry) : Type 0 where
  pub count : short ≡ false → now ≤ length k
  pub on : (first : Output) → Wrote first old before j → WroteBy short first new now k

-- whether the lines of the last round could not be written, by the answer
abbrev pub session_short : {T : Type 0} → Result T SessionFault → Bool
session_short (Err WriteFault) = true
session_short result = false

abbrev pub break_short : {T : Type 0} → Result T Break → Bool
break_short (Err ByWrite) = true
break_short result = false

abbrev pub undone_short : {T : Type 0} → Result T Undone → Bool
undone_short (Err undone.Unwritten) = true
undone_short result = false

abbrev pub stop_short : {T : Type 0} → Result T Stop → Bool
stop_short (Err stop.Unwritten) = true
stop_short result = false

abbrev pub found_short : Found → Bool
found_short (found.Stopped stop.Unwritten) = true
found_short found_ = false

-- lines cannot be written of the last round; and where something else is found, only those of nodes, where no event and no round was run
abbrev pub IsShort : Found → List Entry → Type 0
IsShort (found.Stopped stop.Unwritten) j = Unit {0}
IsShort found_ j = AreStarts j

-- at the end of a reading all lines of the journal were written, or a front of them
abbrev pub HasWritten : {T E : Type 0} → Found → Result T E → Output → Output → List Entry → Type 0
HasWritten found_ (Ok x) first now j = (Appends first.out now.out (lines j) × (now.faults ≡ first.faults)) × (found_short found_ ≡ false)
HasWritten found_ (Err error) first now j = WrotePart first now j × IsShort found_ j
