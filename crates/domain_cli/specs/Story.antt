-- What a whole run did: the octets written by the journal, and the status (profile).
use Rattle.std.specs.Prelude.{◌≡◌, ℕ, List, Bool, true, Option}
use Rattle.std.specs.Io.KnownBytes.{Consumes, IsAtEnd, Appends}
use Rattle.domain_base.specs.Causes.{AppendsPart}
use Rattle.run_journal.specs.declared.acts.Entry.{Entry}
use Rattle.run_journal.specs.Report.{lines, IsReport}
use Rattle.script_lines.specs.Script.{Draft}
use Rattle.script_words.specs.declared.causes.Cause.TheVariants.{Plain}
use Rattle.script_words.specs.declared.forms.Form.TheVariants.{End}
use Rattle.frame_script.specs.declared.mistakes.Mistake.{Mistake}
use Rattle.domain_base.specs.declared.outside.LinkError.TheVariants as link
use Rattle.frame_script.specs.declared.reader.Mode.{Mode}
use Rattle.frame_script.specs.declared.reader.Mode.TheVariants.{Replay, Live}
use Rattle.script_lines.specs.declared.refusal.LineFault.{LineFault}
use Rattle.script_lines.specs.declared.refusal.LineFault.TheVariants as numbered
use Rattle.script_lines.specs.Refusals.{answer_of, fault_of}
use Rattle.script_runs.specs.declared.stops.Found.{Found}
use Rattle.script_runs.specs.declared.stops.Found.TheVariants as found
use Rattle.script_runs.specs.declared.stops.Stop.TheVariants as stop
use Rattle.domain_cli.specs.declared.status.Status.{Status}
use Rattle.domain_cli.specs.declared.status.Status.TheVariants.{Done, Usage, Script, Limit, ReadFault, WriteFault, NoMemory, LinkFault, DrawFault}
use Rattle.script_runs.specs.Script.{Rounds, point_of}
use Rattle.domain_base.specs.Told.{AirStory}
use Rattle.script_runs.specs.Story.{Tells}
use Rattle.script_runs.specs.Written.{IsShort}
use Rattle.script_runs.specs.Lives.{Meets}

-- the status when all went out that was to be written: which line goes past a limit is not told
abbrev pub status_by : ℕ → Mistake → LineFault → Status
status_by number mistake (numbered.Script reason) = Script number reason mistake
status_by number mistake (numbered.Limit which) = Limit which
status_by number mistake numbered.NoMemory = NoMemory

-- what a round lacks that is open is its end
abbrev pub unended : Mistake
unended = record { form = End; word = 1; cause = Plain }

-- the status of a whole run
abbrev pub status_of : Found → Status
status_of found.Whole = Done
status_of (found.Stopped (stop.Refused number refusal mistake)) = status_by number mistake (answer_of (fault_of refusal))
status_of (found.Stopped stop.NoMemory) = NoMemory
status_of (found.Stopped stop.DrawFault) = DrawFault
status_of (found.Stopped (stop.Broken link.Failed)) = LinkFault
status_of (found.Stopped (stop.Broken link.NoMemory)) = NoMemory
status_of (found.Stopped stop.Unwritten) = WriteFault
status_of (found.Unended number refusal) = status_by number unended (answer_of (fault_of refusal))
status_of found.ReadFault = ReadFault

-- the text that is to be written: with the whole script the report, else the lines alone
abbrev pub IsText : Found → List Entry → List ℕ → Type 0
IsText found.Whole j text = IsReport j text
IsText found_ j text = text ≡ lines j

-- of a script it is that, whatever its octets
abbrev pub IsReportText : Found → List ℕ → List Entry → List ℕ → Type 0
IsReportText found_ octets j text = IsText found_ j text

-- how a write fault comes: the reading ended over the lines of a round; or the whole script was read; or, whatever else was found, the
-- lines of nodes could not be written, where no event and no round was run
abbrev pub CanFail : Found → List Entry → Type 0
CanFail found.Whole j = Unit {0}
CanFail found_ j = IsShort found_ j

-- what went out, by the status and by how the reading ended. Only where a call of the sink failed it is not the whole text
abbrev pub Reports : Found → Status → List Entry → List ℕ → Option (List ℕ) → Option (List ℕ) → Type 0
Reports found_ Done j text old new = (status_of found_ ≡ Done) × Appends old new text
Reports found_ (Script number reason mistake) j text old new = (status_of found_ ≡ Script number reason mistake) × Appends old new text
Reports found_ (Limit which) j text old new = (status_of found_ ≡ Limit which) × Appends old new text
Reports found_ ReadFault j text old new = (status_of found_ ≡ ReadFault) × Appends old new text
Reports found_ WriteFault j text old new = CanFail found_ j × AppendsPart old new text
Reports found_ NoMemory j text old new = (status_of found_ ≡ NoMemory) × Appends old new text
Reports found_ LinkFault j text old new = (status_of found_ ≡ LinkFault) × Appends old new text
Reports found_ DrawFault j text old new = (status_of found_ ≡ DrawFault) × Appends old new text
Reports found_ Usage j text old new = ⊥

-- what was read, what it told and what was written, in a run of that kind. What is to be written is told by how the reading ended, by
-- the octets that were read, and by the journal
pub record RunsIn (Text : Found → List ℕ → List Entry → List ℕ → Type 0) (m : Mode) (draft : Draft) (rounds : Rounds) (found_ : Found) (left_old left_new out_old out_new : Option (List ℕ)) (status : Status) (j : List Entry) : Type 0 where
  pub octets : List ℕ
  pub ended : Bool
  pub text : List ℕ
  pub read : Consumes left_old left_new octets
  pub end : ended ≡ true → IsAtEnd left_new
  pub tells : Tells found_ octets ended (point_of m j draft rounds)
  pub is_text : Text found_ octets j text
  pub reports : Reports found_ status j text out_old out_new

-- a replay that was asked for
pub record Runs (left_old left_new out_old out_new : Option (List ℕ)) (status : Status) (j : List Entry) : Type 0 where
  pub draft : Draft
  pub rounds : Rounds
  pub found_ : Found
  pub runs : RunsIn IsReportText Replay draft rounds found_ left_old left_new out_old out_new status j

-- a live run that was asked for. One list of turns goes for all of it
pub record Lives (left_old left_new out_old out_new : Option (List ℕ)) (air_old air_new : Option AirStory) (last_old last_new : Option (List ℕ)) (status : Status) (j : List Entry) : Type 0 where
  pub draft : Draft
  pub rounds : Rounds
  pub found_ : Found
  pub runs : RunsIn IsReportText Live draft rounds found_ left_old left_new out_old out_new status j
  pub meets : Meets found_ draft rounds air_old air_new last_old last_new j
